-- `Sheet::post`: its clauses hold where it returns.
use Rattle.std.proofs.Common.{ap, ◌≡◌, ◌-◌, Some, Err, sym, refl, ◌∙◌, rules}
use Rattle.std.proofs.lemmas.Result.{err_from_is_err_and}
use Rattle.sheets.specs.Sheet.{Model, model, post_refusal, post_answer, post_left}
use Rattle.sheets.proofs.PostLaws.{post_keeps}
use Rattle.sheets.proofs.Refusals.{undone}
use Rattle.sheets.proofs.sheet.Sheet.post.Goals as goal

pub returns-in_err-check_post : goal.returns-in_err-check_post
returns-in_err-check_post g c =
    let a = g.K.Kind.arith in
    let m = model c.args.self.now in
    let ws = c.args.words.now in
    let fault = c.in_err-check_post.field-0.0 in
    let o : post_refusal a m ws ≡ Some fault = undone (post_refusal a m ws) fault (sym c.check_post.ensures.value ∙ c.in_err-check_post.was) in
    let q = err_from_is_err_and c.from_residual.result c.from_residual.ensures.1 in
    let e : c.from_residual.result ≡ Err fault = q.1 ∙ ap Err q.2 in
    let answer : c.from_residual.result ≡ post_answer a m ws = e ∙ (search rules) in
    let left : m ≡ post_left a m ws = search rules in
    let k = post_keeps a g.met.K.Kind.kept m c.args.self.now.shape.few c.args.self.now.cells_enough ws (λ e. absurd cc) c.from_residual.result m answer left in
    record { held = refl; answer = answer; left = left; refusals = k.refusals; law = k.law; wiped = k.wiped }

pub returns-in-Ok-Done : goal.returns-in-Ok-Done
returns-in-Ok-Done g c =
    let a = g.K.Kind.arith in
    let s = c.args.self.now.shape in
    let m = model c.args.self.now in
    let ws = c.args.words.now in
    let r = c.post_words-answer.result in
    let after : Model g.row.K-Cell.Denot = record { cells = c.post_words-answer.new.cells; unknowns = s.unknowns; moves = s.moves - 1; list = c.args.self.now.list } in
    let answer : r ≡ post_answer a m ws = search rules in
    let left : after ≡ post_left a m ws = search rules in
    let k = post_keeps a g.met.K.Kind.kept m s.few c.args.self.now.cells_enough ws (λ _. c.in_ok-check_post.ensures.fit) r after answer left in
    record { held = refl; answer = answer; left = left; refusals = k.refusals; law = k.law; wiped = k.wiped }

pub returns-in_ok-check_post : goal.returns-in_ok-check_post
returns-in_ok-check_post g c =
    let a = g.K.Kind.arith in
    let s = c.args.self.now.shape in
    let m = model c.args.self.now in
    let ws = c.args.words.now in
    let r = c.post_words-answer.result in
    let after : Model g.row.K-Cell.Denot = record { cells = c.post_words-answer.new.cells; unknowns = s.unknowns; moves = s.moves; list = c.args.self.now.list } in
    let answer : r ≡ post_answer a m ws = search rules in
    let left : after ≡ post_left a m ws = search rules in
    let k = post_keeps a g.met.K.Kind.kept m s.few c.args.self.now.cells_enough ws (λ _. c.in_ok-check_post.ensures.fit) r after answer left in
    record { held = refl; answer = answer; left = left; refusals = k.refusals; law = k.law; wiped = k.wiped }

pub returns-in_ok-check_post-2 : goal.returns-in_ok-check_post-2
returns-in_ok-check_post-2 g c =
    let a = g.K.Kind.arith in
    let s = c.args.self.now.shape in
    let m = model c.args.self.now in
    let ws = c.args.words.now in
    let r = c.post_words-answer.result in
    let after : Model g.row.K-Cell.Denot = record { cells = c.post_words-answer.new.cells; unknowns = s.unknowns; moves = s.moves; list = c.args.self.now.list } in
    let answer : r ≡ post_answer a m ws = search rules in
    let left : after ≡ post_left a m ws = search rules in
    let k = post_keeps a g.met.K.Kind.kept m s.few c.args.self.now.cells_enough ws (λ _. c.in_ok-check_post.ensures.fit) r after answer left in
    record { held = refl; answer = answer; left = left; refusals = k.refusals; law = k.law; wiped = k.wiped }
