-- `write_line`: its loop keeps what holds at each turn and its clauses hold where it returns.
use Rattle.std.proofs.Common.{◌≡◌, ℕ, ◌+◌, length, get_or, take, fold, pos, Option, sym, ap, ◌∙◌, subst, arith, w32, SFits, rules}
use Rattle.std.specs.List.{AllByRecursion}
use Rattle.std.proofs.ByRecursion.{All-more}
use Rattle.lines.proofs.Returning.{reads_back}
use Rattle.std.proofs.lemmas.List.{take_all}
use Rattle.std.proofs.lemmas.List.Sums.{fold_more}
use Rattle.faults.specs.declared.PageFault.{PageFault}
use Rattle.faults.specs.Refusing.{left_unless}
use Rattle.lines.specs.Line.{written_text}
use Rattle.lines.specs.Page.{Model, model, begun_page, with_word, closed_page, with_text}
use Rattle.lines.proofs.Filling.{line_stands, begins, begun_stands, close_begun}
use Rattle.lines.proofs.writing.write_line.Goals as goal

pub loop-w-preserved : goal.loop-w-preserved
loop-w-preserved c =
    let i = c.loop-w.w-index in
    let v = get_or c.args.words.now i (pos 0) in
    let e : model c.put.new.self ≡ with_word (model c.loop-w.page) v = search rules in
    let f : SFits w32 v = search rules in
    let p : model c.put.new.self ≡ fold with_word (model c.begin.new.self) (take (i + 1) c.args.words.now)
    = e ∙ ap (λ (m : Model). with_word m v) c.loop-w.invariant.1 ∙ sym (fold_more with_word (model c.begin.new.self) c.args.words.now i (pos 0) c.loop-w-test.true) in (
      c.put.ensures.held ∙ c.loop-w.invariant.0,
      p,
      ap (λ (m : Model). m.begun) e ∙ c.loop-w.invariant.2,
      ap (λ (m : Model). m.put) e ∙ ap (λ (n : ℕ). n + 1) c.loop-w.invariant.3,
      ap (λ (m : Model). m.room) e ∙ c.loop-w.invariant.4,
      All-more (SFits w32) c.args.words.now i (pos 0) c.loop-w-test.true c.loop-w.invariant.5 f,
    )

pub returns-clause-left : goal.returns-clause-left
returns-clause-left c =
    let m = model c.args.page.now in
    let ws = c.args.words.now in
    let frame = c.args.frame in
    let n = length ws in
    let b = begun_stands m (model c.begin.new.self) frame n c.in_ok-token.token (sym c.in_ok-token.ensures.answer) c.in_ok-token.ensures.left in
    let t = take_all c.loop-w.w-index ws c.loop-w-test.false in
    let p : model c.loop-w.page ≡ fold with_word (begun_page m frame n) ws
    = c.loop-w.invariant.1 ∙ (λ j. fold with_word (b.1 j) (t j)) in
    let w = with_text m (written_text frame ws) in
    c.close.ensures.left
    ∙ close_begun (model c.loop-w.page) c.loop-w.invariant.2
    ∙ ap closed_page p
    ∙ line_stands m frame ws (begins m n b.0).0
    ∙ sym (ap (λ (o : Option PageFault). left_unless o m w) b.0)

pub returns-clause-back : goal.returns-clause-back
returns-clause-back c =
    let ws = c.args.words.now in
    let m = model c.args.page.now in
    let n = length ws in
    let b = begun_stands m (model c.begin.new.self) c.args.frame n c.in_ok-token.token (sym c.in_ok-token.ensures.answer) c.in_ok-token.ensures.left in
    let t = take_all c.loop-w.w-index ws c.loop-w-test.false in
    reads_back c.args.frame ws (omega (arith, c.ranges.frame)) (begins m n b.0).1 (subst (AllByRecursion (SFits w32)) t c.loop-w.invariant.5)
