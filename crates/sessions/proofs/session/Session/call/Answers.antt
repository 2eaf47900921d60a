-- `Session::call`: its clauses hold where it returns.
use Rattle.std.proofs.Common.{◌≡◌, ℕ, ◌+◌, List, ◌++◌, length, drop, Ok, Option, sym, ap, ◌∙◌, subst, zero-add, w32, to_z, of_z, rules}
use Rattle.std.proofs.lemmas.Int.{to_z-of_z}
use Rattle.std.proofs.lemmas.List.{length-append}
use Rattle.faults.specs.Refusing.{ok_unless, left_unless}
use Rattle.faults.specs.declared.SheetFault.{SheetFault}
use Rattle.lines.specs.Page.{Model, model, over, with_text}
use Rattle.sessions.specs.Law.{LineLaw}
use Rattle.sessions.specs.Session.{view, answer_length, answer_text, line_answer, line_text_behind, reply}
use Rattle.sessions.proofs.Fitting.{fitting, roomy}
use Rattle.sessions.proofs.Lawful.{line_law}
use Rattle.sessions.proofs.Replies.{enough_lent, answer_text_length, both_over}
use Rattle.sessions.proofs.session.Session.call.Goals as goal

pub returns-clause-value : goal.returns-clause-value
unfolding reply
returns-clause-value c =
    let v = view c.args.self.now in
    let line = c.args.line.now in
    let front = answer_text c.args.number (line_answer v line) in
    let text = line_text_behind v line in
    let n = enough_lent (length c.args.out.now) (length c.args.words.now) c.if-out-lt-OUTPUT.false c.if-words-lt-MOST_NUMBERS.false in
    let page : model c.answer_line-answer.new.page ≡ with_text (model c.new-page.result) text = c.answer_line-answer.ensures.page in
    let ended : c.end.result ≡ length text = c.end.ensures ∙ ap (λ (m : Model). m.end) page ∙ ap (λ (m : Model). m.end + length text) c.new-page.ensures.model ∙ zero-add (length text) in
    let both : length (front ++ text) ≡ answer_length + length text = length-append front text ∙ ap (λ k. k + length text) (answer_text_length c.args.number (line_answer v line)) in
    ap Ok (ap (λ k. answer_length + k) ended ∙ sym both) ∙ ap (λ (o : Option SheetFault). ok_unless o (length (front ++ text))) (sym n)

pub returns-clause-out : goal.returns-clause-out
unfolding reply
returns-clause-out c =
    let v = view c.args.self.now in
    let line = c.args.line.now in
    let out = c.args.out.now in
    let front = answer_text c.args.number (line_answer v line) in
    let text = line_text_behind v line in
    let n = enough_lent (length out) (length c.args.words.now) c.if-out-lt-OUTPUT.false c.if-words-lt-MOST_NUMBERS.false in
    let page : model c.answer_line-answer.new.page ≡ with_text (model c.new-page.result) text = c.answer_line-answer.ensures.page in
    let rest : c.split_at_mut-head.result.1.now ≡ drop answer_length out = search rules in
    let kept : c.rest-1.given.0 ≡ c.answer_line-answer.new.page.bytes.now = search rules in
    let behind : c.rest-1.given.0 ≡ over (drop answer_length out) 0 text
    = kept ∙ ap (λ (m : Model). m.bytes) page ∙ ap (λ (m : Model). (with_text m text).bytes) c.new-page.ensures.model ∙ ap (λ (bytes : List ℕ). over bytes 0 text) rest in
    let number : to_z w32 (of_z w32 c.args.number) ≡ c.args.number = to_z-of_z w32 c.args.number c.ranges.number in
    let head : c.write_answer.new.bytes ≡ front = c.write_answer.ensures ∙ (λ j. answer_text (number j) (c.answer_line-answer.ensures.answer j)) in
    (λ j. head j ++ behind j) ∙ both_over out front text answer_length (answer_text_length c.args.number (line_answer v line))
    ∙ ap (λ (o : Option SheetFault). left_unless o out (over out 0 (front ++ text))) (sym n)

pub returns-clause-law : goal.returns-clause-law
returns-clause-law c =
    let v = view c.args.self.now in
    let line = c.args.line.now in
    let fits = fitting c.args.self.now (search rules) (search rules) in
    let law = line_law v line (roomy v fits) (λ _. record { whole = fits.whole; weekday = fits.weekday }) in
    λ _. subst (LineLaw v line (line_answer v line) (line_text_behind v line)) (sym c.answer_line-answer.ensures.left) law
