-- `write_answer`: its clauses hold where it returns.
use Rattle.std.proofs.Common.{◌≡◌, List, [], ◌∷◌, ℤ, pos, sym, ap, ◌∙◌, w32, to_z, of_z, rules}
use Rattle.std.proofs.lemmas.Int.{to_z-of_z}
use Rattle.lines.specs.Line.{written_text}
use Rattle.lines.specs.Page.{Model, model, with_text}
use Rattle.lines.proofs.Filling.{written_stands}
use Rattle.sheets.specs.Answers.{answer_number}
use Rattle.sessions.specs.Frames.{answer_place}
use Rattle.sessions.specs.Session.{answer_text}
use Rattle.sessions.proofs.Replies.{answer_text_length, filled}
use Rattle.sessions.proofs.session.write_answer.Goals as goal

pub returns : goal.returns
unfolding answer_text
returns c =
    let bytes = c.args.bytes.now in
    let x = to_z w32 (of_z w32 c.args.number) in
    let z = to_z w32 (of_z w32 c.place_of.result) in
    let y = to_z w32 c.number_of.result in
    let ws : List ℤ = x ∷ (y ∷ (z ∷ [])) in
    let small : y ≡ pos c.number_of.result = search rules in
    let n : y ≡ pos (answer_number c.args.answer) = small ∙ ap pos c.number_of.ensures in
    let a : x ≡ c.args.number = to_z-of_z w32 c.args.number c.ranges.number in
    let p : z ≡ answer_place c.args.answer
    = to_z-of_z w32 c.place_of.result (record { sfits = c.place_of.type_inv }) ∙ c.place_of.ensures in
    let done = sym c.write_line.ensures.answer ∙ c.unwrap.ensures in
    let first = model c.new-page.result in
    let written : model c.write_line.new.page ≡ with_text first (answer_text c.args.number c.args.answer)
    = written_stands first (model c.write_line.new.page) 129 ws c.unwrap.result done c.write_line.ensures.left
    ∙ (λ j. with_text first (written_text 129 (a j ∷ (n j ∷ (p j ∷ []))))) in
    let text = answer_text c.args.number c.args.answer in
    let kept : _ ≡ c.write_line.new.page.bytes.now = search rules in
    kept ∙ ap (λ (m : Model). m.bytes) written ∙ ap (λ (m : Model). (with_text m text).bytes) c.new-page.ensures.model
    ∙ filled bytes text (answer_text_length c.args.number c.args.answer ∙ sym c.requires.exact)
