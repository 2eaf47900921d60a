-- What is written for a line is its reply.
use Rattle.std.proofs.Common.{◌≡◌, ℕ, ◌+◌, ◌≤◌, cond, List, ◌++◌, length, drop, ℤ, Some, None, sym, refl, ap, ◌∙◌, append_assoc, zero-add, arith}
use Rattle.std.proofs.lemmas.List.{append-nil, length-append, drop-drop, drop_all}
use Rattle.std.proofs.lemmas.Bool.{le-ltb}
use Rattle.faults.specs.declared.LineFault.TheVariants.{FewWords}
use Rattle.faults.specs.declared.PageFault.TheVariants.{NoRoom}
use Rattle.faults.specs.declared.SheetFault.TheVariants.{Page, Line}
use Rattle.lines.specs.Line.{most_numbers}
use Rattle.lines.specs.Page.{over}
use Rattle.sheets.specs.Answers.{Answer}
use Rattle.sessions.specs.Session.{answer_text, answer_length, output_length, lent_refusal}

-- enough is lent
pub enough_lent : (out words : ℕ) → output_length ≤ out → most_numbers ≤ words → lent_refusal out words ≡ None
enough_lent out words h k =
    (λ j. cond (le-ltb out output_length h j) (Some (Page NoRoom)) (cond (le-ltb words most_numbers k j) (Some (Line FewWords)) None))

pub answer_text_length : (number : ℤ) (r : Answer) → length (answer_text number r) ≡ answer_length
unfolding answer_text
answer_text_length number r = refl

-- a text over bytes that it fills
pub filled : (bytes text : List ℕ) → length text ≡ length bytes → over bytes 0 text ≡ text
filled bytes text l = ap (λ (d : List ℕ). text ++ d) (drop_all (0 + length text) bytes (let z = zero-add (length text) in omega arith)) ∙ append-nil text

-- two texts, one over the front of an output and one over what is behind it
pub both_over : (out front text : List ℕ) (n : ℕ) → length front ≡ n → front ++ over (drop n out) 0 text ≡ over out 0 (front ++ text)
both_over out front text n l =
    let z = zero-add (length text) in
    let y = zero-add (length (front ++ text)) in
    let k = length-append front text in
    let d : drop (0 + length text) (drop n out) ≡ drop (0 + length (front ++ text)) out = drop-drop (0 + length text) n out ∙ ap (λ (i : ℕ). drop i out) (omega arith) in
    ap (λ (x : List ℕ). front ++ (text ++ x)) d ∙ sym (append_assoc front text (drop (0 + length (front ++ text)) out))
