-- No line is answered 13 where a session has the cells of the largest sheet.
use Rattle.std.proofs.Common.{◌≡◌, ℕ, ◌+◌, Bool, true, false, ◌&&◌, cond, eqb, ltb, List, length, ℤ, Some, None, Ok, Err, Option, Result, sym, refl, ◌∙◌, subst, arith}
use Rattle.std.proofs.lemmas.Bool.{le-ltb, eqb-false}
use Rattle.faults.specs.Refusing.{done_unless}
use Rattle.faults.specs.declared.NumberFault.TheVariants.{Lowest, Modulus, Unknowns, ListNumber, NotAdmitted}
use Rattle.faults.specs.declared.LineFault.{LineFault}
use Rattle.faults.specs.declared.LineFault.TheVariants.{FewWords, Length, NoDigit, Size, Frame as LineFrame, Count as LineCount, Number as LineNumber}
use Rattle.faults.specs.declared.PageFault.TheVariants.{NoRoom, LineBegun, NoLine, TooMany}
use Rattle.faults.specs.declared.SheetFault.{SheetFault}
use Rattle.faults.specs.declared.SheetFault.TheVariants.{Page, Line, Number, NoSheet, Count, FewCells, Overflow, Contradicted}
use Rattle.kinds.specs.Kind.{Arithmetic}
use Rattle.kinds.specs.Weekday.{weekdays}
use Rattle.kinds.specs.Whole.{wholes}
use Rattle.lines.specs.Hex.{find}
use Rattle.lines.specs.Line.{frame_of, numbers, refusal}
use Rattle.plans.specs.Posting.{Outcome, taken, implied, contradicted, overflow}
use Rattle.sheets.specs.Answers.{Answer, plain_answer, answer_number}
use Rattle.sheets.specs.Calls.{SheetCall, clearing, showing, answer_to}
use Rattle.sheets.specs.Cells.{needed}
use Rattle.sheets.specs.Picking.{plan_in, pick_unless}
use Rattle.sheets.specs.Posted.{answer_of}
use Rattle.sheets.specs.Sheet.{Model, in_range, natural, most_unknowns, last_list, stands, word_fault, outcome_of, answer_unless as post_unless, checked, done}
use Rattle.sheets.specs.Showing.{show_length}
use Rattle.sheets.specs.Words.{is_refused}
use Rattle.sheets.specs.declared.call.Success.TheVariants.{Done, Implied}
use Rattle.sessions.specs.Frames.{known, frame_kind, kind_of, call_for, placed_result}
use Rattle.sessions.specs.Requests.{session_memory, answer_by, request_answer}
use Rattle.sessions.specs.Session.{View, without_sheet, on_whole, on_weekday, session_cells, whole_cells, weekday_cells, word, chosen_unless, open_by, open_check, open_answer, frame_answer, answer_unless, line_answer}
use Rattle.sessions.specs.declared.frame.Chosen.{Chosen}
use Rattle.sessions.specs.declared.frame.Chosen.TheVariants.{Whole, Weekday}
use Rattle.sessions.specs.declared.frame.Frame.{Frame}
use Rattle.sessions.specs.declared.frame.Frame.TheVariants.{Open, Ask}
use Rattle.sessions.specs.declared.frame.Request.{Request}
use Rattle.sessions.specs.declared.frame.Request.TheVariants.{Equation as Posting, Clear, Pick, Show}
use Rattle.sessions.proofs.Fitting.{needed_few, few_unknowns}

-- an answer that is not for lack of cells
abbrev Fine : Answer → Type 0
Fine (Ok success) = Unit {0}
Fine (Err (Page fault)) = Unit {0}
Fine (Err (Line fault)) = Unit {0}
Fine (Err (Number fault)) = Unit {0}
Fine (Err NoSheet) = Unit {0}
Fine (Err Count) = Unit {0}
Fine (Err FewCells) = ⊥
Fine (Err Overflow) = Unit {0}
Fine (Err Contradicted) = Unit {0}

-- has another number than 13
other : (r : Answer) → Fine r → eqb (answer_number r) 13 ≡ false
other (Ok Done) h = refl
other (Ok Implied) h = refl
other (Err (Page NoRoom)) h = refl
other (Err (Page LineBegun)) h = refl
other (Err (Page NoLine)) h = refl
other (Err (Page TooMany)) h = refl
other (Err (Line FewWords)) h = refl
other (Err (Line Length)) h = refl
other (Err (Line (NoDigit p))) h = refl
other (Err (Line Size)) h = refl
other (Err (Line LineFrame)) h = refl
other (Err (Line LineCount)) h = refl
other (Err (Line (LineNumber Lowest p))) h = refl
other (Err (Line (LineNumber Modulus p))) h = refl
other (Err (Line (LineNumber Unknowns p))) h = refl
other (Err (Line (LineNumber ListNumber p))) h = refl
other (Err (Line (LineNumber (NotAdmitted i) p))) h = refl
other (Err (Number Lowest)) h = refl
other (Err (Number Modulus)) h = refl
other (Err (Number Unknowns)) h = refl
other (Err (Number ListNumber)) h = refl
other (Err (Number (NotAdmitted i))) h = refl
other (Err NoSheet) h = refl
other (Err Count) h = refl
other (Err FewCells) h = absurd h
other (Err Overflow) h = refl
other (Err Contradicted) h = refl

-- the answer to what an opening asks for, by the tests of its numbers and of the cells
abbrev asked_by : ℕ × ℕ → Bool → Bool → Bool → Result (ℕ × ℕ) SheetFault
asked_by p x y z = cond x (cond y (cond z (Err FewCells) (Ok p)) (Err (Number ListNumber))) (Err (Number Unknowns))

-- an opening of up to 24 unknowns over a session's cells has enough of them
check_fine : (n list : ℤ) (len : ℕ) → len ≡ session_cells → (kind : Chosen) → Fine (open_answer (chosen_unless kind (placed_result (checked n list len))))
check_fine n list len l kind = by (in_range 1 most_unknowns n) (in_range 0 last_list list) (ltb len (needed (natural n))) refl refl
  where
    by : (x y z : Bool) → in_range 1 most_unknowns n ≡ x → ltb len (needed (natural n)) ≡ z → Fine (open_answer (chosen_unless kind (placed_result (done (asked_by (natural n, natural list) x y z)))))
    by false y z p q = tt
    by true false z p q = tt
    by true true false p q = tt
    by true true true p q =
        let f = needed_few (natural n) (few_unknowns n p) in
        let g : false ≡ true = sym (le-ltb len (needed (natural n)) (omega arith)) ∙ q in
        absurd cc

module _ (v : View) (w : length (whole_cells v) ≡ session_cells) (d : length (weekday_cells v) ≡ session_cells) where
  open_fine : (ws : List ℤ) → Fine (open_answer (open_check v ws))
  open_fine ws = by (eqb (length ws) 3) (kind_of (word ws 0))
    where
      by : (b : Bool) (o : Option Chosen) → Fine (open_answer (cond b (open_by o (word ws 1) (word ws 2) (length (whole_cells v)) (length (weekday_cells v))) (Err (Line LineCount))))
      by false o = tt
      by true (Some Whole) = check_fine (word ws 1) (word ws 2) (length (whole_cells v)) w Whole
      by true (Some Weekday) = check_fine (word ws 1) (word ws 2) (length (weekday_cells v)) d Weekday
      by true None = tt

outcome_fine : {N : Type 0} (o : Outcome N) → Fine (placed_result (answer_of o))
outcome_fine (taken t) = tt
outcome_fine implied = tt
outcome_fine contradicted = tt
outcome_fine overflow = tt

module _ {N C : Type 0} (a : Arithmetic N C) (m : Model C) (ws : List ℤ) where
  tested_fine : (s c : Bool) (o : Option ℕ) (r : Answer) → Fine (placed_result r) → (P : Option SheetFault → Answer) → P None ≡ r → ((fault : SheetFault) → P (Some fault) ≡ Err fault) →
      Fine (placed_result (P (cond s (cond c (word_fault o) (Some Count)) (Some NoSheet))))
  tested_fine false c o r h P p q = subst (λ (x : Answer). Fine (placed_result x)) (sym (q NoSheet)) tt
  tested_fine true false o r h P p q = subst (λ (x : Answer). Fine (placed_result x)) (sym (q Count)) tt
  tested_fine true true (Some i) r h P p q = subst (λ (x : Answer). Fine (placed_result x)) (sym (q (Number (NotAdmitted i)))) tt
  tested_fine true true None r h P p q = subst (λ (x : Answer). Fine (placed_result x)) (sym p) h

  post_fine : Fine (placed_result (answer_by a m (call_for Posting ws)))
  post_fine = tested_fine (stands m) (eqb (length ws) (m.unknowns + 1)) (find (is_refused a) ws) (answer_of (outcome_of a m ws)) (outcome_fine (outcome_of a m ws)) (λ o. post_unless a o (outcome_of a m ws)) refl (λ fault. refl)

  plan_fine : (o : Option (List N)) → Fine (placed_result (plain_answer (pick_unless a None o)))
  plan_fine (Some xs) = tt
  plan_fine None = tt

  pick_fine : Fine (placed_result (answer_by a m (call_for Pick ws)))
  pick_fine =
      let counted = eqb (length ws) m.moves && eqb (length (session_memory m).words) m.unknowns in
      tested_fine (stands m) counted (find (is_refused a) ws) (plain_answer (pick_unless a None (plan_in a m ws))) (plan_fine (plan_in a m ws)) (λ o. plain_answer (pick_unless a o (plan_in a m ws))) refl (λ fault. refl)

  clear_fine : (b : Bool) → Fine (placed_result (plain_answer (cond b (Ok tt) (Err NoSheet))))
  clear_fine true = tt
  clear_fine false = tt

  show_fine : (x s y : Bool) → Fine (placed_result (plain_answer (done_unless (cond x (Some (Page LineBegun)) (cond s (cond y (Some (Page NoRoom)) None) (Some NoSheet))))))
  show_fine true s y = tt
  show_fine false false y = tt
  show_fine false true true = tt
  show_fine false true false = tt

  without_fine : (b : Bool) (call : SheetCall) → Fine (placed_result (answer_to a m (session_memory m) call)) → Fine (placed_result (answer_by a m (cond b (Ok call) (Err Count))))
  without_fine true call h = h
  without_fine false call h = tt

  by_request : (q : Request) → Fine (placed_result (answer_by a m (call_for q ws)))
  by_request Posting = post_fine
  by_request Clear = without_fine (eqb (length ws) 0) clearing (clear_fine (stands m))
  by_request Pick = pick_fine
  by_request Show =
      let page = (session_memory m).page in
      without_fine (eqb (length ws) 0) showing (show_fine page.begun (stands m) (ltb (length page.bytes) (page.end + show_length m)))

  request_fine : (q : Request) → Fine (request_answer a m q ws)
  request_fine q = by (stands m)
    where
      by : (b : Bool) → Fine (placed_result (cond b (answer_by a m (call_for q ws)) (Err NoSheet)))
      by true = by_request q
      by false = tt

frame_fine : (v : View) → length (whole_cells v) ≡ session_cells → length (weekday_cells v) ≡ session_cells → (f : Frame) (ws : List ℤ) → Fine (frame_answer v f ws)
frame_fine v w d Open ws = open_fine v w d ws
frame_fine (without_sheet x y) w d (Ask q) ws = tt
frame_fine (on_whole m y) w d (Ask q) ws = request_fine wholes m ws q
frame_fine (on_weekday x m) w d (Ask q) ws = request_fine weekdays m ws q

line_fine : (v : View) (line : List ℕ) → length (whole_cells v) ≡ session_cells → length (weekday_cells v) ≡ session_cells → Fine (line_answer v line)
line_fine v line w d = by (refusal known line)
  where
    by : (o : Option LineFault) → Fine (answer_unless o v line)
    by None = frame_fine v w d (frame_kind (frame_of line)) (numbers line)
    by (Some fault) = tt

pub never_thirteen : (v : View) (line : List ℕ) → length (whole_cells v) ≡ session_cells → length (weekday_cells v) ≡ session_cells → ¬ (answer_number (line_answer v line) ≡ 13)
never_thirteen v line w d e = eqb-false (answer_number (line_answer v line)) 13 (other (line_answer v line) (line_fine v line w d)) e
