-- The fault of a request can be placed in its line.
use Rattle.std.proofs.Common.{◌≡◌, ℕ, ◌+◌, ◌≤◌, Bool, true, false, ◌&&◌, cond, eqb, ltb, List, length, ℤ, Some, None, Ok, Err, Option, refl, subst, arith}
use Rattle.faults.specs.Refusing.{done_unless}
use Rattle.faults.specs.declared.NumberFault.TheVariants.{NotAdmitted}
use Rattle.faults.specs.declared.PageFault.TheVariants.{LineBegun, NoRoom}
use Rattle.faults.specs.declared.SheetFault.{SheetFault}
use Rattle.faults.specs.declared.SheetFault.TheVariants.{Page, Number, NoSheet, Count}
use Rattle.kinds.specs.Kind.{Arithmetic}
use Rattle.lines.specs.Hex.{find}
use Rattle.lines.specs.Line.{most_numbers}
use Rattle.lines.proofs.Finding.{find_below}
use Rattle.plans.specs.Posting.{Outcome, taken, implied, contradicted, overflow}
use Rattle.sheets.specs.Answers.{Answer, plain_answer}
use Rattle.sheets.specs.Calls.{SheetCall, clearing, showing, answer_to}
use Rattle.sheets.specs.Picking.{pick_refusal, plan_in, pick_unless}
use Rattle.sheets.specs.Posted.{answer_of}
use Rattle.sheets.specs.Sheet.{Model, stands, word_fault, words_refusal, outcome_of, answer_unless, post_refusal}
use Rattle.sheets.specs.Showing.{show_length}
use Rattle.sheets.specs.Words.{is_refused}
use Rattle.sessions.specs.declared.frame.Request.{Request}
use Rattle.sessions.specs.declared.frame.Request.TheVariants.{Equation, Clear, Pick, Show}
use Rattle.sessions.specs.Frames.{Placeable, call_for}
use Rattle.sessions.specs.Requests.{session_memory, answer_by, unplaced_answer}

-- each fault of an answer can be placed
abbrev pub AllPlaceable : Answer → Type 0
AllPlaceable (Ok success) = Unit {0}
AllPlaceable (Err fault) = Placeable fault

pub all_placeable : (r : Answer) (fault : SheetFault) → AllPlaceable r → r ≡ Err fault → Placeable fault
all_placeable (Ok success) fault h e = absurd cc
all_placeable (Err f) fault h e = let g : f ≡ fault = cc in subst Placeable g h

outcome_placeable : {N : Type 0} (o : Outcome N) → AllPlaceable (answer_of o)
outcome_placeable (taken t) = tt
outcome_placeable implied = tt
outcome_placeable contradicted = tt
outcome_placeable overflow = tt

module _ {N C : Type 0} (a : Arithmetic N C) (m : Model C) (ws : List ℤ) (few : length ws ≤ most_numbers) where
  words_placeable : (counted : Bool) (fault : SheetFault) → words_refusal a m counted ws ≡ Some fault → Placeable fault
  words_placeable counted fault e = by (stands m) counted (find (is_refused a) ws) refl e
    where
      by : (s c : Bool) (o : Option ℕ) → find (is_refused a) ws ≡ o → cond s (cond c (word_fault o) (Some Count)) (Some NoSheet) ≡ Some fault → Placeable fault
      by false c o p e = let f : NoSheet ≡ fault = cc in subst Placeable f tt
      by true false o p e = let f : Count ≡ fault = cc in subst Placeable f tt
      by true true (Some i) p e = let f : Number (NotAdmitted i) ≡ fault = cc in let b = find_below (is_refused a) 0 ws i p in subst Placeable f (omega arith)
      by true true None p e = absurd cc

  post_placeable : (o : Option SheetFault) → post_refusal a m ws ≡ o → AllPlaceable (answer_unless a o (outcome_of a m ws))
  post_placeable (Some fault) e = words_placeable (eqb (length ws) (m.unknowns + 1)) fault e
  post_placeable None e = outcome_placeable (outcome_of a m ws)

  pick_placeable : (len : ℕ) (o : Option SheetFault) (plan : Option (List N)) → pick_refusal a m ws len ≡ o → AllPlaceable (plain_answer (pick_unless a o plan))
  pick_placeable len (Some fault) plan e = words_placeable (eqb (length ws) m.moves && eqb len m.unknowns) fault e
  pick_placeable len None (Some xs) e = tt
  pick_placeable len None None e = tt

  clear_placeable : (b : Bool) → AllPlaceable (plain_answer (cond b (Ok tt) (Err NoSheet)))
  clear_placeable true = tt
  clear_placeable false = tt

  show_placeable : (x s y : Bool) → AllPlaceable (plain_answer (done_unless (cond x (Some (Page LineBegun)) (cond s (cond y (Some (Page NoRoom)) None) (Some NoSheet)))))
  show_placeable true s y = tt
  show_placeable false false y = tt
  show_placeable false true true = tt
  show_placeable false true false = tt

  -- a call without numbers, where there are some
  without_placeable : (P : Answer → Type 0) (b : Bool) (call : SheetCall) → P (answer_to a m (session_memory m) call) → P (Err Count) → P (answer_by a m (cond b (Ok call) (Err Count)))
  without_placeable P true call x y = x
  without_placeable P false call x y = y

  by_request : (q : Request) → AllPlaceable (answer_by a m (call_for q ws))
  by_request Equation = post_placeable (post_refusal a m ws) refl
  by_request Clear = without_placeable AllPlaceable (eqb (length ws) 0) clearing (clear_placeable (stands m)) tt
  by_request Pick = let words = (session_memory m).words in pick_placeable (length words) (pick_refusal a m ws (length words)) (plan_in a m ws) refl
  by_request Show =
      let page = (session_memory m).page in
      without_placeable AllPlaceable (eqb (length ws) 0) showing (show_placeable page.begun (stands m) (ltb (length page.bytes) (page.end + show_length m))) tt

  pub request_placeable : (q : Request) → AllPlaceable (unplaced_answer a m q ws)
  request_placeable q = by (stands m)
    where
      by : (b : Bool) → AllPlaceable (cond b (answer_by a m (call_for q ws)) (Err NoSheet))
      by true = by_request q
      by false = tt
