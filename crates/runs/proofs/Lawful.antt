-- Calls on a sheet that has its cells, and no more moves than unknowns, keep to their laws.
use Rattle.std.proofs.Common.{◌≡◌, ℕ, ◌≤◌, Bool, true, false, cond, List, [], ◌∷◌, length, sym, refl, subst₂, Some, None, Ok, Err, Option, arith, w32, SFits}
use Rattle.std.specs.List.{AllByRecursion}
use Rattle.faults.specs.Refusing.{left_unless}
use Rattle.faults.specs.declared.SheetFault.{SheetFault}
use Rattle.kinds.specs.Kind.{Arithmetic, Laws}
use Rattle.sheets.specs.declared.call.Success.TheVariants.{Done, Implied}
use Rattle.sheets.specs.Answers.{Answer}
use Rattle.sheets.specs.Calls.{SheetCall, posting, clearing, picking, showing, Memory, answer_to, sheet_after, memory_after}
use Rattle.sheets.specs.Cells.{needed, HasCells}
use Rattle.sheets.specs.Clearing.{new_again}
use Rattle.sheets.specs.Law.{CallLaw}
use Rattle.sheets.specs.Posted.{answer_of}
use Rattle.sheets.specs.Sheet.{Model, moves_after, stands, post_refusal, outcome_of, left_by}
use Rattle.sheets.proofs.ClearLaws.{clear_law, clear_cells}
use Rattle.sheets.proofs.PickLaws.{pick_law}
use Rattle.sheets.proofs.PostLaws.{post_law, post_cells}
use Rattle.sheets.proofs.ShowLaws.{show_law}
use Rattle.runs.specs.Run.{CallsLaw}

-- the numbers that a call brings fit 32 bits
abbrev pub CallFits : SheetCall → Type 0
CallFits (posting ws) = AllByRecursion (SFits w32) ws
CallFits clearing = Unit {0}
CallFits (picking choice) = AllByRecursion (SFits w32) choice
CallFits showing = Unit {0}

-- the sheet has its cells, and no more moves than unknowns
pub record Ready {C : Type 0} (m : Model C) : Type 0 where
  pub few : m.moves ≤ m.unknowns
  pub room : HasCells m.unknowns m.cells

module _ {N C : Type 0} (a : Arithmetic N C) (laws : Laws a) where
  call_lawful : (m : Model C) (lent : Memory) (c : SheetCall) → Ready m → CallFits c → CallLaw a m c lent (answer_to a m lent c) (sheet_after a m c) (memory_after a m lent c)
  call_lawful m lent (posting ws) r fits = post_law a laws m r.few r.room ws (λ _. fits) lent
  call_lawful m lent clearing r fits = clear_law a laws m r.room lent
  call_lawful m lent (picking choice) r fits = pick_law a laws m r.few r.room choice lent.words (λ _. fits) lent.page
  call_lawful m lent showing r fits = show_law a m lent.page lent.words

  -- no call leaves more moves than unknowns
  fewer : (r : Answer) (k n : ℕ) → k ≤ n → moves_after r k ≤ n
  fewer (Ok Done) k n h = omega arith
  fewer (Ok Implied) k n h = h
  fewer (Err fault) k n h = h

  posting_few : (m : Model C) → m.moves ≤ m.unknowns → (o : Option SheetFault) → (w : _) → (left_unless o m (left_by a m w)).moves ≤ (left_unless o m (left_by a m w)).unknowns
  posting_few m h (Some fault) w = h
  posting_few m h None w = fewer (answer_of w) m.moves m.unknowns h

  clearing_few : (m : Model C) → m.moves ≤ m.unknowns → (b : Bool) → (cond b (new_again a m) m).moves ≤ (cond b (new_again a m) m).unknowns
  clearing_few m h true = omega arith
  clearing_few m h false = h

  call_few : (m : Model C) (c : SheetCall) → m.moves ≤ m.unknowns → (sheet_after a m c).moves ≤ (sheet_after a m c).unknowns
  call_few m (posting ws) h = posting_few m h (post_refusal a m ws) (outcome_of a m ws)
  call_few m clearing h = clearing_few m h (stands m)
  call_few m (picking choice) h = h
  call_few m showing h = h

  -- and the cells stay as many
  call_cells : (m : Model C) (c : SheetCall) → Ready m → length (sheet_after a m c).cells ≡ length m.cells
  call_cells m (posting ws) r = post_cells a laws m r.few r.room ws
  call_cells m clearing r = clear_cells a laws m r.room
  call_cells m (picking choice) r = refl
  call_cells m showing r = refl

  call_ready : (m : Model C) (lent : Memory) (c : SheetCall) → Ready m → CallFits c → Ready (sheet_after a m c)
  call_ready m lent c r fits = record {
    few = call_few m c r.few;
    room = subst₂ (λ (n k : ℕ). ¬ (n ≡ 0) → needed n ≤ k) (sym (call_lawful m lent c r fits).unknowns) (sym (call_cells m c r)) r.room;
  }

  pub calls_lawful : (m : Model C) (lent_calls : List (SheetCall × Memory)) → Ready m → AllByRecursion (λ r. CallFits r.0) lent_calls → CallsLaw a m lent_calls
  calls_lawful m [] ready fits = tt
  calls_lawful m (r ∷ lent_calls) ready fits =
      (call_lawful m r.1 r.0 ready fits.0, calls_lawful (sheet_after a m r.0) lent_calls (call_ready m r.1 r.0 ready fits.0) fits.1)
