-- A sheet as its calls see it, when it can be opened, and what it is then. Assumes nothing.
use Rattle.std.specs.Prelude.{ℕ, ◌+◌, ◌-◌, Bool, true, false, cond, List, length, take, ℤ, pos, negsuc, Some, None, Ok, Err, Option, Result, ◌==◌, nat_lt, slice_index_or}
use Rattle.faults.specs.Refusing.{done_unless, left_unless}
use Rattle.faults.specs.declared.NumberFault.TheVariants.{Unknowns, ListNumber, NotAdmitted}
use Rattle.faults.specs.declared.SheetFault.{SheetFault}
use Rattle.faults.specs.declared.SheetFault.TheVariants.{Number, NoSheet, Count, FewCells}
use Rattle.kinds.specs.Kind.{Arithmetic}
use Rattle.kinds.specs.declared.kind.Kind.{Ghosts}
use Rattle.lines.specs.Hex.{find}
use Rattle.plans.specs.Posting.{Outcome, posted}
use Rattle.plans.specs.Sheet.{Contents, new_sheet}
use Rattle.sheets.specs.declared.shape.Outline.{Outline}
use Rattle.sheets.specs.declared.sheet.Sheet.{Sheet}
use Rattle.sheets.specs.declared.call.Success.TheVariants.{Done, Implied}
use Rattle.sheets.specs.Answers.{Answer}
use Rattle.sheets.specs.Cells.{needed, sheet_cells, contents_in}
use Rattle.sheets.specs.Posted.{answer_of, cells_after}
use Rattle.sheets.specs.Words.{number_of, numbers_of, is_refused}

pub record Model (C : Type 0) : Type 0 where
  pub cells : List C
  pub unknowns : ℕ
  pub moves : ℕ
  -- names the list of unknowns
  pub list : ℕ

abbrev pub model : {N C : Type 0} {K : Ghosts N C} → Sheet N C K → Model C
model s = record { cells = s.cells.now; unknowns = s.shape.unknowns; moves = s.shape.moves; list = s.list }

-- what a sheet is besides its cells
abbrev pub outline_of : {N C : Type 0} {K : Ghosts N C} → Sheet N C K → Outline
outline_of s = record { shape = s.shape; list = s.list }

-- the sheet that these cells hold
abbrev pub model_of : {C : Type 0} → List C → Outline → Model C
model_of cells o = record { cells = cells; unknowns = o.shape.unknowns; moves = o.shape.moves; list = o.list }

-- whether a number is low to high
abbrev pub in_range : ℕ → ℕ → ℤ → Bool
in_range low high (pos n) = cond (nat_lt n low) false (cond (nat_lt high n) false true)
in_range low high (negsuc n) = false

abbrev pub natural : ℤ → ℕ
natural (pos n) = n
natural (negsuc n) = 0

-- the most unknowns of a sheet, and the last list number
abbrev pub most_unknowns : ℕ
most_unknowns = 24

abbrev pub last_list : ℕ
last_list = 65535

-- the unknowns and the list number that an opening over len cells asks for, or why it cannot be
abbrev pub asked : ℤ → ℤ → ℕ → Result (ℕ × ℕ) SheetFault
asked n list len =
    cond (in_range 1 most_unknowns n)
    (cond (in_range 0 last_list list)
    (cond (nat_lt len (needed (natural n))) (Err FewCells) (Ok (natural n, natural list)))
    (Err (Number ListNumber)))
    (Err (Number Unknowns))

-- the same without what is asked for
abbrev pub done : {X Y : Type 0} → Result X Y → Result Unit Y
done (Ok _) = Ok tt
done (Err fault) = Err fault

abbrev pub checked : ℤ → ℤ → ℕ → Result Unit SheetFault
checked n list len = done (asked n list len)

-- a sheet of no unknowns
abbrev pub empty_sheet : {C : Type 0} → List C → Model C
empty_sheet cells = record { cells = cells; unknowns = 0; moves = 0; list = 0 }

module _ {N C : Type 0} (a : Arithmetic N C) where
  -- the new sheet; one of no unknowns, with its cells as they were, where the check would refuse
  abbrev pub opened_by : Result (ℕ × ℕ) SheetFault → List C → Model C
  opened_by (Ok (n, list)) cells =
      record { cells = sheet_cells a n (new_sheet a n) cells; unknowns = n; moves = n; list = list }
  opened_by (Err _) cells = empty_sheet cells

  abbrev pub opened : ℤ → ℤ → List C → Model C
  opened n list cells = opened_by (asked n list (length cells)) cells

-- whether a sheet has unknowns
abbrev pub stands : {C : Type 0} → Model C → Bool
stands m = cond (m.unknowns == 0) false true

-- why a sheet of n unknowns cannot be taken up again in len cells
abbrev pub resume_refusal : ℕ → ℕ → Option SheetFault
resume_refusal n len = cond (n == 0) None (cond (nat_lt len (needed n)) (Some FewCells) None)

-- the answer to taking up again the sheet of an outline in the cells of m, and the sheet afterwards
abbrev pub resume_answer : {C : Type 0} → Model C → Outline → Result Unit SheetFault
resume_answer m o = done_unless (resume_refusal o.shape.unknowns (length m.cells))

abbrev pub resume_left : {C : Type 0} → Model C → Outline → Model C
resume_left m o = left_unless (resume_refusal o.shape.unknowns (length m.cells)) m (model_of m.cells o)

-- the fault of a word that is not admitted, by its index
abbrev pub word_fault : Option ℕ → Option SheetFault
word_fault (Some i) = Some (Number (NotAdmitted i))
word_fault None = None

-- a posting that is taken leaves one move fewer
abbrev pub moves_after : Answer → ℕ → ℕ
moves_after (Ok Done) k = k - 1
moves_after (Ok Implied) k = k
moves_after (Err fault) k = k

module _ {N C : Type 0} (a : Arithmetic N C) where
  -- the fixed plan and the moves in the sheet's cells
  abbrev pub contents_of : Model C → Contents N
  contents_of m = contents_in a m.unknowns m.moves m.cells

  -- why a call that brings the words ws is refused, before any cell is touched: `counted` says whether the counts are
  -- those needed
  abbrev pub words_refusal : Model C → Bool → List ℤ → Option SheetFault
  words_refusal m counted ws =
      cond (stands m) (cond counted (word_fault (find (is_refused a) ws)) (Some Count)) (Some NoSheet)

  -- why words cannot be posted
  abbrev pub post_refusal : Model C → List ℤ → Option SheetFault
  post_refusal m ws = words_refusal m (length ws == m.unknowns + 1) ws

  -- what posting n coefficients and, behind them, the right side to these contents comes to
  abbrev pub outcome_from : ℕ → Contents N → List ℤ → Outcome N
  outcome_from n s ws = posted a s (numbers_of a (take n ws)) (number_of a (slice_index_or ws n (pos 0)))

  -- and posting words to a sheet
  abbrev pub outcome_of : Model C → List ℤ → Outcome N
  outcome_of m ws = outcome_from m.unknowns (contents_of m) ws

  -- the sheet that an outcome leaves
  abbrev pub left_by : Model C → Outcome N → Model C
  left_by m o = record {
    cells = cells_after a o m.unknowns m.cells;
    unknowns = m.unknowns;
    moves = moves_after (answer_of o) m.moves;
    list = m.list;
  }

  abbrev pub answer_unless : Option SheetFault → Outcome N → Answer
  answer_unless (Some fault) o = Err fault
  answer_unless None o = answer_of o

  -- the answer to posting words, and the sheet that it leaves
  abbrev pub post_answer : Model C → List ℤ → Answer
  post_answer m ws = answer_unless (post_refusal m ws) (outcome_of m ws)

  abbrev pub post_left : Model C → List ℤ → Model C
  post_left m ws = left_unless (post_refusal m ws) m (left_by m (outcome_of m ws))
