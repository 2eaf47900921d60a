-- The table of a sheet as the steps of a posting see it. Assumes nothing.
use Rattle.std.specs.Prelude.{ℕ, ◌+◌, ◌*◌, List, ℤ, Some, None, Option}
use Rattle.kinds.specs.Kind.{Arithmetic}
use Rattle.kinds.specs.declared.kind.Kind.{Ghosts}
use Rattle.plans.specs.Posting.{Column, Work, Outcome}
use Rattle.plans.specs.Sheet.{Contents}
use Rattle.sheets.specs.declared.shape.Shape.{Shape}
use Rattle.sheets.specs.declared.table.Table.{Table}
use Rattle.sheets.specs.Cells.{main_cells, number_at, top_size, contents_in}
use Rattle.sheets.specs.Sheet.{outcome_from}
use Rattle.sheets.specs.Work.{column_at, columns_at, work_at, left_at}

-- the place to leave out among k, and k itself for none
abbrev pub skipped : Option ℕ → ℕ → ℕ
skipped (Some j) k = j
skipped None k = k

-- what posting words to the sheet of a shape in these cells comes to
abbrev pub outcome_in : {N C : Type 0} → Arithmetic N C → Shape → List C → List ℤ → Outcome N
outcome_in a s cells ws = outcome_from a s.unknowns (contents_in a s.unknowns s.moves cells) ws

module _ {N C : Type 0} {K : Ghosts N C} where
  -- where the moves' columns begin, behind column B
  abbrev pub first_of : Table N C K → ℕ
  first_of t = main_cells t.shape.unknowns + (t.shape.unknowns + 1)

  -- a step on a table of n unknowns and k moves, with its columns from cell p on: the cells before, what came, and the
  -- cells after
  abbrev pub Step : {R : Type 0} → (ℕ → ℕ → ℕ → List C → R → List C → Type 0)
      → Table N C K → R → Table N C K → Type 0
  Step step before result after =
      let s = before.shape in
      step s.unknowns (main_cells s.unknowns) s.moves before.cells.now result after.cells.now

  abbrev pub B_of : Table N C K → Column N
  B_of t = column_at K.arith t.cells.now t.shape.unknowns (main_cells t.shape.unknowns)

  abbrev pub columns_of : Table N C K → List (Column N)
  columns_of t = columns_at K.arith t.cells.now t.shape.unknowns (first_of t) t.shape.moves

  abbrev pub work_of : Table N C K → Work N
  work_of t = work_at K.arith t.cells.now t.shape.unknowns (main_cells t.shape.unknowns) t.shape.moves

  -- the top of the column of move j, and its size
  abbrev pub top_of : Table N C K → ℕ → N
  top_of t j = number_at K.arith t.cells.now (first_of t + j * (t.shape.unknowns + 1))

  abbrev pub size_of : Table N C K → ℕ → ℕ
  size_of t = top_size K.arith t.cells.now (first_of t) t.shape.unknowns

  -- what posting comes to on the table
  abbrev pub outcome_on : Table N C K → List ℤ → Outcome N
  outcome_on t ws = outcome_in K.arith t.shape t.cells.now ws

  -- what is left once B's entries are the fixed plan and the pivot l is dropped
  abbrev pub left_of : Table N C K → ℕ → Contents N
  left_of t l = left_at K.arith t.cells.now t.shape.unknowns (main_cells t.shape.unknowns) t.shape.moves l
