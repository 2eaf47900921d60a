-- What a posting answers, and what it leaves in the cells. Assumes nothing.
use Rattle.std.specs.Prelude.{◌≡◌, ℕ, ◌+◌, ◌⊎◌, List, ◌++◌, length, take, drop, Some, None, Ok, Err, Result}
use Rattle.faults.specs.declared.SheetFault.TheVariants.{Overflow as Overflowed, Contradicted}
use Rattle.kinds.specs.Kind.{Arithmetic}
use Rattle.plans.specs.Posting.{Outcome, taken, implied, contradicted, overflow, topped, column_B}
use Rattle.sheets.specs.declared.cells.Overflow.{Overflow}
use Rattle.sheets.specs.declared.call.Success.TheVariants.{Done, Implied}
use Rattle.sheets.specs.Answers.{Answer}
use Rattle.sheets.specs.Cells.{main_cells, spare_cells, needed, numbers, zero_cells, main_of, moves_at}
use Rattle.sheets.specs.Combining.{Within}
use Rattle.sheets.specs.Work.{column_at, columns_at, work_cells}

-- the answer of an outcome
abbrev pub answer_of : {N : Type 0} → Outcome N → Answer
answer_of (taken s) = Ok Done
answer_of implied = Ok Implied
answer_of contradicted = Err Contradicted
answer_of overflow = Err Overflowed

module _ {N C : Type 0} (a : Arithmetic N C) where
  -- the main cells change where the posting is taken, and then alone
  abbrev pub main_after : Outcome N → ℕ → List C → List C
  main_after (taken s) n cells = main_of a n s
  main_after implied n cells = take (main_cells n) cells
  main_after contradicted n cells = take (main_cells n) cells
  main_after overflow n cells = take (main_cells n) cells

  -- all cells: the spare ones hold zero, and those beyond what they held
  abbrev pub cells_after : Outcome N → ℕ → List C → List C
  cells_after o n cells = main_after o n cells ++ (zero_cells a (spare_cells n) ++ drop (needed n) cells)

  -- the moves and column B laid below their tops, in the cells from p on; or a top cannot be stored
  abbrev pub Prepared : List N → N → ℕ → ℕ → ℕ → List C → Result Unit Overflow → List C → Type 0
  Prepared cs right n p k before (Ok _) after =
      (topped a cs (moves_at a before n k) ≡ Some (columns_at a after n (p + (n + 1)) k))
      × (column_B a cs right (numbers a (take n before)) ≡ Some (column_at a after n p))
      × Within p (work_cells a n k) before after
  Prepared cs right n p k before (Err _) after =
      ((topped a cs (moves_at a before n k) ≡ None) ⊎ (column_B a cs right (numbers a (take n before)) ≡ None))
      × Within p (work_cells a n k) before after

  -- an outcome answered, with the main cells as it leaves them; the cells from p on are left as they may be
  pub record Settled (o : Outcome N) (n p k : ℕ) (before : List C) (r : Answer) (after : List C) : Type 0 where
    pub answer : r ≡ answer_of o
    pub len : length after ≡ length before
    pub main : take (main_cells n) after ≡ main_after o n before
    pub back : drop (p + work_cells a n k) after ≡ drop (p + work_cells a n k) before
