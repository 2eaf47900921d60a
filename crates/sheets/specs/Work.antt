-- The columns that a posting works on, as they stand in cells. Assumes nothing.
use Rattle.std.specs.Prelude.{◌≡◌, ℕ, suc, ◌+◌, ◌*◌, ◌<◌, ◌≤◌, Bool, true, false, cond, List, map, length}
use Rattle.std.specs.Prelude.{Some, None, Ok, Err, Option, Result, ◌==◌}
use Rattle.std.specs.List.{range_with_len}
use Rattle.kinds.specs.Kind.{Arithmetic}
use Rattle.lines.specs.Page.{over}
use Rattle.plans.specs.Sheet.{Contents}
use Rattle.plans.specs.Posting.{then, Column, Work, Outcome, taken, contradicted, overflow, topped, normalised}
use Rattle.plans.specs.Posting.{rounds, total_size, without}
use Rattle.sheets.specs.declared.cells.Overflow.{Overflow}
use Rattle.sheets.specs.Combining.{Within}
use Rattle.sheets.specs.Cells.{part, numbers, number_at, moves_at}

-- h cells from place p on may have changed, and no others
abbrev pub Only : {C : Type 0} → ℕ → ℕ → List C → List C → Type 0
Only {C} p h before after = (changed : List C) × ((length changed ≡ h) × (after ≡ over before p changed))

-- a place, unless what stands there has size 0
abbrev pub unless_zero : (ℕ → ℕ) → Option ℕ → Option ℕ
unless_zero size None = None
unless_zero size (Some j) = cond (size j == 0) None (Some j)

module _ {N C : Type 0} (a : Arithmetic N C) where
  -- the column of n entries whose top is in cell p
  abbrev pub column_at : List C → ℕ → ℕ → Column N
  column_at cells n p = record { top = number_at a cells p; low = numbers a (part (p + 1) n cells) }

  -- k columns of n entries each, the first with its top in cell p
  abbrev pub columns_at : List C → ℕ → ℕ → ℕ → List (Column N)
  columns_at cells n p k = map (λ j. column_at cells n (p + j * (n + 1))) (range_with_len 0 k)

  -- column B at cell p, and k moves' columns behind it
  abbrev pub work_at : List C → ℕ → ℕ → ℕ → Work N
  work_at cells n p k = record { B = column_at cells n p; columns = columns_at cells n (p + (n + 1)) k }

  -- minus the quotients of a round, by the tops of B, of the pivot and of the runner-up: what the pivot is multiplied
  -- by to be added to B, and the runner-up to be added to the pivot
  abbrev pub factors : N → N → N → Option (N × N)
  factors b p r = then (a.quotient b p) (λ q. then (a.quotient p r) (λ s. Some (a.negative q, a.negative s)))

  -- the column at p came, or none came
  abbrev pub CameAt : Option (Column N) → ℕ → ℕ → List C → Result Unit Overflow → List C → Type 0
  CameAt o n p before (Ok _) after = (o ≡ Some (column_at after n p)) × Only p (n + 1) before after
  CameAt o n p before (Err _) after = (o ≡ None) × Within p (n + 1) before after

module _ {N C : Type 0} (a : Arithmetic N C) where
  -- the cells that column B at cell p and k moves' columns take
  abbrev pub work_cells : ℕ → ℕ → ℕ
  work_cells n k = (n + 1) + k * (n + 1)

  -- the rounds on the columns in cells: the pivot's place, and the columns then
  abbrev pub rounds_at : List C → ℕ → ℕ → ℕ → Option (ℕ × Work N)
  rounds_at cells n p k = rounds a (suc (total_size a (columns_at a cells n (p + (n + 1)) k))) (work_at a cells n p k)

  -- the rounds ended at a pivot, or failed
  abbrev pub Ended : ℕ → ℕ → ℕ → List C → Result ℕ Overflow → List C → Type 0
  Ended n p k before (Ok l) after =
      (rounds_at before n p k ≡ Some (l, work_at a after n p k)) × (l < k) × Within p (work_cells n k) before after
  Ended n p k before (Err _) after = (rounds_at before n p k ≡ None) × Within p (work_cells n k) before after

  -- the moves' columns below their tops came, behind column B, or none came
  abbrev pub Topped : List N → ℕ → ℕ → ℕ → List C → Result Unit Overflow → List C → Type 0
  Topped cs n p k before (Ok _) after =
      (topped a cs (moves_at a before n k) ≡ Some (columns_at a after n (p + (n + 1)) k))
      × Within (p + (n + 1)) (k * (n + 1)) before after
  Topped cs n p k before (Err _) after =
      (topped a cs (moves_at a before n k) ≡ None) × Within (p + (n + 1)) (k * (n + 1)) before after

  -- the moves' columns, normalised, came, or none came
  abbrev pub Normal : ℕ → ℕ → ℕ → List C → Result Unit Overflow → List C → Type 0
  Normal n p k before (Ok _) after =
      (normalised a (columns_at a before n (p + (n + 1)) k) ≡ Some (columns_at a after n (p + (n + 1)) k))
      × Within (p + (n + 1)) (k * (n + 1)) before after
  Normal n p k before (Err _) after =
      (normalised a (columns_at a before n (p + (n + 1)) k) ≡ None)
      × Within (p + (n + 1)) (k * (n + 1)) before after

  -- a column laid at p, of a top and the numbers from `from` on
  abbrev pub Laid : ℕ → ℕ → N → ℕ → List C → List C → Type 0
  Laid n p top from before after =
      (column_at a after n p ≡ record { top = top; low = numbers a (part from n before) }) × Only p (n + 1) before after

  -- B reduced by the pivot l came to the new fixed plan, or to no plan, or overflowed
  abbrev pub Finished : Outcome N → ℕ → ℕ → ℕ → ℕ → List C → Result Bool Overflow → List C → Type 0
  Finished o l n p k before (Ok true) after =
      let fixed = numbers a (part (p + 1) n after) in
      let moves = map (λ c. c.low) (without (columns_at a before n (p + (n + 1)) k) l) in
      (o ≡ taken (record { fixed = fixed; moves = moves })) × Only (p + 1) n before after
  Finished o l n p k before (Ok false) after = (o ≡ contradicted) × (after ≡ before)
  Finished o l n p k before (Err _) after = (o ≡ overflow) × Within p (work_cells n k) before after

  -- what is left once B's entries are the fixed plan and the pivot l is dropped
  abbrev pub left_at : List C → ℕ → ℕ → ℕ → ℕ → Contents N
  left_at cells n p k l =
      let moves = map (λ c. c.low) (without (columns_at a cells n (p + (n + 1)) k) l) in
      record { fixed = numbers a (part (p + 1) n cells); moves = moves }

-- column r is move j once column l is dropped
pub record Source (j l r : ℕ) : Type 0 where
  pub before : j < l → r ≡ j
  pub behind : l ≤ j → r ≡ j + 1
