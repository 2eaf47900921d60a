-- What a walk down two columns of cells leaves. Assumes nothing.
use Rattle.std.specs.Prelude.{◌≡◌, ℕ, ◌+◌, List, length, take, drop, slice_set}
use Rattle.std.specs.Prelude.{Some, None, Ok, Err, Option, Result}
use Rattle.kinds.specs.Kind.{Arithmetic}
use Rattle.lines.specs.Page.{over}
use Rattle.sheets.specs.declared.cells.Overflow.{Overflow}
use Rattle.sheets.specs.Cells.{held}

-- nothing changed but, maybe, h cells from place p on
pub record Within {C : Type 0} (p h : ℕ) (before after : List C) : Type 0 where
  pub len : length after ≡ length before
  pub front : take p after ≡ take p before
  pub back : drop (p + h) after ≡ drop (p + h) before

module _ {N C : Type 0} (a : Arithmetic N C) where
  -- cell i holds the number that came; or none came, and no cell changed
  abbrev pub Put : Option N → ℕ → List C → Option Unit → List C → Type 0
  Put o i cells (Some _) left = (x : N) × ((o ≡ Some x) × (left ≡ slice_set cells i (a.to_cell x)))
  Put o i cells None left = (o ≡ None) × (left ≡ cells)

  -- the cells from `to` on hold the h numbers that came; or none came, and no other cells changed
  abbrev pub Combined : Option (List N) → ℕ → List C → ℕ → Result Unit Overflow → List C → Type 0
  Combined o h cells to (Ok _) left = (ys : List N) × ((o ≡ Some ys) × (left ≡ over cells to (held a ys)))
  Combined o h cells to (Err _) left = (o ≡ None) × Within to h cells left
