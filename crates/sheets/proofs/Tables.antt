-- The room in a table's cells, and its shape.
use Rattle.std.proofs.Common.{◌≡◌, ℕ, ◌+◌, ◌*◌, ◌≤◌, List, length, ap, subst, arith}
use Rattle.kinds.specs.declared.kind.Kind.{Ghosts}
use Rattle.sheets.specs.declared.shape.Shape.{Shape}
use Rattle.sheets.specs.declared.table.Table.{Table}
use Rattle.sheets.specs.Cells.{main_cells}
use Rattle.sheets.specs.Table.{first_of}
use Rattle.sheets.proofs.Places.{main_room, work_room}

module _ {N C : Type 0} {K : Ghosts N C} (t : Table N C K) where
  -- the moves stand within the main cells
  pub moves_in : t.shape.unknowns + t.shape.moves * t.shape.unknowns ≤ main_cells t.shape.unknowns
  moves_in = main_room t.shape.unknowns t.shape.moves t.shape.few

  -- and so would as many moves as unknowns
  pub square_in : t.shape.unknowns + t.shape.unknowns * t.shape.unknowns ≤ main_cells t.shape.unknowns
  square_in = main_room t.shape.unknowns t.shape.unknowns (omega arith)

  -- the columns within the spare ones
  pub work_in : main_cells t.shape.unknowns + ((t.shape.unknowns + 1) + t.shape.moves * (t.shape.unknowns + 1)) ≤ length t.cells.now
  work_in = work_room t.shape.unknowns t.shape.moves (length t.cells.now) t.shape.few t.room

  pub columns_in : first_of t + t.shape.moves * (t.shape.unknowns + 1) ≤ length t.cells.now
  columns_in = let w = work_in in omega arith

  -- and the moves before the columns
  pub moves_before : t.shape.unknowns + t.shape.moves * t.shape.unknowns ≤ first_of t
  moves_before = let w = moves_in in omega arith

-- the numbers of the same shape
pub same_unknowns : {s t : Shape} → s ≡ t → s.unknowns ≡ t.unknowns
same_unknowns e = ap (λ (s : Shape). s.unknowns) e

-- a step told at an equal shape, with an equal result
pub at_shape : {C R : Type 0} {s t : Shape} {q r : R} (step : ℕ → ℕ → ℕ → List C → R → List C → Type 0) (cs ds : List C) → s ≡ t → q ≡ r
    → step s.unknowns (main_cells s.unknowns) s.moves cs q ds → step t.unknowns (main_cells t.unknowns) t.moves cs r ds
at_shape {C} {R} {s} {t} {q} {r} step cs ds e f h =
    subst (λ (x : R). step t.unknowns (main_cells t.unknowns) t.moves cs x ds) f (subst (λ (x : Shape). step x.unknowns (main_cells x.unknowns) x.moves cs q ds) e h)
