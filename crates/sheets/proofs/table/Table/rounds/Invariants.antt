-- `Table::rounds`: what holds at each turn of its loops and what gets smaller.
use Rattle.std.proofs.Common.{◌≡◌, ◌+◌, Some}
use Rattle.plans.specs.Posting.{total_size, pivot_of}
use Rattle.sheets.specs.Cells.{main_cells}
use Rattle.sheets.specs.Table.{first_of}
use Rattle.sheets.specs.Work.{columns_at}
use Rattle.sheets.proofs.RoundWalk.{BothWalked, RoundAt}
use Rattle.sheets.proofs.Turning.{SoFar}
use Rattle.sheets.proofs.table.Table.rounds.Given as goal

abbrev pub invariant-rounds : goal.invariant-rounds
invariant-rounds g l =
    let s = l.fn.self in record {
      held : l.self.cells.ghost_name ≡ s.cells.ghost_name;
      shape : l.self.shape ≡ s.shape;
      pivot : pivot_of g.K.Kind.arith (columns_at g.K.Kind.arith l.self.cells.now s.shape.unknowns (first_of s) s.shape.moves) ≡ Some l.pivot;
      so_far : SoFar g.K.Kind.arith s.shape.unknowns (main_cells s.shape.unknowns) s.shape.moves s.cells.now l.self.cells.now;
    }

abbrev pub decreases-rounds : goal.decreases-rounds
decreases-rounds g l = let s = l.fn.self in total_size g.K.Kind.arith (columns_at g.K.Kind.arith l.self.cells.now s.shape.unknowns (first_of s) s.shape.moves)

abbrev pub invariant-loop-i : goal.invariant-loop-i
invariant-loop-i g l =
    let s = l.fn.self in
    let cells = l.initial.self.cells.now in record {
      held : l.self.cells.ghost_name ≡ s.cells.ghost_name;
      shape : l.self.shape ≡ s.shape;
      round : RoundAt g.K.Kind.arith s.shape.unknowns (main_cells s.shape.unknowns) s.shape.moves cells l.pivot l.runner l.b l.p l.r l.of_b l.of_pivot;
      walked : BothWalked g.K.Kind.arith (s.shape.unknowns + 1) l.b l.p l.r l.of_b l.of_pivot cells l.i l.i l.self.cells.now;
    }
