-- `Table::lay_moves`: what holds at each turn of its loop.
use Rattle.std.proofs.Common.{◌≡◌}
use Rattle.sheets.specs.Table.{first_of}
use Rattle.sheets.specs.Words.{numbers_of}
use Rattle.sheets.proofs.Laying.{Tops}
use Rattle.sheets.proofs.table.Table.lay_moves.Given as goal

abbrev pub invariant-loop-j : goal.invariant-loop-j
invariant-loop-j g l =
    let s = l.initial.self in record {
      held : l.self.cells.ghost_name ≡ s.cells.ghost_name;
      shape : l.self.shape ≡ s.shape;
      tops : Tops g.K.Kind.arith (numbers_of g.K.Kind.arith l.coefficients) s.shape.unknowns (first_of s) s.shape.moves s.cells.now l.j l.self.cells.now;
    }
