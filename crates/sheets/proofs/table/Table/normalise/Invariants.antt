-- `Table::normalise`: what holds at each turn of its loop.
use Rattle.std.proofs.Common.{◌≡◌}
use Rattle.sheets.specs.Table.{first_of}
use Rattle.sheets.proofs.Laying.{Units}
use Rattle.sheets.proofs.table.Table.normalise.Given as goal

abbrev pub invariant-loop-j : goal.invariant-loop-j
invariant-loop-j g l =
    let s = l.initial.self in record {
      held : l.self.cells.ghost_name ≡ s.cells.ghost_name;
      shape : l.self.shape ≡ s.shape;
      units : Units g.K.Kind.arith s.shape.unknowns (first_of s) s.shape.moves s.cells.now l.j l.self.cells.now;
    }
