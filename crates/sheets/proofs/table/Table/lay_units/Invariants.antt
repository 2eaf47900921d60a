-- `Table::lay_units`: what holds at each turn of its loop.
use Rattle.std.proofs.Common.{◌≡◌, take}
use Rattle.std.specs.List.{flat_map}
use Rattle.lines.specs.Page.{over}
use Rattle.plans.specs.Sheet.{unit_moves}
use Rattle.sheets.specs.Cells.{held}
use Rattle.sheets.proofs.table.Table.lay_units.Given as goal

abbrev pub invariant-loop-j : goal.invariant-loop-j
invariant-loop-j g l =
    let a = g.K.Kind.arith in
    let s = l.initial.self in record {
      same : l.self.cells.ghost_name ≡ s.cells.ghost_name;
      shape : l.self.shape ≡ s.shape;
      cells : l.self.cells.now ≡ over s.cells.now s.shape.unknowns (held a (flat_map (λ move. move) (take l.j (unit_moves a s.shape.unknowns))));
    }
