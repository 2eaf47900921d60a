-- `wipe`: what holds at each turn of its loop.
use Rattle.std.proofs.Common.{◌≡◌, take}
use Rattle.sheets.specs.Cells.{zero_cells}
use Rattle.sheets.proofs.cells.wipe.Given as goal

abbrev pub invariant-loop-cell : goal.invariant-loop-cell
invariant-loop-cell g l = take l.cell-index l.cell-items ≡ zero_cells g.K.Kind.arith l.cell-index
