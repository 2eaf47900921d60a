-- `scale`: what holds at each turn of its loop.
use Rattle.sheets.specs.Cells.{part, numbers}
use Rattle.sheets.proofs.Walks.{Walked, base}
use Rattle.std.proofs.Common.{false}
use Rattle.sheets.proofs.cells.scale.Given as goal

abbrev pub invariant-loop-i : goal.invariant-loop-i
invariant-loop-i g l =
    let a = g.K.Kind.arith in
    let xs = numbers a (part l.at l.height l.initial.cells) in
    Walked a l.u (base a false xs) xs l.initial.cells l.at l.i l.cells
