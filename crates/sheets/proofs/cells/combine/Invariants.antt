-- `combine`: what holds at each turn of its loop.
use Rattle.sheets.specs.Cells.{part, numbers}
use Rattle.sheets.proofs.Walks.{Walked}
use Rattle.sheets.proofs.cells.combine.Given as goal

abbrev pub invariant-loop-i : goal.invariant-loop-i
invariant-loop-i g l =
    let a = g.K.Kind.arith in
    Walked a l.q (numbers a (part l.to l.height l.initial.cells)) (numbers a (part l.from l.height l.initial.cells)) l.initial.cells l.to l.i l.cells
