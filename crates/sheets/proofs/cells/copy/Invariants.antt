-- `copy`: what holds at each turn of its loop.
use Rattle.std.proofs.Common.{◌≡◌, take}
use Rattle.lines.specs.Page.{over}
use Rattle.sheets.specs.Cells.{part, numbers, held}
use Rattle.sheets.proofs.cells.copy.Given as goal

abbrev pub invariant-loop-i : goal.invariant-loop-i
invariant-loop-i g l =
    let a = g.K.Kind.arith in
    l.cells ≡ over l.initial.cells l.to (held a (take l.i (numbers a (part l.from l.n l.initial.cells))))
