-- `Sheet::picked`: what holds at each turn of its loop.
use Rattle.std.proofs.Common.{◌≡◌, drop}
use Rattle.plans.specs.Posting.{running}
use Rattle.sheets.specs.Cells.{moves_at, contents_in}
use Rattle.sheets.specs.Picking.{entries, picked}
use Rattle.sheets.specs.Words.{numbers_of}
use Rattle.sheets.proofs.sheet.Sheet.picked.Given as goal

abbrev pub invariant-loop-j : goal.invariant-loop-j
invariant-loop-j g l =
    let a = g.K.Kind.arith in
    let n = l.self.shape.unknowns in
    let k = l.self.shape.moves in
    let xs = numbers_of a l.choice in
    running a l.sum (drop l.j (entries a (moves_at a l.self.cells.now n k) l.i)) (drop l.j xs) ≡ picked a (contents_in a n k l.self.cells.now) xs l.i
