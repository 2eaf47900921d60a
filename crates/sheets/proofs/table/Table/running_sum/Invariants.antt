-- `Table::running_sum`: what holds at each turn of its loop.
use Rattle.std.proofs.Common.{◌≡◌, length, drop}
use Rattle.plans.specs.Posting.{running}
use Rattle.sheets.specs.Cells.{part, numbers}
use Rattle.sheets.specs.Words.{numbers_of}
use Rattle.sheets.proofs.table.Table.running_sum.Given as goal

abbrev pub invariant-loop-i : goal.invariant-loop-i
invariant-loop-i g l =
    let a = g.K.Kind.arith in
    let xs = numbers a (part l.from (length l.coefficients) l.self.cells.now) in
    running a l.sum (drop l.i (numbers_of a l.coefficients)) (drop l.i xs) ≡ running a l.initial.sum (numbers_of a l.coefficients) xs
