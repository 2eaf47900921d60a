-- Printing a row: what holds at each turn of its loop.
use Rattle.std.proofs.Common.{◌++◌, codes, take}
use Rattle.std.specs.Fmt.{HasWritten, IsPlainFormatter}
use Rattle.decimal.specs.Decimal.{each, member}
use Rattle.decimal.proofs.RowDisplay.fmt.Given as goal

abbrev pub invariant-loop-i : goal.invariant-loop-i
invariant-loop-i g l =
    IsPlainFormatter l.fn.f → HasWritten g.W.Write.write_str_gives l.fn.f (codes "(" ++ each member 1 (take l.i l.self.0.now)) l.f
