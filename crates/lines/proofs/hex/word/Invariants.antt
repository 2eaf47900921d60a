-- `word`: what holds at each turn of its loop.
use Rattle.std.proofs.Common.{◌≡◌, take}
use Rattle.lines.specs.Hex.{number_of}
use Rattle.lines.proofs.hex.word.Given as goal

abbrev pub invariant-loop-b : goal.invariant-loop-b
invariant-loop-b l = l.n ≡ number_of (take l.b-index l.digits)
