-- `FullLine::unpack`: what holds at each turn of its loop.
use Rattle.std.proofs.Common.{◌≡◌, drop, take}
use Rattle.lines.specs.Line.{words_of}
use Rattle.lines.proofs.reading.FullLine.unpack.Given as goal

abbrev pub invariant-loop-k : goal.invariant-loop-k
invariant-loop-k l = take l.k l.word-items ≡ take l.k (words_of l.self.line.count (drop 4 l.self.digits.bytes.now))
