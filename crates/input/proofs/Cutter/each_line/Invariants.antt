-- `Cutter::each_line`: what holds at each turn of its loop and what gets smaller.
use Rattle.std.proofs.Common.{◌≡◌, length}
use Rattle.input.specs.Cutting.{lines, left, Handed}
use Rattle.input.proofs.Cutter.each_line.Given as goal

-- what is still to be done ends as the whole does
abbrev pub invariant-loop-rest : goal.invariant-loop-rest
invariant-loop-rest g l =
    ((result : _) (last : _) (held : _) → Handed g.S.LineSink.takes l.sink (lines l.self l.text) result last held → Handed g.S.LineSink.takes l.fn.sink (lines l.fn.self l.fn.chunk) result last held)
    × (left l.self l.text ≡ left l.fn.self l.fn.chunk)

abbrev pub decreases-loop-rest : goal.decreases-loop-rest
decreases-loop-rest g l = length l.text
