-- `take_lines`: what holds at each turn of its loop.
use Rattle.std.proofs.Common.{◌≡◌, ℕ, List, [], Ok}
use Rattle.std.specs.Io.KnownBytes.{Consumes}
use Rattle.input.specs.Cutting.{lines, left}
use Rattle.input.proofs.reading.take_lines.Given as goal

-- bytes were taken from the input, the sink took the lines that end in them, and what follows the last is held
abbrev pub invariant-chunks : goal.invariant-chunks
invariant-chunks g l =
    (bytes : List ℕ) × Consumes (g.R.Read.remaining l.fn.input) (g.R.Read.remaining l.input) bytes
    × (l.cutter ≡ left [] bytes) × g.S.LineSink.takes l.fn.sink (lines [] bytes) (Ok tt) l.sink
