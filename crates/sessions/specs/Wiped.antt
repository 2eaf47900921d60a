-- Words that are zero again. Assumes nothing.
use Rattle.std.specs.Prelude.{ℕ, min, List, ◌++◌, length, drop, replicate, ℤ, pos}
use Rattle.lines.specs.Line.{most_numbers}

-- how many of the lent words a line may be unpacked into: the first ones, as many as a line has numbers at most
abbrev pub unpacked : List ℤ → ℕ
unpacked ws = min (length ws) most_numbers

-- those zero, and the others as they were
abbrev pub wiped : List ℤ → List ℤ
wiped ws = replicate (unpacked ws) (pos 0) ++ drop (unpacked ws) ws
