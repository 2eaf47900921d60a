-- Printing a line that could not be read: what holds at each turn of its loop.
use Rattle.std.proofs.Common.{◌++◌, codes, map, take}
use Rattle.std.specs.Fmt.{HasWritten, IsPlainFormatter}
use Rattle.plancheck.specs.Unread.{glyph}
use Rattle.plancheck.proofs.unread.UnreadDisplay.fmt.Given as goal

abbrev pub invariant-loop-b : goal.invariant-loop-b
invariant-loop-b g l =
    IsPlainFormatter l.fn.f → HasWritten g.W.Write.write_str_gives l.fn.f (codes "not read: \"" ++ map glyph (take l.b-index l.shown)) l.f
