-- `check_words`: what holds at each turn of its loop.
use Rattle.std.proofs.Common.{◌≡◌, take, drop, w32, SFits}
use Rattle.std.specs.List.{AllByRecursion, position_from}
use Rattle.lines.specs.Hex.{find}
use Rattle.sheets.specs.Words.{is_refused}
use Rattle.sheets.proofs.words.check_words.Given as goal

abbrev pub invariant-loop-i : goal.invariant-loop-i
invariant-loop-i g l =
    let test = is_refused g.K.Kind.arith in
    (position_from test l.i (drop l.i l.words) ≡ find test l.words) × AllByRecursion (SFits w32) (take l.i l.words)
