-- `write_line`: what holds at each turn of its loop.
use Rattle.std.proofs.Common.{◌≡◌, true, length, take, fold, w32, SFits}
use Rattle.std.specs.List.{AllByRecursion}
use Rattle.lines.specs.Page.{model, with_word}
use Rattle.lines.proofs.writing.write_line.Given as goal

abbrev pub invariant-loop-w : goal.invariant-loop-w
invariant-loop-w l =
    (l.page.bytes.ghost_name ≡ l.initial.page.bytes.ghost_name)
    × (model l.page ≡ fold with_word (model l.initial.page) (take l.w-index l.words))
    × ((model l.page).begun ≡ true)
    × ((model l.page).put ≡ l.w-index)
    × ((model l.page).room ≡ length l.words)
    × AllByRecursion (SFits w32) (take l.w-index l.words)
