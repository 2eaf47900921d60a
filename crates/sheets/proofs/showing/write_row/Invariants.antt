-- `write_row`: what holds at each turn of its loop.
use Rattle.std.proofs.Common.{◌≡◌, true, map, length, take, fold}
use Rattle.lines.specs.Page.{model, with_word}
use Rattle.sheets.specs.Cells.{numbers}
use Rattle.sheets.proofs.showing.write_row.Given as goal

abbrev pub invariant-loop-cell : goal.invariant-loop-cell
invariant-loop-cell g l =
    let a = g.K.Kind.arith in
    (l.page.bytes.ghost_name ≡ l.initial.page.bytes.ghost_name)
    × (model l.page ≡ fold with_word (model l.initial.page) (take l.cell-index (map a.write (numbers a l.row))))
    × ((model l.page).begun ≡ true)
    × ((model l.page).put ≡ l.cell-index)
    × ((model l.page).room ≡ length l.row)
