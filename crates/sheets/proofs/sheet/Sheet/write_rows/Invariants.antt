-- `Sheet::write_rows`: what holds at each turn of its loop.
use Rattle.std.proofs.Common.{◌≡◌}
use Rattle.lines.specs.Page.{model, with_text}
use Rattle.sheets.proofs.Shows.{move_texts}
use Rattle.sheets.proofs.sheet.Sheet.write_rows.Given as goal

abbrev pub invariant-loop-j : goal.invariant-loop-j
invariant-loop-j g l =
    (l.page.bytes.ghost_name ≡ l.initial.page.bytes.ghost_name)
    × (model l.page ≡ with_text (model l.initial.page) (move_texts g.K.Kind.arith l.self.cells.now l.self.shape.unknowns l.j))
