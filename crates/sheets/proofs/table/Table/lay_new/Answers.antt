-- `Table::lay_new`: its clauses hold where it returns.
use Rattle.std.proofs.Common.{◌≡◌, ℕ, ap, ◌∙◌, subst}
use Rattle.lines.specs.Page.{over}
use Rattle.sheets.specs.Cells.{main_cells, spare_cells, zero_cells}
use Rattle.sheets.proofs.Fresh.{new_laid}
use Rattle.sheets.proofs.Tables.{same_unknowns}
use Rattle.sheets.proofs.table.Table.lay_new.Goals as goal

pub returns-clause-cells : goal.returns-clause-cells
returns-clause-cells g c =
    let a = g.K.Kind.arith in
    let s = c.args.self.now in
    let n = s.shape.unknowns in
    let es = c.lay_units.new.self.cells.now in
    let v : c.spare.result ≡ main_cells n = c.spare.ensures.value ∙ ap (λ (x : ℕ). main_cells x) (same_unknowns c.lay_units.ensures.shape) in
    let f = subst (λ (x : ℕ). c.wipe-2.new.cells ≡ over es x (zero_cells a (spare_cells n))) v c.wipe-2.ensures in
    new_laid a n s.cells.now c.wipe.new.cells es c.wipe-2.new.cells s.room c.wipe.ensures c.lay_units.ensures.cells f
