-- `Table::post`: its clauses hold where it returns.
use Rattle.std.proofs.Common.{◌≡◌, ℕ, refl, ap, ◌∙◌, subst}
use Rattle.lines.specs.Page.{over}
use Rattle.sheets.specs.Cells.{main_cells, spare_cells, zero_cells}
use Rattle.sheets.specs.Table.{outcome_on}
use Rattle.sheets.proofs.Outcomes.{all_cells}
use Rattle.sheets.proofs.Tables.{same_unknowns}
use Rattle.sheets.proofs.table.Table.post.Goals as goal

pub returns-clause-cells : goal.returns-clause-cells
returns-clause-cells g c =
    let a = g.K.Kind.arith in
    let s = c.args.self.now in
    let n = s.shape.unknowns in
    let u = same_unknowns c.work-verdict.ensures.shape in
    let v : c.spare.result ≡ main_cells n = c.spare.ensures.value ∙ ap (λ (x : ℕ). main_cells x) u in
    let e = subst (λ (x : ℕ). c.wipe.new.cells ≡ over c.work-verdict.new.self.cells.now c.spare.result (zero_cells a (spare_cells x))) u c.wipe.ensures in
    let f = subst (λ (x : ℕ). c.wipe.new.cells ≡ over c.work-verdict.new.self.cells.now x (zero_cells a (spare_cells n))) v e in
    all_cells a (outcome_on s c.args.words.now) n (main_cells n) s.shape.moves s.cells.now c.work-verdict.new.self.cells.now c.wipe.new.cells c.work-verdict.result refl s.shape.few s.room c.work-verdict.ensures.settled f
