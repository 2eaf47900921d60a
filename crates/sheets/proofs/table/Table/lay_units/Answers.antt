-- `Table::lay_units`: its loop keeps what holds at each turn and its clauses hold where it returns.
use Rattle.std.proofs.Common.{◌≡◌, ℕ, [], ◌+◌, ◌*◌, ◌≤◌, length, refl, ap, ◌∙◌, subst, arith, slice_index_or}
use Rattle.lines.specs.Page.{over}
use Rattle.plans.specs.Sheet.{unit_moves}
use Rattle.sheets.specs.Cells.{held}
use Rattle.plans.proofs.NewSheet.{units_many}
use Rattle.sheets.proofs.Fresh.{each_unit}
use Rattle.sheets.proofs.Rows.{rows_start, rows_more, rows_end}
use Rattle.sheets.proofs.Tables.{square_in, same_unknowns}
use Rattle.sheets.proofs.table.Table.lay_units.Goals as goal

pub loop-j-init : goal.loop-j-init
loop-j-init g c =
    let a = g.K.Kind.arith in
    let s = c.args.self.now in
    let n = s.shape.unknowns in
    record { same = refl; shape = refl; cells = rows_start a n (unit_moves a n) (each_unit a n) s.cells.now n }

pub loop-j-preserved : goal.loop-j-preserved
loop-j-preserved g c =
    let a = g.K.Kind.arith in
    let s = c.args.self.now in
    let n = s.shape.unknowns in
    let j = c.loop-j.j in
    let l = units_many a n in
    let u = same_unknowns c.loop-j.invariant.shape in
    let q = square_in s in
    let sq : n + length (unit_moves a n) * n ≤ length s.cells.now = rw l (omega (arith, q, s.room)) in
    let t : c.row.result ≡ n + j * n = c.row.ensures.value ∙ ap (λ (x : ℕ). x + j * x) u in
    let e = subst (λ (x : ℕ). c.lay_unit.new.cells ≡ over c.loop-j.self.cells.now c.row.result (held a (slice_index_or (unit_moves a x) j []))) u c.lay_unit.ensures in
    record {
      same = c.loop-j.invariant.same;
      shape = c.loop-j.invariant.shape;
      cells = rows_more a n (unit_moves a n) (each_unit a n) s.cells.now c.loop-j.self.cells.now c.lay_unit.new.cells n c.row.result j sq (omega (arith, l, c.loop-j-test.true, c.requires)) t c.loop-j.invariant.cells e;
    }

pub returns-clause-cells : goal.returns-clause-cells
returns-clause-cells g c =
    let a = g.K.Kind.arith in
    let s = c.args.self.now in
    let n = s.shape.unknowns in
    let l = units_many a n in
    rows_end a n (unit_moves a n) (each_unit a n) s.cells.now c.loop-j.self.cells.now n c.loop-j.j (omega (arith, l, c.requires)) c.loop-j.invariant.cells
