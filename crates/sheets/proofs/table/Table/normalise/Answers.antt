-- `Table::normalise`: its loop keeps what holds at each turn and its clauses hold where it returns.
use Rattle.std.proofs.Common.{◌≡◌, ℕ, ◌+◌, ◌*◌, ap, ◌∙◌, subst, arith}
use Rattle.std.proofs.lemmas.Result.{err_from_is_err_and}
use Rattle.plans.specs.Posting.{adds_column, blank}
use Rattle.sheets.specs.Cells.{number_at}
use Rattle.sheets.specs.Table.{first_of}
use Rattle.sheets.specs.Work.{column_at, CameAt}
use Rattle.sheets.proofs.Limits.{within_trans, within_wider}
use Rattle.sheets.proofs.Places.{column_in}
use Rattle.sheets.proofs.Laying.{units_none, units_more, units_end}
use Rattle.sheets.proofs.Tables.{columns_in, same_unknowns}
use Rattle.sheets.proofs.table.Table.normalise.Goals as goal

pub returns-in_err-scale_column-clause-normal : goal.returns-in_err-scale_column-clause-normal
returns-in_err-scale_column-clause-normal g c =
    let a = g.K.Kind.arith in
    let s = c.args.self.now in
    let n = s.shape.unknowns in
    let j = c.loop-j.j in
    let now = c.loop-j.self.cells.now in
    let e = same_unknowns c.loop-j.invariant.shape in
    let v : c.column.result ≡ first_of s + j * (n + 1) = c.column.ensures.value ∙ ap (λ (x : ℕ). x * (x + 1) + (x + 1) + j * (x + 1)) e in
    let t : c.unit-u.result ≡ a.unit (number_at a now (first_of s + j * (n + 1)))
    = c.unit-u.ensures ∙ ap a.unit (c.top.ensures ∙ ap (λ (x : ℕ). number_at a now (x * (x + 1) + (x + 1) + j * (x + 1))) e) in
    let q = err_from_is_err_and c.from_residual.result c.from_residual.ensures.1 in
    let w = subst (λ (x : ℕ). CameAt a (adds_column a (blank a (column_at a now x c.column.result)) c.unit-u.result (column_at a now x c.column.result)) x c.column.result now c.scale_column.result c.scale_column.new.cells) e c.scale_column.ensures in
    let w2 = subst (λ (y : ℕ). CameAt a (adds_column a (blank a (column_at a now n y)) c.unit-u.result (column_at a now n y)) n y now c.scale_column.result c.scale_column.new.cells) v w in
    let w3 = subst (λ (x : g.row.K.Denot). CameAt a (adds_column a (blank a (column_at a now n (first_of s + j * (n + 1)))) x (column_at a now n (first_of s + j * (n + 1)))) n (first_of s + j * (n + 1)) now c.scale_column.result c.scale_column.new.cells) t w2 in
    let w4 = subst (λ (r : _). CameAt a (adds_column a (blank a (column_at a now n (first_of s + j * (n + 1)))) (a.unit (number_at a now (first_of s + j * (n + 1)))) (column_at a now n (first_of s + j * (n + 1)))) n (first_of s + j * (n + 1)) now r c.scale_column.new.cells) c.in_err-scale_column.was w3 in
    let b = column_in j s.shape.moves (n + 1) c.loop-j-test.true in
    rw q.1 (
      units_none a n (first_of s) s.shape.moves s.cells.now (columns_in s) j now c.loop-j-test.true c.loop-j.invariant.units w4.0,
      within_trans c.loop-j.invariant.units.inside (within_wider w4.1 (omega arith) (omega (arith, b))),
    )

pub loop-j-preserved : goal.loop-j-preserved
loop-j-preserved g c =
    let a = g.K.Kind.arith in
    let s = c.args.self.now in
    let n = s.shape.unknowns in
    let j = c.loop-j.j in
    let now = c.loop-j.self.cells.now in
    let next = c.scale_column.new.cells in
    let e = same_unknowns c.loop-j.invariant.shape in
    let v : c.column.result ≡ first_of s + j * (n + 1) = c.column.ensures.value ∙ ap (λ (x : ℕ). x * (x + 1) + (x + 1) + j * (x + 1)) e in
    let t : c.unit-u.result ≡ a.unit (number_at a now (first_of s + j * (n + 1)))
    = c.unit-u.ensures ∙ ap a.unit (c.top.ensures ∙ ap (λ (x : ℕ). number_at a now (x * (x + 1) + (x + 1) + j * (x + 1))) e) in
    let w = subst (λ (x : ℕ). CameAt a (adds_column a (blank a (column_at a now x c.column.result)) c.unit-u.result (column_at a now x c.column.result)) x c.column.result now c.scale_column.result next) e c.scale_column.ensures in
    let w2 = subst (λ (y : ℕ). CameAt a (adds_column a (blank a (column_at a now n y)) c.unit-u.result (column_at a now n y)) n y now c.scale_column.result next) v w in
    let w3 = subst (λ (x : g.row.K.Denot). CameAt a (adds_column a (blank a (column_at a now n (first_of s + j * (n + 1)))) x (column_at a now n (first_of s + j * (n + 1)))) n (first_of s + j * (n + 1)) now c.scale_column.result next) t w2 in
    let w4 = subst (λ (r : _). CameAt a (adds_column a (blank a (column_at a now n (first_of s + j * (n + 1)))) (a.unit (number_at a now (first_of s + j * (n + 1)))) (column_at a now n (first_of s + j * (n + 1)))) n (first_of s + j * (n + 1)) now r next) c.in_ok-scale_column.was w3 in
    record {
      held = c.loop-j.invariant.held;
      shape = c.loop-j.invariant.shape;
      units = units_more a n (first_of s) s.shape.moves s.cells.now (columns_in s) j now next c.loop-j-test.true c.loop-j.invariant.units w4.0 w4.1;
    }

pub returns-clause-normal : goal.returns-clause-normal
returns-clause-normal g c =
    let s = c.args.self.now in
    units_end g.K.Kind.arith s.shape.unknowns (first_of s) s.shape.moves s.cells.now (columns_in s) c.loop-j.j c.loop-j.self.cells.now (omega arith) c.loop-j.invariant.units
