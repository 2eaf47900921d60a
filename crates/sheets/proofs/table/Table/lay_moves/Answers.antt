-- `Table::lay_moves`: its loop keeps what holds at each turn and its clauses hold where it returns.
use Rattle.std.proofs.Common.{◌≡◌, ℕ, ◌+◌, ◌*◌, Some, None, sym, ap, ◌∙◌, subst, arith, rules}
use Rattle.std.proofs.lemmas.Result.{err_from_is_err_and}
use Rattle.plans.specs.Posting.{running}
use Rattle.sheets.specs.Cells.{part, numbers}
use Rattle.sheets.specs.Table.{first_of}
use Rattle.sheets.specs.Words.{numbers_of}
use Rattle.sheets.specs.Work.{Laid}
use Rattle.sheets.proofs.Laying.{tops_none, tops_more, tops_end}
use Rattle.sheets.proofs.Tables.{columns_in, moves_before, same_unknowns}
use Rattle.sheets.proofs.table.Table.lay_moves.Goals as goal

pub returns-in_err-top-clause-laid : goal.returns-in_err-top-clause-laid
returns-in_err-top-clause-laid g c =
    let a = g.K.Kind.arith in
    let cs = numbers_of a c.args.coefficients.now in
    let s = c.args.self.now in
    let n = s.shape.unknowns in
    let j = c.loop-j.j in
    let now = c.loop-j.self.cells.now in
    let u = same_unknowns c.loop-j.invariant.shape in
    let f : c.row-from.result ≡ n + j * n = c.row-from.ensures.value ∙ ap (λ (x : ℕ). x + j * x) u in
    let r = c.running_sum.ensures ∙ (λ i. running a (c.zero.ensures i) cs (numbers a (part (f i) (c.requires i) now))) in
    let e : c.running_sum.result ≡ None = search rules in
    let q = err_from_is_err_and c.from_residual.result c.from_residual.ensures.1 in
    rw q.1 (tops_none a cs n (first_of s) s.shape.moves s.cells.now (moves_before s) (columns_in s) j now c.loop-j-test.true c.loop-j.invariant.tops (sym r ∙ e))

pub loop-j-preserved : goal.loop-j-preserved
loop-j-preserved g c =
    let a = g.K.Kind.arith in
    let cs = numbers_of a c.args.coefficients.now in
    let s = c.args.self.now in
    let n = s.shape.unknowns in
    let j = c.loop-j.j in
    let now = c.loop-j.self.cells.now in
    let next = c.lay_column.new.cells in
    let u = same_unknowns c.loop-j.invariant.shape in
    let f : c.row-from.result ≡ n + j * n = c.row-from.ensures.value ∙ ap (λ (x : ℕ). x + j * x) u in
    let t : c.column.result ≡ first_of s + j * (n + 1) = c.column.ensures.value ∙ ap (λ (x : ℕ). x * (x + 1) + (x + 1) + j * (x + 1)) u in
    let r = c.running_sum.ensures ∙ (λ i. running a (c.zero.ensures i) cs (numbers a (part (f i) (c.requires i) now))) in
    let e : c.running_sum.result ≡ Some c.in_ok-top.top = search rules in
    let l = subst (λ (x : ℕ). Laid a x c.column.result c.in_ok-top.top c.row-from.result now next) u c.lay_column.ensures in
    let laid_top = subst (λ (x : ℕ). Laid a n x c.in_ok-top.top c.row-from.result now next) t l in
    let m = subst (λ (y : ℕ). Laid a n (first_of s + j * (n + 1)) c.in_ok-top.top y now next) f laid_top in
    record {
      held = c.loop-j.invariant.held;
      shape = c.loop-j.invariant.shape;
      tops = tops_more a cs n (first_of s) s.shape.moves s.cells.now (moves_before s) (columns_in s) j now next c.in_ok-top.top c.loop-j-test.true c.loop-j.invariant.tops (sym r ∙ e) m;
    }

pub returns-clause-laid : goal.returns-clause-laid
returns-clause-laid g c =
    let s = c.args.self.now in
    tops_end g.K.Kind.arith (numbers_of g.K.Kind.arith c.args.coefficients.now) s.shape.unknowns (first_of s) s.shape.moves s.cells.now (moves_before s) (columns_in s) c.loop-j.j c.loop-j.self.cells.now (omega arith) c.loop-j.invariant.tops
