-- `Table::close_moves`: its loop keeps what holds at each turn and its clauses hold where it returns.
use Rattle.std.proofs.Common.{◌≡◌, ℕ, ◌+◌, ◌*◌, refl, ap, ◌∙◌, subst, arith}
use Rattle.lines.specs.Page.{over}
use Rattle.sheets.specs.Cells.{main_cells, part, numbers, held}
use Rattle.sheets.specs.Table.{first_of}
use Rattle.sheets.proofs.Closing.{close_start, close_more, close_end}
use Rattle.sheets.proofs.Tables.{square_in, work_in, same_unknowns}
use Rattle.sheets.proofs.table.Table.close_moves.Goals as goal

pub loop-j-init : goal.loop-j-init
loop-j-init g c =
    let s = c.args.self.now in
    let n = s.shape.unknowns in
    record { same = refl; shape = refl; cells = close_start g.K.Kind.arith n (main_cells n) s.shape.moves c.args.pivot s.cells.now (square_in s) s.shape.few (work_in s) c.requires }

pub loop-j-preserved : goal.loop-j-preserved
loop-j-preserved g c =
    let a = g.K.Kind.arith in
    let s = c.args.self.now in
    let n = s.shape.unknowns in
    let j = c.loop-j.j in
    let r = c.source.result in
    let now = c.loop-j.self.cells.now in
    let next = c.copy.new.cells in
    let u = same_unknowns c.loop-j.invariant.shape in
    let t : c.row.result ≡ n + j * n = c.row.ensures.value ∙ ap (λ (x : ℕ). x + j * x) u in
    let f : c.column-from.result ≡ first_of s + r * (n + 1) = c.column-from.ensures.value ∙ ap (λ (x : ℕ). x * (x + 1) + (x + 1) + r * (x + 1)) u in
    let e = subst (λ (x : ℕ). next ≡ over now c.row.result (held a (numbers a (part (c.column-from.result + 1) x now)))) u c.copy.ensures in
    record {
      same = c.loop-j.invariant.same;
      shape = c.loop-j.invariant.shape;
      cells = close_more a n (main_cells n) s.shape.moves c.args.pivot s.cells.now (square_in s) s.shape.few (work_in s) c.requires j r c.row.result c.column-from.result now next c.loop-j-test.true c.source.ensures t f c.loop-j.invariant.cells e;
    }

pub returns-clause-cells : goal.returns-clause-cells
returns-clause-cells g c =
    let s = c.args.self.now in
    let n = s.shape.unknowns in
    close_end g.K.Kind.arith n (main_cells n) s.shape.moves c.args.pivot s.cells.now (square_in s) s.shape.few (work_in s) c.requires c.loop-j.j c.loop-j.self.cells.now (omega arith) c.loop-j.invariant.cells
