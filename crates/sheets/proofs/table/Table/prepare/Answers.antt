-- `Table::prepare`: its clauses hold where it returns.
use Rattle.std.proofs.Common.{w32, SFits, ◌≡◌, ℕ, length, take, pos, slice_index_or, Some, None, sym, ap, ◌∙◌, subst, arith, rules}
use Rattle.std.proofs.lemmas.Int.{to_z-of_z}
use Rattle.std.proofs.lemmas.List.{length-take-le}
use Rattle.std.proofs.lemmas.Result.{err_from_is_err_and}
use Rattle.plans.specs.Posting.{running}
use Rattle.sheets.specs.Cells.{main_cells, part, numbers}
use Rattle.sheets.specs.Words.{number_of, numbers_of}
use Rattle.sheets.specs.Work.{Topped, Laid}
use Rattle.sheets.proofs.Preparing.{tops_fail, B_fail, prepared}
use Rattle.sheets.proofs.Tables.{moves_in, work_in, same_unknowns}
use Rattle.sheets.proofs.table.Table.prepare.Goals as goal

pub returns-in_err-lay_moves-clause-prepared : goal.returns-in_err-lay_moves-clause-prepared
returns-in_err-lay_moves-clause-prepared g c =
    let a = g.K.Kind.arith in
    let s = c.args.self.now in
    let n = s.shape.unknowns in
    let p = main_cells n in
    let cs = numbers_of a (take n c.args.words.now) in
    let right = number_of a (slice_index_or c.args.words.now n (pos 0)) in
    let w = subst (λ (r : _). Topped a cs n p s.shape.moves s.cells.now r c.lay_moves.new.self.cells.now) c.in_err-lay_moves.was c.lay_moves.ensures.laid in
    let q = err_from_is_err_and c.from_residual.result c.from_residual.ensures.1 in
    rw q.1 (tops_fail a cs right n p s.shape.moves s.cells.now (moves_in s) (work_in s) c.lay_moves.new.self.cells.now w.1 w.0)

pub returns-in_err-top-clause-prepared : goal.returns-in_err-top-clause-prepared
returns-in_err-top-clause-prepared g c =
    let a = g.K.Kind.arith in
    let s = c.args.self.now in
    let n = s.shape.unknowns in
    let p = main_cells n in
    let now = c.lay_moves.new.self.cells.now in
    let cs = numbers_of a (take n c.args.words.now) in
    let right = number_of a (slice_index_or c.args.words.now n (pos 0)) in
    let z = slice_index_or c.args.words.now n (pos 0) in
    let fits : SFits w32 z = search rules in
    let lt : length (take n c.args.words.now) ≡ n = length-take-le n c.args.words.now (omega (arith, c.requires)) in
    let w = subst (λ (r : _). Topped a cs n p s.shape.moves s.cells.now r now) c.in_ok-lay_moves.was c.lay_moves.ensures.laid in
    let e : c.running_sum.result ≡ None = search rules in
    let r = c.running_sum.ensures ∙ (λ i. running a c.negative-start.result cs (numbers a (part 0 (lt i) now))) in
    let q = err_from_is_err_and c.from_residual-in_err-top.result c.from_residual-in_err-top.ensures.1 in
    rw q.1 (B_fail a cs right n p s.shape.moves s.cells.now (moves_in s) (work_in s) now w.1 c.negative-start.result (c.negative-start.ensures ∙ ap a.negative (c.word_number.ensures ∙ ap (number_of a) (to_z-of_z w32 z fits))) (sym r ∙ e))

pub returns-clause-prepared : goal.returns-clause-prepared
returns-clause-prepared g c =
    let a = g.K.Kind.arith in
    let s = c.args.self.now in
    let n = s.shape.unknowns in
    let p = main_cells n in
    let now = c.lay_moves.new.self.cells.now in
    let next = c.lay_column.new.cells in
    let cs = numbers_of a (take n c.args.words.now) in
    let right = number_of a (slice_index_or c.args.words.now n (pos 0)) in
    let z = slice_index_or c.args.words.now n (pos 0) in
    let fits : SFits w32 z = search rules in
    let lt : length (take n c.args.words.now) ≡ n = length-take-le n c.args.words.now (omega (arith, c.requires)) in
    let w = subst (λ (r : _). Topped a cs n p s.shape.moves s.cells.now r now) c.in_ok-lay_moves.was c.lay_moves.ensures.laid in
    let e : c.running_sum.result ≡ Some c.in_ok-top.top = search rules in
    let r = c.running_sum.ensures ∙ (λ i. running a c.negative-start.result cs (numbers a (part 0 (lt i) now))) in
    let v : c.spare.result ≡ p = c.spare.ensures.value ∙ ap (λ (x : ℕ). main_cells x) (same_unknowns c.lay_moves.ensures.shape) in
    let l = subst (λ (x : ℕ). Laid a n x c.in_ok-top.top 0 now next) v c.lay_column.ensures in
    prepared a cs right n p s.shape.moves s.cells.now (moves_in s) (work_in s) now w.1 next c.negative-start.result c.in_ok-top.top w.0 (c.negative-start.ensures ∙ ap a.negative (c.word_number.ensures ∙ ap (number_of a) (to_z-of_z w32 z fits))) (sym r ∙ e) l
