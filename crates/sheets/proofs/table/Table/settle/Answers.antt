-- `Table::settle`: its clauses hold where it returns.
use Rattle.std.proofs.Common.{◌≡◌, refl, Some, Ok, Err, ap, ◌∙◌, subst, true, false}
use Rattle.std.proofs.lemmas.Result.{err_from_is_err_and}
use Rattle.lines.specs.Page.{over}
use Rattle.plans.specs.Posting.{finish}
use Rattle.sheets.specs.declared.shape.Shape.{Shape}
use Rattle.sheets.specs.Cells.{main_cells, main_of}
use Rattle.sheets.specs.Work.{work_at, left_at, Normal, Ended, Finished}
use Rattle.sheets.proofs.Outcomes.{normal_fails, rounds_fail, finish_fails, finish_against, finish_takes}
use Rattle.sheets.proofs.Tables.{work_in, at_shape}
use Rattle.sheets.proofs.table.Table.settle.Goals as goal

pub returns-in_err-normalise-clause-settled : goal.returns-in_err-normalise-clause-settled
returns-in_err-normalise-clause-settled g c =
    let a = g.K.Kind.arith in
    let s = c.args.self.now in
    let n = s.shape.unknowns in
    let p = main_cells n in
    let k = s.shape.moves in
    let cs = s.cells.now in
    let ds = c.normalise.new.self.cells.now in
    let u = subst (λ (r : _). Normal a n p k cs r ds) c.in_err-normalise.was c.normalise.ensures.normal in
    let q = err_from_is_err_and c.from_residual.result c.from_residual.ensures.1 in
    normal_fails a n p k cs refl s.shape.few (work_in s) c.from_residual.result ds (q.1 ∙ ap Err q.2) u.0 u.1

pub returns-in_err-pivot-clause-settled : goal.returns-in_err-pivot-clause-settled
returns-in_err-pivot-clause-settled g c =
    let a = g.K.Kind.arith in
    let s = c.args.self.now in
    let n = s.shape.unknowns in
    let p = main_cells n in
    let k = s.shape.moves in
    let cs = s.cells.now in
    let ds = c.normalise.new.self.cells.now in
    let u = subst (λ (r : _). Normal a n p k cs r ds) c.in_ok-normalise.was c.normalise.ensures.normal in
    let es = c.rounds.new.self.cells.now in
    let v = at_shape (Ended a) ds es c.normalise.ensures.shape c.in_err-pivot.was c.rounds.ensures.ended in
    let q = err_from_is_err_and c.from_residual-in_err-pivot.result c.from_residual-in_err-pivot.ensures.1 in
    rounds_fail a n p k cs refl s.shape.few (work_in s) ds u.0 u.1 c.from_residual-in_err-pivot.result es (q.1 ∙ ap Err q.2) v.0 v.1

pub returns-in_err-met-clause-settled : goal.returns-in_err-met-clause-settled
returns-in_err-met-clause-settled g c =
    let a = g.K.Kind.arith in
    let s = c.args.self.now in
    let n = s.shape.unknowns in
    let p = main_cells n in
    let k = s.shape.moves in
    let cs = s.cells.now in
    let ds = c.normalise.new.self.cells.now in
    let u = subst (λ (r : _). Normal a n p k cs r ds) c.in_ok-normalise.was c.normalise.ensures.normal in
    let es = c.rounds.new.self.cells.now in
    let l = c.in_ok-pivot.pivot in
    let v = at_shape (Ended a) ds es c.normalise.ensures.shape c.in_ok-pivot.was c.rounds.ensures.ended in
    let fs = c.finish.new.self.cells.now in
    let w = at_shape (λ n p k es r fs. Finished a (finish a (Some (l, work_at a es n p k))) l n p k es r fs) es fs (c.rounds.ensures.shape ∙ c.normalise.ensures.shape) c.in_err-met.was c.finish.ensures.finished in
    let q = err_from_is_err_and c.from_residual-in_err-met.result c.from_residual-in_err-met.ensures.1 in
    finish_fails a n p k cs refl s.shape.few (work_in s) ds u.0 u.1 l es v.0 v.1 v.2 c.from_residual-in_err-met.result fs (q.1 ∙ ap Err q.2) w.0 w.1

pub returns-then-not-met-clause-settled : goal.returns-then-not-met-clause-settled
returns-then-not-met-clause-settled g c =
    let a = g.K.Kind.arith in
    let s = c.args.self.now in
    let n = s.shape.unknowns in
    let p = main_cells n in
    let k = s.shape.moves in
    let cs = s.cells.now in
    let ds = c.normalise.new.self.cells.now in
    let u = subst (λ (r : _). Normal a n p k cs r ds) c.in_ok-normalise.was c.normalise.ensures.normal in
    let es = c.rounds.new.self.cells.now in
    let l = c.in_ok-pivot.pivot in
    let v = at_shape (Ended a) ds es c.normalise.ensures.shape c.in_ok-pivot.was c.rounds.ensures.ended in
    let fs = c.finish.new.self.cells.now in
    let e : c.finish.result ≡ Ok false = c.in_ok-met.was ∙ ap Ok c.if-not-met.true in
    let w = at_shape (λ n p k es r fs. Finished a (finish a (Some (l, work_at a es n p k))) l n p k es r fs) es fs (c.rounds.ensures.shape ∙ c.normalise.ensures.shape) e c.finish.ensures.finished in
    finish_against a n p k cs refl s.shape.few (work_in s) ds u.0 u.1 l es v.0 v.1 v.2 fs w.0 w.1

pub returns-clause-settled : goal.returns-clause-settled
returns-clause-settled g c =
    let a = g.K.Kind.arith in
    let s = c.args.self.now in
    let n = s.shape.unknowns in
    let p = main_cells n in
    let k = s.shape.moves in
    let cs = s.cells.now in
    let ds = c.normalise.new.self.cells.now in
    let u = subst (λ (r : _). Normal a n p k cs r ds) c.in_ok-normalise.was c.normalise.ensures.normal in
    let es = c.rounds.new.self.cells.now in
    let l = c.in_ok-pivot.pivot in
    let v = at_shape (Ended a) ds es c.normalise.ensures.shape c.in_ok-pivot.was c.rounds.ensures.ended in
    let fs = c.finish.new.self.cells.now in
    let e : c.finish.result ≡ Ok true = c.in_ok-met.was ∙ ap Ok c.if-not-met.false in
    let w = at_shape (λ n p k es r fs. Finished a (finish a (Some (l, work_at a es n p k))) l n p k es r fs) es fs (c.rounds.ensures.shape ∙ c.normalise.ensures.shape) e c.finish.ensures.finished in
    let gs = c.close_up.new.self.cells.now in
    let x = subst (λ (x : Shape). gs ≡ over fs 0 (main_of a x.unknowns (left_at a fs x.unknowns (main_cells x.unknowns) x.moves l))) (c.finish.ensures.shape ∙ c.rounds.ensures.shape ∙ c.normalise.ensures.shape) c.close_up.ensures.cells in
    finish_takes a n p k cs refl s.shape.few (work_in s) ds u.0 u.1 l es v.0 v.1 v.2 fs gs w.0 w.1 x
