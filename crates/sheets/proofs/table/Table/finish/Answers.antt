-- `Table::finish`: its clauses hold where it returns.
use Rattle.std.proofs.Common.{◌≡◌, ℕ, ◌+◌, ◌*◌, Ok, Err, Some, None, sym, refl, ap, ◌∙◌, subst, arith, rules}
use Rattle.std.proofs.lemmas.Result.{err_from_is_err_and}
use Rattle.plans.specs.Posting.{adds}
use Rattle.sheets.specs.Cells.{main_cells, part, numbers, number_at}
use Rattle.sheets.specs.Combining.{Combined}
use Rattle.sheets.specs.Table.{first_of}
use Rattle.sheets.proofs.Limits.{within_same, within_wider}
use Rattle.sheets.proofs.Settling.{quotients, products, finish_none, finish_top_none, finish_contradicted, finish_low_none, finish_taken}
use Rattle.sheets.proofs.Tables.{work_in}
use Rattle.sheets.proofs.table.Table.finish.Goals as goal

pub returns-in_err-ok_or-clause-finished : goal.returns-in_err-ok_or-clause-finished
returns-in_err-ok_or-clause-finished g c =
    let a = g.K.Kind.arith in
    let s = c.args.self.now in
    let cs = s.cells.now in
    let n = s.shape.unknowns in
    let eb = c.number-b.ensures ∙ ap (number_at a cs) c.spare-at.ensures.value in
    let ed = c.number-d.ensures ∙ ap (number_at a cs) c.column-p.ensures.value in
    let e : c.quotient.result ≡ None = search rules in
    let q = err_from_is_err_and c.from_residual.result c.from_residual.ensures.1 in
    rw q.1 (finish_none a n (main_cells n) s.shape.moves c.args.pivot cs (work_in s) c.requires (sym (quotients a eb ed) ∙ sym c.quotient.ensures ∙ e), within_same)

pub returns-in_err-top-clause-finished : goal.returns-in_err-top-clause-finished
returns-in_err-top-clause-finished g c =
    let a = g.K.Kind.arith in
    let s = c.args.self.now in
    let cs = s.cells.now in
    let n = s.shape.unknowns in
    let x = c.in_ok-ok_or.field-0 in
    let eb = c.number-b.ensures ∙ ap (number_at a cs) c.spare-at.ensures.value in
    let ed = c.number-d.ensures ∙ ap (number_at a cs) c.column-p.ensures.value in
    let e : c.quotient.result ≡ Some x = search rules in
    let t : c.add_product.result ≡ None = search rules in
    let eq = sym (quotients a eb ed) ∙ sym c.quotient.ensures ∙ e in
    let q = err_from_is_err_and c.from_residual-in_err-top.result c.from_residual-in_err-top.ensures.1 in
    rw q.1 (finish_top_none a n (main_cells n) s.shape.moves c.args.pivot cs (work_in s) c.requires x eq (sym (products a eb c.negative-minus.ensures ed) ∙ sym c.add_product.ensures ∙ t), within_same)

pub returns-then-not-is_zero-clause-finished : goal.returns-then-not-is_zero-clause-finished
returns-then-not-is_zero-clause-finished g c =
    let a = g.K.Kind.arith in
    let s = c.args.self.now in
    let cs = s.cells.now in
    let n = s.shape.unknowns in
    let x = c.in_ok-ok_or.field-0 in
    let eb = c.number-b.ensures ∙ ap (number_at a cs) c.spare-at.ensures.value in
    let ed = c.number-d.ensures ∙ ap (number_at a cs) c.column-p.ensures.value in
    let e : c.quotient.result ≡ Some x = search rules in
    let t : c.add_product.result ≡ Some c.in_ok-top.top = search rules in
    let eq = sym (quotients a eb ed) ∙ sym c.quotient.ensures ∙ e in
    let et = sym (products a eb c.negative-minus.ensures ed) ∙ sym c.add_product.ensures ∙ t in
    (finish_contradicted a n (main_cells n) s.shape.moves c.args.pivot cs (work_in s) c.requires x eq c.in_ok-top.top et (sym c.is_zero.ensures ∙ c.if-not-is_zero.true), refl)

pub returns-in_err-combine-clause-finished : goal.returns-in_err-combine-clause-finished
returns-in_err-combine-clause-finished g c =
    let a = g.K.Kind.arith in
    let s = c.args.self.now in
    let cs = s.cells.now in
    let ds = c.combine.new.cells in
    let n = s.shape.unknowns in
    let p = main_cells n in
    let l = first_of s + c.args.pivot * (n + 1) in
    let x = c.in_ok-ok_or.field-0 in
    let eb = c.number-b.ensures ∙ ap (number_at a cs) c.spare-at.ensures.value in
    let ed = c.number-d.ensures ∙ ap (number_at a cs) c.column-p.ensures.value in
    let e : c.quotient.result ≡ Some x = search rules in
    let t : c.add_product.result ≡ Some c.in_ok-top.top = search rules in
    let eq = sym (quotients a eb ed) ∙ sym c.quotient.ensures ∙ e in
    let et = sym (products a eb c.negative-minus.ensures ed) ∙ sym c.add_product.ensures ∙ t in
    let w = subst (λ (r : _). Combined a (adds a (numbers a (part (c.spare-at.result + 1) n cs)) c.negative-minus.result (numbers a (part (c.column-p.result + 1) n cs))) n cs (c.spare-at.result + 1) r ds) c.in_err-combine.was c.combine.ensures in
    let w2 = subst (λ (y : ℕ). Combined a (adds a (numbers a (part (y + 1) n cs)) c.negative-minus.result (numbers a (part (c.column-p.result + 1) n cs))) n cs (y + 1) (Err c.in_err-combine.field-0.0) ds) c.spare-at.ensures.value w in
    let w3 = subst (λ (y : ℕ). Combined a (adds a (numbers a (part (p + 1) n cs)) c.negative-minus.result (numbers a (part (y + 1) n cs))) n cs (p + 1) (Err c.in_err-combine.field-0.0) ds) c.column-p.ensures.value w2 in
    let w4 = subst (λ (y : g.row.K.Denot). Combined a (adds a (numbers a (part (p + 1) n cs)) y (numbers a (part (l + 1) n cs))) n cs (p + 1) (Err c.in_err-combine.field-0.0) ds) c.negative-minus.ensures w3 in
    let q = err_from_is_err_and c.from_residual-in_err-combine.result c.from_residual-in_err-combine.ensures.1 in
    rw q.1 (
      finish_low_none a n p s.shape.moves c.args.pivot cs (work_in s) c.requires x eq c.in_ok-top.top et (sym c.is_zero.ensures ∙ c.if-not-is_zero.false) w4.0,
      within_wider w4.1 (omega arith) (omega arith),
    )

pub returns-clause-finished : goal.returns-clause-finished
returns-clause-finished g c =
    let a = g.K.Kind.arith in
    let s = c.args.self.now in
    let cs = s.cells.now in
    let ds = c.combine.new.cells in
    let n = s.shape.unknowns in
    let p = main_cells n in
    let l = first_of s + c.args.pivot * (n + 1) in
    let x = c.in_ok-ok_or.field-0 in
    let eb = c.number-b.ensures ∙ ap (number_at a cs) c.spare-at.ensures.value in
    let ed = c.number-d.ensures ∙ ap (number_at a cs) c.column-p.ensures.value in
    let e : c.quotient.result ≡ Some x = search rules in
    let t : c.add_product.result ≡ Some c.in_ok-top.top = search rules in
    let eq = sym (quotients a eb ed) ∙ sym c.quotient.ensures ∙ e in
    let et = sym (products a eb c.negative-minus.ensures ed) ∙ sym c.add_product.ensures ∙ t in
    let w = subst (λ (r : _). Combined a (adds a (numbers a (part (c.spare-at.result + 1) n cs)) c.negative-minus.result (numbers a (part (c.column-p.result + 1) n cs))) n cs (c.spare-at.result + 1) r ds) c.in_ok-combine.was c.combine.ensures in
    let w2 = subst (λ (y : ℕ). Combined a (adds a (numbers a (part (y + 1) n cs)) c.negative-minus.result (numbers a (part (c.column-p.result + 1) n cs))) n cs (y + 1) (Ok c.in_ok-combine.field-0) ds) c.spare-at.ensures.value w in
    let w3 = subst (λ (y : ℕ). Combined a (adds a (numbers a (part (p + 1) n cs)) c.negative-minus.result (numbers a (part (y + 1) n cs))) n cs (p + 1) (Ok c.in_ok-combine.field-0) ds) c.column-p.ensures.value w2 in
    let w4 = subst (λ (y : g.row.K.Denot). Combined a (adds a (numbers a (part (p + 1) n cs)) y (numbers a (part (l + 1) n cs))) n cs (p + 1) (Ok c.in_ok-combine.field-0) ds) c.negative-minus.ensures w3 in
    finish_taken a n p s.shape.moves c.args.pivot cs (work_in s) c.requires x eq c.in_ok-top.top et (sym c.is_zero.ensures ∙ c.if-not-is_zero.false) g.met.K.Kind.kept w4.0 ds w4.1.0 w4.1.1
