-- `Sheet::pick`: its clauses hold where it returns.
use Rattle.std.proofs.Common.{◌≡◌, length, take, Some, None, Ok, Result, sym, ◌∙◌, subst, rules}
use Rattle.faults.specs.declared.SheetFault.{SheetFault}
use Rattle.plans.specs.Solution.{MakesPlan}
use Rattle.sheets.specs.Picking.{Planned, pick_refusal, plan_in, pick_unless, words_unless, pick_answer, pick_left}
use Rattle.sheets.specs.Sheet.{model, contents_of}
use Rattle.sheets.proofs.PickLaws.{pick_keeps, pick_made, pickable}
use Rattle.sheets.proofs.Refusals.{done_none, undone}
use Rattle.sheets.proofs.sheet.Sheet.pick.Goals as goal

pub returns : goal.returns
returns g c =
    let a = g.K.Kind.arith in
    let m = model c.args.self.now in
    let n = m.unknowns in
    let choice = c.args.choice.now in
    let plan = c.args.plan.now in
    let q : pick_refusal a m choice (length plan) ≡ None = done_none (pick_refusal a m choice (length plan)) (sym c.check_pick.ensures.value ∙ c.in_ok-check_pick.was) in
    let p = pickable a g.met.K.Kind.kept m c.args.self.now.shape.few c.args.self.now.cells_enough choice plan q in
    let o : c.plan_words.result ≡ Some c.in_ok-words.words = search rules in
    let came = subst (Planned a (plan_in a m choice) n) o c.plan_words.ensures in
    let e : plan_in a m choice ≡ Some came.0 = came.1.0 in
    let r : Result Unit SheetFault = Ok tt in
    let answer : r ≡ pick_answer a m choice plan = sym (λ i. pick_unless a (q i) (e i)) in
    let copied : c.copy_from_slice.new.self ≡ take n c.in_ok-words.words = search rules in
    let left : c.copy_from_slice.new.self ≡ pick_left a m choice plan = copied ∙ came.1.1 ∙ sym (λ i. words_unless a (q i) (e i) plan) in
    record {
      answer = answer;
      left = left;
      made = subst (MakesPlan a (contents_of a m) choice) (sym left) (pick_made a g.met.K.Kind.kept m c.args.self.now.shape.few c.args.self.now.cells_enough choice plan (λ _. c.in_ok-check_pick.ensures.fit) (sym answer));
      law = pick_keeps a g.met.K.Kind.kept m c.args.self.now.shape.few c.args.self.now.cells_enough choice plan (λ _. c.in_ok-check_pick.ensures.fit) r c.copy_from_slice.new.self answer left;
    }

pub returns-in_err-check_pick-clause-law : goal.returns-in_err-check_pick-clause-law
returns-in_err-check_pick-clause-law g c =
    let a = g.K.Kind.arith in
    let m = model c.args.self.now in
    let choice = c.args.choice.now in
    let plan = c.args.plan.now in
    let fault = c.in_err-check_pick.field-0.0 in
    let refused : pick_refusal a m choice (length plan) ≡ Some fault = undone (pick_refusal a m choice (length plan)) fault (sym c.check_pick.ensures.value ∙ c.in_err-check_pick.was) in
    let answer : c.from_residual.result ≡ pick_answer a m choice plan = search rules in
    let left : plan ≡ pick_left a m choice plan = search rules in
    pick_keeps a g.met.K.Kind.kept m c.args.self.now.shape.few c.args.self.now.cells_enough choice plan (λ e. absurd cc) c.from_residual.result plan answer left

pub returns-in_err-words-clause-law : goal.returns-in_err-words-clause-law
returns-in_err-words-clause-law g c =
    let a = g.K.Kind.arith in
    let m = model c.args.self.now in
    let choice = c.args.choice.now in
    let plan = c.args.plan.now in
    let answer : c.from_residual-in_err-words.result ≡ pick_answer a m choice plan = search rules in
    let left : plan ≡ pick_left a m choice plan = search rules in
    pick_keeps a g.met.K.Kind.kept m c.args.self.now.shape.few c.args.self.now.cells_enough choice plan (λ _. c.in_ok-check_pick.ensures.fit) c.from_residual-in_err-words.result plan answer left
