-- `Sheet::plan_words`: its loop keeps what holds at each turn and its clauses hold where it returns.
use Rattle.std.proofs.Common.{◌≡◌, sym, ◌∙◌, subst, arith, w32, to_z, of_z}
use Rattle.std.proofs.lemmas.Int.{to_z-of_z}
use Rattle.sheets.specs.Picking.{plan_of, Planned}
use Rattle.sheets.specs.Sheet.{contents_of, model}
use Rattle.sheets.specs.Words.{numbers_of}
use Rattle.sheets.proofs.Plans.{fills_more, fills_none}
use Rattle.sheets.proofs.sheet.Sheet.plan_words.Goals as goal

pub returns-in_err-picked : goal.returns-in_err-picked
returns-in_err-picked g c =
    let a = g.K.Kind.arith in
    let n = c.args.self.now.shape.unknowns in
    let s = contents_of a (model c.args.self.now) in
    let xs = numbers_of a c.args.choice.now in
    let e = fills_none a s xs n c.loop-i.i (omega (arith, c.loop-i-test.true, c.loop-i.auto.word-items, c.loop-i.invariant.all)) (sym c.in_err-picked.was ∙ c.picked.ensures) in
    subst (Planned a (plan_of a n s xs) n) (sym c.from_residual.ensures) e

pub loop-i-preserved : goal.loop-i-preserved
loop-i-preserved g c =
    let a = g.K.Kind.arith in
    let x = c.in_ok-picked.field-0 in
    let w = to_z w32 (of_z w32 c.write.result) in
    let e : w ≡ a.write x = to_z-of_z w32 c.write.result (record { sfits = c.write.type_inv }) ∙ c.write.ensures in
    fills_more a (contents_of a (model c.args.self.now)) (numbers_of a c.args.choice.now) c.args.self.now.shape.unknowns c.loop-i.word-items c.loop-i.i x w
    (omega (arith, c.loop-i-test.true, c.loop-i.auto.word-items, c.loop-i.invariant.all)) c.loop-i.invariant (sym c.in_ok-picked.was ∙ c.picked.ensures) e
