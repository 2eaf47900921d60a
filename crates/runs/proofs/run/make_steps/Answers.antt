-- `make_steps`: its loop keeps what holds at each turn, and its clauses hold where it returns.
use Rattle.std.proofs.Common.{◌∙◌, refl, arith}
use Rattle.sheets.specs.Sheet.{model}
use Rattle.runs.proofs.Steps.{made_none, made_more, made_all}
use Rattle.runs.proofs.run.make_steps.Goals as goal

pub loop-i-init : goal.loop-i-init
loop-i-init g c = (refl, made_none g.K.Kind.arith (model c.args.sheet.now) c.args.steps.now)

pub loop-i-preserved : goal.loop-i-preserved
loop-i-preserved g c =
    let made = c.make_step.ensures in (
      made.held ∙ c.loop-i.invariant.0,
      made_more g.K.Kind.arith (model c.args.sheet.now) c.args.steps.now
          (model c.loop-i.sheet) (model c.make_step.new.sheet)
          c.loop-i.steps c.loop-i.i _ c.make_step.new.step c.loop-i-test.true c.loop-i.auto.steps
          made.memory_held made.call made.answer made.memory made.sheet made.law c.loop-i.invariant.1,
    )

pub returns : goal.returns
returns g c =
    let all = made_all g.K.Kind.arith (model c.args.sheet.now) c.args.steps.now (model c.loop-i.sheet) c.loop-i.steps c.loop-i.i (omega arith) c.loop-i.auto.steps c.loop-i.invariant.1 in
    record {
      held = c.loop-i.invariant.0;
      memory_held = c.loop-i.invariant.1.names;
      calls = c.loop-i.invariant.1.calls;
      made = all.0;
      sheet = all.1;
      law = all.2;
    }
