-- `make_steps`: what holds at each turn of its loop.
use Rattle.std.proofs.Common.{◌≡◌}
use Rattle.sheets.specs.Sheet.{model}
use Rattle.runs.proofs.Steps.{Made}
use Rattle.runs.proofs.run.make_steps.Given as goal

abbrev pub invariant-loop-i : goal.invariant-loop-i
invariant-loop-i g l =
    (l.sheet.cells.ghost_name ≡ l.initial.sheet.cells.ghost_name)
    × Made g.K.Kind.arith (model l.initial.sheet) (model l.sheet) l.initial.steps l.steps l.i
