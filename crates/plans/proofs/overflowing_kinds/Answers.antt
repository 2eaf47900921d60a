-- `overflowing_kinds`: the theorems that it carries.
use Rattle.plans.proofs.NeverOverflowing.{weekdays_never, wholes_may}
use Rattle.plans.proofs.overflowing_kinds.Goals as goal

pub returns : goal.returns
returns c = record { weekdays = weekdays_never; wholes = wholes_may }
