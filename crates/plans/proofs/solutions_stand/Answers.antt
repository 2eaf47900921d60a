-- `solutions_stand`: the theorems that it carries.
use Rattle.plans.proofs.SampleSolutions.{solutions}
use Rattle.plans.proofs.solutions_stand.Goals as goal

pub returns : goal.returns
returns c = solutions
