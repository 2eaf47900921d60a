-- `runs_accepted_and_refused`: the theorem that it carries.
use Rattle.runs.proofs.SampleRuns.{runs}
use Rattle.runs.proofs.theorems.runs_accepted_and_refused.Goals as goal

pub returns : goal.returns
returns c = runs
