-- `calls_accepted_and_refused`: the theorem that it carries.
use Rattle.sheets.proofs.SampleCalls.{calls}
use Rattle.sheets.proofs.theorems.calls_accepted_and_refused.Goals as goal

pub returns : goal.returns
returns c = calls
