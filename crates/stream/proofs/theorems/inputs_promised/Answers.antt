-- `inputs_promised`: the theorem that it carries.
use Rattle.stream.proofs.Promised.{inputs_promised}
use Rattle.stream.proofs.theorems.inputs_promised.Goals as goal

pub returns : goal.returns
returns c = inputs_promised
