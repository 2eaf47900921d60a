-- `laws_refuse`: the theorem that it carries.
use Rattle.kinds.proofs.KindSamples.{kinds}
use Rattle.kinds.proofs.theorems.laws_refuse.Goals as goal

pub returns : goal.returns
returns c = kinds
