-- `modulus_zero_or_prime`: the theorem that it carries.
use Rattle.kinds.proofs.KindSamples.{prime_modulus}
use Rattle.kinds.proofs.theorems.modulus_zero_or_prime.Goals as goal

pub returns : goal.returns
returns g c = prime_modulus g.K.Kind.arith g.met.K.Kind.kept
