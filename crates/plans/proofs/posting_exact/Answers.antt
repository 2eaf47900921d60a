-- `posting_exact`: the theorems that it carries.
use Rattle.plans.proofs.Rightness.{posting_exact_lem}
use Rattle.plans.proofs.posting_exact.Goals as goal

pub returns : goal.returns
returns g c = posting_exact_lem g.K.Kind.arith g.met.K.Kind.kept
