-- `rounds_end`: the theorems that it carries.
use Rattle.plans.proofs.Falling.{enough}
use Rattle.plans.proofs.Lacking.{only_products}
use Rattle.plans.proofs.rounds_end.Goals as goal

pub returns : goal.returns
returns g c = record { turns = enough g.K.Kind.arith g.met.K.Kind.kept; products = only_products g.K.Kind.arith g.met.K.Kind.kept }
