-- `one_solution`: the theorem that it carries.
use Rattle.runs.proofs.Unique.{one_solution_lem}
use Rattle.runs.proofs.theorems.one_solution.Goals as goal

pub returns : goal.returns
returns g c = one_solution_lem g.K.Kind.arith
