-- `costing_meets`: its clauses hold where it returns.
use Rattle.std.proofs.Common.{rules}
use Rattle.costing.proofs.Verdicts.{means}
use Rattle.costing.proofs.costing_meets.Goals as goal

pub returns-clause-means : goal.returns-clause-means
returns-clause-means c = means _ _ _ (search rules)
