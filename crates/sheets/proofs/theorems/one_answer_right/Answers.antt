-- `one_answer_right`: the theorem that it carries.
use Rattle.sheets.proofs.OneRight.{one_right}
use Rattle.sheets.proofs.theorems.one_answer_right.Goals as goal

pub returns : goal.returns
returns g c = one_right g.K.Kind.arith
