-- `new_sheet_general`: the theorems that it carries.
use Rattle.plans.proofs.NewSheet.{new_general}
use Rattle.plans.proofs.new_sheet_general.Goals as goal

pub returns : goal.returns
returns g c = new_general g.K.Kind.arith g.met.K.Kind.kept
