-- `samples_stand`: the theorems that it carries.
use Rattle.std.proofs.Common.{◌≡◌, pos, refl}
use Rattle.kinds.specs.Sames.{same_eq}
use Rattle.kinds.specs.Wholes.{equal}
use Rattle.costing.proofs.samples_stand.Goals as goal

pub returns-clause-no_wrong : goal.returns-clause-no_wrong
returns-clause-no_wrong c = record {
  met = λ h. h.no_meets refl (same_eq refl);
  unmet = λ h. let e : pos 8 ≡ pos 1 = equal (h.yes_meets refl) in cc;
}
