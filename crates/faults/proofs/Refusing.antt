-- What an answer tells of the refusal that it was made of.
use Rattle.std.proofs.Common.{◌≡◌, Some, None, Ok, Err, Option, refl}
use Rattle.faults.specs.Refusing.{ok_unless}

pub ok_not_refused : {E X : Type 0} (o : Option E) (x y : X) → ok_unless o x ≡ Ok y → (o ≡ None) × (x ≡ y)
ok_not_refused None x y e = (refl, cc)
ok_not_refused (Some fault) x y e = absurd cc

pub err_refused : {E X : Type 0} (o : Option E) (x : X) (fault : E) → ok_unless o x ≡ Err fault → o ≡ Some fault
err_refused None x fault e = absurd cc
err_refused (Some other) x fault e = cc
