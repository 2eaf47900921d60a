-- What the running sum means.
use Rattle.std.proofs.Common.{◌≡◌, List, [], ◌∷◌, ℤ, ◌+ℤ◌, ◌*ℤ◌, Some, None, Option, sym, refl, ap, ◌∙◌}
use lib.IntN.{+ℤ_assoc, +ℤ_idr}
use Rattle.kinds.specs.declared.whole.Whole.{Whole}
use Rattle.kinds.specs.Equation.{dot}
use Rattle.kinds.specs.Whole.{fitted}
use Rattle.kinds.specs.Wholes.{fitted_value}
use Rattle.costing.specs.Costing.{running}

-- where it gives a number, that is the exact sum
pub running_value : (s : Whole) (cs xs : List ℤ) (r : Whole) → running (Some s) cs xs ≡ Some r → r.value ≡ s.value +ℤ dot cs xs
running_value s [] xs r e = let q : s ≡ r = cc in ap (λ (w : Whole). w.value) (sym q) ∙ sym (+ℤ_idr s.value)
running_value s (c ∷ cs) [] r e = let q : s ≡ r = cc in ap (λ (w : Whole). w.value) (sym q) ∙ sym (+ℤ_idr s.value)
running_value s (c ∷ cs) (x ∷ xs) r e = by (fitted (s.value +ℤ c *ℤ x)) refl (λ t. running_value t cs xs r) e
  where
    by : (o : Option Whole) → fitted (s.value +ℤ c *ℤ x) ≡ o → ((t : Whole) → running (Some t) cs xs ≡ Some r → r.value ≡ t.value +ℤ dot cs xs) → running o cs xs ≡ Some r → r.value ≡ s.value +ℤ (c *ℤ x +ℤ dot cs xs)
    by None p rest e = absurd cc
    by (Some t) p rest e = rest t e ∙ ap (λ (z : ℤ). z +ℤ dot cs xs) (fitted_value (s.value +ℤ c *ℤ x) t p) ∙ +ℤ_assoc s.value (c *ℤ x) (dot cs xs)

-- from a start that may not be stored
pub running_from : (z : ℤ) (cs xs : List ℤ) (r : Whole) → running (fitted z) cs xs ≡ Some r → r.value ≡ z +ℤ dot cs xs
running_from z cs xs r e = by (fitted z) refl e
  where
    by : (o : Option Whole) → fitted z ≡ o → running o cs xs ≡ Some r → r.value ≡ z +ℤ dot cs xs
    by None p e = absurd cc
    by (Some t) p e = running_value t cs xs r e ∙ ap (λ (y : ℤ). y +ℤ dot cs xs) (fitted_value z t p)
