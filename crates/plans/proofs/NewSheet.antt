-- A new sheet stands for no equation: each plan is made by itself as the choice.
use Rattle.std.proofs.Common.{◌≡◌, ℕ, zero, suc, List, [], ◌∷◌, map, length, replicate, ℤ, pos, ◌+ℤ◌, ◌*ℤ◌, sym, refl, ap, ◌∙◌, arith}
use native.Mathlib.Nat.{suc_inj}
use lib.ListN.{length-map, length-replicate}
use Rattle.std.specs.List.{AllByRecursion}
use Rattle.std.proofs.ByRecursion.{All-map, All-weaker}
use Rattle.kinds.specs.Kind.{Arithmetic, Laws, Same}
use Rattle.kinds.specs.Ring.{ring}
use Rattle.kinds.specs.Sames.{same_eq, same_refl, same_trans, same_add, same_mul}
use Rattle.plans.specs.Sheet.{unit_moves}
use Rattle.plans.specs.Solution.{SameLists, ended, also, plus, made, Sized}
use Rattle.plans.specs.Promised.{NewGeneral}
use Rattle.plans.proofs.SameLists.{lists_refl, lists_eq, lists_sym, lists_trans, columns_refl}
use Rattle.plans.proofs.Vectors.{made_same, first, rest, made_split, top_made_none}
use Rattle.plans.proofs.Stored.{meant}

-- as many moves as unknowns
pub units_many : {N C : Type 0} (a : Arithmetic N C) (n : ℕ) → length (unit_moves a n) ≡ n
units_many a zero = refl
units_many a (suc n) = ap suc (length-map (unit_moves a n) (λ v. a.zero ∷ v) ∙ units_many a n)

module _ {N C : Type 0} (a : Arithmetic N C) (laws : Laws a) where
  zeros_plus : (n : ℕ) (y : ℤ) → SameLists a.modulus (plus (meant a (replicate n a.zero)) y (meant a (replicate n a.zero))) (meant a (replicate n a.zero))
  zeros_plus zero y = ended
  zeros_plus (suc n) y = also (same_trans (same_add {a = a.means a.zero} same_refl (same_mul {a = y} same_refl laws.zero_means)) (same_eq (simp ring))) (zeros_plus n y)

  -- moves below a 0 each
  abbrev below : List (List N) → List (List N)
  below vs = map (λ v. a.zero ∷ v) vs

  firsts : (vs : List (List N)) → AllByRecursion (λ x. Same a.modulus x (pos 0)) (map first (map (meant a) (below vs)))
  firsts [] = tt
  firsts (v ∷ vs) = (laws.zero_means, firsts vs)

  rests : (vs : List (List N)) → map rest (map (meant a) (below vs)) ≡ map (meant a) vs
  rests [] = refl
  rests (v ∷ vs) = ap {B = List (List ℤ)} (λ r. meant a v ∷ r) (rests vs)

  units_made : (n : ℕ) (y : List ℤ) → length y ≡ n → SameLists a.modulus (made (meant a (replicate n a.zero)) (map (meant a) (unit_moves a n)) y) y
  units_made zero [] h = ended
  units_made zero (y ∷ ys) h = absurd (omega arith)
  units_made (suc n) [] h = absurd (omega arith)
  units_made (suc n) (y ∷ ys) h =
      let zeros = meant a (replicate n a.zero) in
      let vs = map (meant a) (below (unit_moves a n)) in
      let x = a.means a.zero +ℤ y *ℤ a.means a.one in
      lists_trans (lists_eq (made_split x (plus zeros y zeros) vs ys))
      (also (same_trans (top_made_none x (map first vs) ys (firsts (unit_moves a n))) (same_trans (same_add laws.zero_means (same_mul {a = y} same_refl laws.one_means)) (same_eq (simp ring))))
      (lists_trans (lists_eq (ap (λ ws. made (plus zeros y zeros) ws ys) (rests (unit_moves a n))))
      (lists_trans (made_same (columns_refl (map (meant a) (unit_moves a n))) (lists_refl ys) (zeros_plus n y)) (units_made n ys (suc_inj h)))))

  units_sized : (n : ℕ) → Sized n (unit_moves a n)
  units_sized zero = tt
  units_sized (suc n) =
      let longer = All-weaker (λ v. length v ≡ n) (λ v. suc (length v) ≡ suc n) (λ v e. ap suc e) (unit_moves a n) (units_sized n) in
      (ap suc (length-replicate n a.zero), All-map (λ v. length v ≡ suc n) (λ v. a.zero ∷ v) (unit_moves a n) longer)

  pub new_general : NewGeneral a
  new_general n = record {
    fixed_length = length-replicate n a.zero;
    moves_length = units_sized n;
    general = record {
      meets_iff_made = λ p k. (λ _. (p, k ∙ sym many, lists_sym (units_made n p k)), λ _. tt);
      once = λ y z j k h. lists_trans (lists_sym (units_made n y (j ∙ many))) (lists_trans h (units_made n z (k ∙ many)));
    };
  }
    where
      many : length (map (meant a) (unit_moves a n)) ≡ n
      many = length-map (unit_moves a n) (meant a) ∙ units_many a n
