-- What the laws of a kind refuse.
use Rattle.std.proofs.Common.{◌≡◌, ℕ, ◌*◌, ◌<◌, ◌≤◌, ℤ, pos, negsuc, ◌+ℤ◌, ◌*ℤ◌, sym, refl, ap, ◌∙◌, subst, ⊎_elim, arith, mul-le-mul_right, mul-le-mul_left, mul_comm, lit<}
use Rattle.std.specs.Prelude.{unsigned_abs}
use Rattle.std.proofs.lemmas.Bool.{cases_eq}
use Rattle.std.proofs.lemmas.Int.{ints, unsigned_abs-mul}
use Rattle.kinds.specs.Kind.{Arithmetic, Laws, Same}
use Rattle.kinds.specs.Sames.{same_eq}
use Rattle.kinds.specs.Weekday.{day}
use Rattle.kinds.specs.KindSamples.{PrimeModulus, KindSamples}

-- a number from 1 up is no multiple of a greater one
no_multiple : (p q : ℕ) → 1 < p → 1 < q → ¬ Same (p * q) (pos p) (pos 0)
no_multiple p q h k s =
    let t : ℕ = unsigned_abs s.times in
    let size : p ≡ t * (p * q) = ap unsigned_abs (s.differ ∙ zero_plus (s.times *ℤ pos (p * q))) ∙ unsigned_abs-mul s.times (pos (p * q)) in
    let double : p * 2 ≤ p * q = mul-le-mul_left p k in
    ⊎_elim (λ z. let e : p ≡ 0 * (p * q) = size ∙ ap (λ (x : ℕ). x * (p * q)) z in absurd (omega arith))
    (λ f. let l : 1 ≤ t = omega arith in let m : 1 * (p * q) ≤ t * (p * q) = mul-le-mul_right (p * q) l in absurd (omega arith))
    (cases_eq t 0)
  where
    zero_plus : (z : ℤ) → pos 0 +ℤ z ≡ z
    zero_plus z = omega (arith, ints)

-- a product is a multiple of itself
product : (p q : ℕ) → Same (p * q) (pos p *ℤ pos q) (pos 0)
product p q = record { times = pos 1; differ = omega (arith, ints) }

module _ {N C : Type 0} (a : Arithmetic N C) where
  pub prime_modulus : Laws a → PrimeModulus a
  prime_modulus laws = record {
    not_one = λ e. laws.zero_not_one (subst (λ (m : ℕ). Same m (pos 0) (pos 1)) (sym e) (record { times = negsuc 0; differ = refl }));
    no_product = λ p q h k e.
        let same : Same a.modulus (pos p *ℤ pos q) (pos 0) = subst (λ (m : ℕ). Same m (pos p *ℤ pos q) (pos 0)) (sym e) (product p q) in
        ⊎_elim (λ s. no_multiple p q h k (subst (λ (m : ℕ). Same m (pos p) (pos 0)) e s)) (λ s. no_multiple q p k h (subst (λ (m : ℕ). Same m (pos q) (pos 0)) (e ∙ mul_comm p q) s)) (laws.no_divisors (pos p) (pos q) same);
  }

pub kinds : KindSamples
kinds = record {
  all_zero = λ laws. (prime_modulus _ laws).not_one refl;
  six = λ laws. (prime_modulus _ laws).no_product 2 3 (lit< tt) (lit< tt) refl;
  refuses = λ laws. laws.add_product_none (day 0) (day 0) (day 0) refl (day 0, same_eq refl);
}
