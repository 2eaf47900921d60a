-- The weekday kind keeps the laws. Assumes nothing.
use Rattle.std.specs.Prelude.{◌≡◌, ℕ, ◌+◌, ◌-◌, ◌*◌, ◌/◌, ◌%◌, ◌^◌, ◌<◌, ◌≤◌, Bool, true, false, cond, not, ◌||◌, ltb, ◌⊎◌, ℤ, pos, negsuc, ◌-ℤ◌, ◌*ℤ◌, neg_ℤ, Some, None, ◌==◌, ◌≢◌, nat_lt, refl}
use Rattle.std.proofs.Common.{ap, sym, ◌∙◌, inl, inr, ⊎_elim, arith, mod-lt, mod-eq_of_lt, lit<}
use mathlib.Core.HLevel.{is_prop→PathP}
use Rattle.std.proofs.Math.Bridge.{le_prop}
use Rattle.std.proofs.Math.IntN.{+ℤ_invr}
use Rattle.std.proofs.lemmas.Int.{ints}
use Rattle.std.proofs.lemmas.Bool.{agree_below, agree_below_at, eqb-true, eqb-false, eq-eqb, ne_eqb, lt-ltb, or_cases, cases_eq, cond-true, cond-false, not-true, ltb-true, both_ways}
use Rattle.kinds.specs.declared.weekday.Weekday.{Weekday}
use Rattle.kinds.specs.Kind.{Laws, Same}
use Rattle.kinds.specs.Weekday.{day, day_of, day_at, size_of, weekdays}
use Rattle.kinds.specs.Sames.{same_eq, same_sym, same_trans, same_add, same_neg, same_mul}

-- a test that antt computes at every pair of numbers below n, and what it shows of each
below_2 : (f : ℕ → ℕ → Bool) (n : ℕ) →
    agree_below (λ a. agree_below (f a) (λ _. true) n) (λ _. true) n ≡ true → (a b : ℕ) → a < n → b < n → f a b ≡ true
below_2 f n t a b h k =
    agree_below_at (f a) (λ _. true) n b (agree_below_at (λ a. agree_below (f a) (λ _. true) n) (λ _. true) n a t h) k

-- two days of one value are one
pub same_day : {a b : Weekday} → a.value ≡ b.value → a ≡ b
same_day {a} {b} e = λ i. record { value = e i; ok = is_prop→PathP (λ i. e i < 7) (λ i. le_prop) a.ok b.ok i }

pub day_value : (a : Weekday) → a ≡ day a.value
day_value a = same_day (sym (mod-eq_of_lt a.ok))

-- a natural is the same as its remainder
remainder_same : (n : ℕ) → Same 7 (pos (n % 7)) (pos n)
remainder_same n = record { times = neg_ℤ (pos (n / 7)); differ = omega (arith, ints) }

-- two naturals that are the same have one remainder
one_rest : (a b : ℕ) → Same 7 (pos a) (pos b) → a % 7 ≡ b % 7
one_rest a b s = let e = s.differ in omega (arith, ints)

-- and the other way
rest_same : (a b : ℕ) → a % 7 ≡ b % 7 → Same 7 (pos a) (pos b)
rest_same a b e = same_trans (same_sym (remainder_same a)) (same_trans (same_eq (ap pos e)) (remainder_same b))

-- every whole number is the same as some number below 7
residue : (x : ℤ) → (r : ℕ) × ((r < 7) × Same 7 x (pos r))
residue (pos n) = (n % 7, (mod-lt n (lit< tt), same_sym (remainder_same n)))
residue (negsuc n) =
    (6 - n % 7, (omega arith, record { times = neg_ℤ (pos (n / 7 + 1)); differ = omega (arith, ints) }))

-- 7 is prime: over the whole table of products
no_divisors_7 : (x y : ℤ) → Same 7 (x *ℤ y) (pos 0) → Same 7 x (pos 0) ⊎ Same 7 y (pos 0)
no_divisors_7 x y s =
    let r = residue x in
    let q = residue y in
    let p : (r.0 * q.0) % 7 ≡ 0 = one_rest (r.0 * q.0) 0 (same_trans (same_sym (same_mul r.1.1 q.1.1)) s) in
    let t = below_2 (λ a b. not ((a * b) % 7 == 0) || (a == 0 || b == 0)) 7 refl r.0 q.0 r.1.0 q.1.0 in
    ⊎_elim (λ f. absurd (eqb-false _ _ (not-true _ f) p))
    (λ o. ⊎_elim (λ e. inl (same_trans r.1.1 (same_eq (ap pos (eqb-true r.0 0 e)))))
    (λ e. inr (same_trans q.1.1 (same_eq (ap pos (eqb-true q.0 0 e))))) (or_cases _ _ o))
    (or_cases _ _ t)

same_value : (x y : Weekday) → Same 7 (pos x.value) (pos y.value) → x.value ≡ y.value
same_value x y s = let e = one_rest x.value y.value s in omega arith

is_zero : (x : Weekday) → Same 7 (pos x.value) (pos 0) → x.value ≡ 0
is_zero x s = let e = one_rest x.value 0 s in omega arith

pub read_back : (n : Weekday) → day_of n.value ≡ Some n
read_back n =
    cond-true (nat_lt n.value 7) (Some (day n.value)) None (lt-ltb n.value 7 n.ok) ∙ ap Some (sym (day_value n))

-- what a test has let pass
read_value : (k : ℕ) (n : Weekday) → day_of k ≡ Some n → n.value ≡ k
read_value k n e = by (nat_lt k 7) refl e
  where
    by : (t : Bool) → nat_lt k 7 ≡ t → cond t (Some (day k)) None ≡ Some n → n.value ≡ k
    by true p q = let d : day k ≡ n = cc in ap (λ (x : Weekday). x.value) (sym d) ∙ mod-eq_of_lt (ltb-true k 7 p)
    by false p q = absurd cc

read_same : (w : ℤ) (n : Weekday) → day_at w ≡ Some n → Same 7 (pos n.value) w
read_same (pos k) n e = same_eq (ap pos (read_value k n e))
read_same (negsuc k) n e = absurd cc

size_some : (v : ℕ) → (v ≢ 0) → size_of v ≡ 1
size_some v h = cond-false (v == 0) 0 1 (ne_eqb v 0 h)

size_none : (v : ℕ) → v ≡ 0 → size_of v ≡ 0
size_none v h = cond-true (v == 0) 0 1 (eq-eqb v 0 h)

size_most : (v : ℕ) → size_of v ≤ 1
size_most v =
    ⊎_elim (λ e. let s = size_none v e in omega arith) (λ e. let s = size_some v e in omega arith) (cases_eq v 0)

-- what a quotient is
quotient_value : (c d q : Weekday) → weekdays.quotient c d ≡ Some q → (d.value ≢ 0) × (q ≡ day (c.value * d.value ^ 5))
quotient_value c d q e = by (d.value == 0) refl e
  where
    by : (t : Bool) → (d.value == 0) ≡ t → cond t None (Some (day (c.value * d.value ^ 5))) ≡ Some q →
        (d.value ≢ 0) × (q ≡ day (c.value * d.value ^ 5))
    by true p h = absurd cc
    by false p h = (eqb-false d.value 0 p, cc)

-- nothing is left, over the whole table
rest_none : (c d q : Weekday) → weekdays.quotient c d ≡ Some q →
    Same 7 (pos c.value -ℤ pos q.value *ℤ pos d.value) (pos 0)
rest_none c d q e =
    let v = quotient_value c d q e in
    let t = below_2 (λ a b. (b == 0) || ((a * b ^ 5) % 7 * b) % 7 == a) 7 refl c.value d.value c.ok d.ok in
    let m : (q.value * d.value) % 7 ≡ c.value % 7 = ap (λ (x : Weekday). (x.value * d.value) % 7) v.1
    ∙ ⊎_elim (λ z. absurd (v.0 (eqb-true _ _ z)))
    (eqb-true (((c.value * d.value ^ 5) % 7 * d.value) % 7) c.value) (or_cases _ _ t)
    ∙ sym (mod-eq_of_lt c.ok) in
    same_trans (same_add (same_eq {a = pos c.value} refl) (same_neg (rest_same (q.value * d.value) c.value m)))
    (same_eq (+ℤ_invr (pos c.value)))

unit_inverted : (n : Weekday) → (i : Weekday) × Same 7 (pos (weekdays.unit n).value *ℤ pos i.value) (pos 1)
unit_inverted n = by (n.value == 0) refl
  where
    by : (t : Bool) → (n.value == 0) ≡ t →
        (i : Weekday) × Same 7 (pos (cond t (day 1) (day (n.value ^ 5))).value *ℤ pos i.value) (pos 1)
    by true p = (day 1, same_eq refl)
    by false p =
        let t = agree_below_at (λ b. (b == 0) || (b ^ 5 % 7 * b) % 7 == 1) (λ _. true) 7 n.value refl n.ok in (
          n,
          rest_same (n.value ^ 5 % 7 * n.value) 1
              (⊎_elim (λ z. absurd (both_ways _ p z)) (eqb-true ((n.value ^ 5 % 7 * n.value) % 7) 1) (or_cases _ _ t)),
        )

pub weekday_laws : Laws weekdays
weekday_laws = record {
  modulus_fits = lit< tt;
  read_means = λ w n f e. read_same w n e;
  write_word = λ n. record { sfits = let o = n.ok in omega arith };
  write_admitted = λ n. (n, read_back n);
  write_means = λ n. same_eq refl;
  cell_keeps = read_back;
  zero_means = same_eq refl;
  one_means = same_eq refl;
  zero_not_one = λ s. let e = one_rest 0 1 s in omega arith;
  no_divisors = no_divisors_7;
  negative_means = λ n. same_trans (remainder_same (7 - n.value))
      (record { times = pos 1; differ = let o = n.ok in omega (arith, ints) });
  add_product_means = λ c q d r e. let f : day (c.value + q.value * d.value) ≡ r = cc in
      same_trans (same_eq (ap (λ (x : Weekday). pos x.value) (sym f))) (remainder_same (c.value + q.value * d.value));
  add_product_none = λ c q d e s. absurd cc;
  size_same = λ x y s. ap size_of (same_value x y s);
  size_zero = λ x s. size_none x.value (is_zero x s);
  zero_size = λ x e. ⊎_elim (λ z. same_eq (ap pos z)) (λ f. absurd (let s = size_some x.value f in omega arith))
      (cases_eq x.value 0);
  size_multiple = λ d x k s f. let m = size_most d.value in
      let o = size_some x.value (λ z. f (same_eq (ap pos z))) in omega arith;
  rest_stored = λ c d q e. (day 0, same_sym (rest_none c d q e));
  rest_smaller = λ c d q r e s. let z = size_none r.value (is_zero r (same_trans s (rest_none c d q e))) in
      let o = size_some d.value (quotient_value c d q e).0 in omega arith;
  quotient_none = λ c d e. ⊎_elim (λ z. same_eq (ap pos z))
      (λ f. let g = sym (cond-false (d.value == 0) None (Some (day (c.value * d.value ^ 5))) (ne_eqb _ _ f)) ∙ e in
      absurd cc)
      (cases_eq d.value 0);
  none_quotient = λ c d s.
      cond-true (d.value == 0) None (Some (day (c.value * d.value ^ 5))) (eq-eqb _ _ (is_zero d s));
  unit_inverse = unit_inverted;
}

-- over the whole table
pub fifth_below : (v : ℕ) → v < 7 → v ^ 5 < 7777
fifth_below v h = ltb-true _ _ (agree_below_at (λ v. ltb (v ^ 5) 7777) (λ _. true) 7 v refl h)
