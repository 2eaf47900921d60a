-- The whole kind keeps the laws. Assumes nothing.
use Rattle.std.specs.Prelude.{◌≡◌, ℕ, suc, ◌-◌, ◌*◌, ◌/◌, ◌%◌, ◌<◌, ◌≤◌, Bool, true, false, cond, ◌⊎◌, ℤ, pos, negsuc, ◌+ℤ◌, ◌-ℤ◌, ◌*ℤ◌, neg_ℤ, Some, None, FitsSigned, ◌==◌, ◌≢◌, nat_le, unsigned_abs, refl}
use Rattle.std.proofs.Common.{ap, sym, subst, ◌∙◌, inl, inr, ⊎_elim, arith, mod-lt, div-add-mod', div-le_self, mul-pos, mul-le-mul_right, mul-le-mul, add-mul, one-mul, lit<, to_z, of_z}
use mathlib.Core.HLevel.{is_prop→PathP}
use Rattle.std.proofs.Math.Bridge.{le_prop}
use Rattle.std.proofs.Math.IntN.{*ℤ-zero, +ℤ_idr}
use Rattle.std.specs.Int.{w32, w64}
use Rattle.std.proofs.lemmas.Int.{to_z-of_z, fits_signed_mul, unsigned_abs-mul}
use borrow.Author.Differences.{ints, abs_is, sum_is_lem, fits_in}
use Rattle.std.proofs.lemmas.Bool.{eqb-false, eq-eqb, ne_eqb, leb-true, le-leb, lt-leb, cases_eq, cond-true, cond-false}
use Rattle.kinds.specs.declared.whole.Whole.{Whole}
use Rattle.kinds.specs.Kind.{Laws, Same}
use Rattle.kinds.specs.Whole.{nearest, fitted, down_by, floor, sign, wholes}
use Rattle.kinds.specs.Ring.{*ℤ-neg}
use Rattle.kinds.specs.Sames.{same_eq}

-- two numbers of one value are one
pub same_whole : {a b : Whole} → a.value ≡ b.value → a ≡ b
same_whole {a} {b} e = λ i.
    record { value = e i; ok = is_prop→PathP (λ i. unsigned_abs (e i) ≤ 2147483647) (λ i. le_prop) a.ok b.ok i }

-- with modulus 0, the same is equal
pub equal : {a b : ℤ} → Same 0 a b → a ≡ b
equal {a} {b} s = s.differ ∙ ap (λ z. b +ℤ z) (*ℤ-zero s.times) ∙ +ℤ_idr b

pub nearest_is : (z : ℤ) → unsigned_abs z ≤ 2147483647 → (nearest z).value ≡ z
nearest_is (pos n) h = ap pos (omega arith)
nearest_is (negsuc n) h = ap negsuc (omega arith)

-- what is fitted
pub fitted_is : (z : ℤ) (n : Whole) → n.value ≡ z → fitted z ≡ Some n
fitted_is z n e =
    let h : unsigned_abs z ≤ 2147483647 = subst (λ (x : ℤ). unsigned_abs x ≤ 2147483647) e n.ok in
    cond-true (nat_le (unsigned_abs z) 2147483647) (Some (nearest z)) None (le-leb _ _ h)
    ∙ ap Some (same_whole (nearest_is z h ∙ sym e))

pub fitted_none : (z : ℤ) → 2147483647 < unsigned_abs z → fitted z ≡ None
fitted_none z h = cond-false (nat_le (unsigned_abs z) 2147483647) (Some (nearest z)) None (lt-leb _ _ h)

pub fitted_value : (z : ℤ) (n : Whole) → fitted z ≡ Some n → n.value ≡ z
fitted_value z n e = by (nat_le (unsigned_abs z) 2147483647) refl e
  where
    by : (t : Bool) → nat_le (unsigned_abs z) 2147483647 ≡ t → cond t (Some (nearest z)) None ≡ Some n → n.value ≡ z
    by true p q = let d : nearest z ≡ n = cc in ap (λ (x : Whole). x.value) (sym d) ∙ nearest_is z (leb-true _ _ p)
    by false p q = absurd cc

abs_neg : (z : ℤ) → unsigned_abs (neg_ℤ z) ≡ unsigned_abs z
abs_neg z = omega (arith, ints)

pub abs_zero : (z : ℤ) → unsigned_abs z ≡ 0 → z ≡ pos 0
abs_zero z e = omega (arith, ints)

no_divisors_0 : (x y : ℤ) → Same 0 (x *ℤ y) (pos 0) → Same 0 x (pos 0) ⊎ Same 0 y (pos 0)
no_divisors_0 x y s =
    let p : unsigned_abs x * unsigned_abs y ≡ 0 = sym (unsigned_abs-mul x y) ∙ ap unsigned_abs (equal s) in
    ⊎_elim (λ e. inl (same_eq (abs_zero x e)))
    (λ f. ⊎_elim (λ e. inr (same_eq (abs_zero y e)))
    (λ g. let k : 0 < unsigned_abs x = omega arith in let l : 0 < unsigned_abs y = omega arith in
    let m = mul-pos k l in absurd (omega arith))
    (cases_eq (unsigned_abs y) 0))
    (cases_eq (unsigned_abs x) 0)

-- what rounding down leaves
down_rest : (z : ℤ) (n : ℕ) → 0 < n → (r : ℕ) × ((r < n) × (z ≡ down_by z n *ℤ pos n +ℤ pos r))
down_rest (pos a) n h = (a % n, (mod-lt a h, ap pos (sym (div-add-mod' a n))))
down_rest (negsuc a) n h =
    let s = div-add-mod' a n in
    let l = mod-lt a h in
    let m = add-mul 1 (a / n) n in
    let o = one-mul n in
    (n - 1 - a % n, (omega arith, omega (arith, ints)))

floor_rest : (c d : ℤ) → (unsigned_abs d ≢ 0) → unsigned_abs (c -ℤ floor c d *ℤ d) < unsigned_abs d
floor_rest c (pos b) f =
    let r = down_rest c b (omega arith) in
    let l = r.1.0 in
    let e = r.1.1 in
    let z : c -ℤ down_by c b *ℤ pos b ≡ pos r.0 = omega (arith, ints) in
    subst (λ (x : ℤ). unsigned_abs x < b) (sym z) l
floor_rest c (negsuc b) f =
    let r = down_rest (neg_ℤ c) (suc b) (omega arith) in
    let l = r.1.0 in
    let e = r.1.1 in
    let m = *ℤ-neg (down_by (neg_ℤ c) (suc b)) (pos (suc b)) in
    let z : c -ℤ down_by (neg_ℤ c) (suc b) *ℤ negsuc b ≡ neg_ℤ (pos r.0) = omega (arith, ints) in
    subst (λ (x : ℤ). unsigned_abs x < suc b) (sym z) (subst (λ (x : ℕ). x < suc b) (sym (abs_neg (pos r.0))) l)

-- the quotient of a stored number can be stored
down_small : (z : ℤ) (n : ℕ) → unsigned_abs (down_by z n) ≤ unsigned_abs z
down_small (pos a) n = div-le_self a n
down_small (negsuc a) n = let d = div-le_self a n in omega arith

pub floor_small : (c d : ℤ) → unsigned_abs (floor c d) ≤ unsigned_abs c
floor_small c (pos b) = down_small c b
floor_small c (negsuc b) = let e = abs_neg c in let d = down_small (neg_ℤ c) (suc b) in omega arith

quotient_value : (c d q : Whole) → wholes.quotient c d ≡ Some q →
    (unsigned_abs d.value ≢ 0) × (q.value ≡ floor c.value d.value)
quotient_value c d q e = by (unsigned_abs d.value == 0) refl e
  where
    by : (t : Bool) → (unsigned_abs d.value == 0) ≡ t → cond t None (Some (nearest (floor c.value d.value))) ≡ Some q →
        (unsigned_abs d.value ≢ 0) × (q.value ≡ floor c.value d.value)
    by true p h = absurd cc
    by false p h =
        let e : nearest (floor c.value d.value) ≡ q = cc in
        let s = floor_small c.value d.value in
        let o = c.ok in
        (eqb-false _ _ p, ap (λ (x : Whole). x.value) (sym e) ∙ nearest_is (floor c.value d.value) (omega arith))

rest_less : (c d q : Whole) → wholes.quotient c d ≡ Some q →
    unsigned_abs (c.value -ℤ q.value *ℤ d.value) < unsigned_abs d.value
rest_less c d q e =
    let v = quotient_value c d q e in
    subst (λ (x : ℤ). unsigned_abs (c.value -ℤ x *ℤ d.value) < unsigned_abs d.value) (sym v.1)
    (floor_rest c.value d.value v.0)

unit_inverted : (z : ℤ) → (sign z).value *ℤ (sign z).value ≡ pos 1
unit_inverted (pos n) = refl
unit_inverted (negsuc n) = refl

multiple : (d x k : ℤ) → x ≡ k *ℤ d → (x ≢ pos 0) → unsigned_abs d ≤ unsigned_abs x
multiple d x k e f =
    let m : unsigned_abs x ≡ unsigned_abs k * unsigned_abs d = ap unsigned_abs e ∙ unsigned_abs-mul k d in
    ⊎_elim (λ z. absurd (f (abs_zero x (m ∙ ap (λ y. y * unsigned_abs d) z ∙ omega arith))))
    (λ g. let l : 1 ≤ unsigned_abs k = omega arith in
    let t = mul-le-mul_right (unsigned_abs d) l in omega (arith, one-mul (unsigned_abs d)))
    (cases_eq (unsigned_abs k) 0)

pub whole_laws : Laws wholes
whole_laws = record {
  modulus_fits = lit< tt;
  read_means = λ w n f e. same_eq (fitted_value w n e);
  write_word = λ n. let o = n.ok in omega (arith, ints);
  write_admitted = λ n. (n, fitted_is n.value n refl);
  write_means = λ n. same_eq refl;
  cell_keeps = λ n. fitted_is n.value n refl;
  zero_means = same_eq refl;
  one_means = same_eq refl;
  zero_not_one = λ s. let e = equal s in omega (arith, ints);
  no_divisors = no_divisors_0;
  negative_means = λ n. let o = n.ok in let e = abs_neg n.value in same_eq (nearest_is (neg_ℤ n.value) (omega arith));
  add_product_means = λ c q d r e. same_eq (fitted_value (c.value +ℤ q.value *ℤ d.value) r e);
  add_product_none = λ c q d e s. let f = fitted_is (c.value +ℤ q.value *ℤ d.value) s.0 (equal s.1) in absurd cc;
  size_same = λ x y s. ap unsigned_abs (equal s);
  size_zero = λ x s. ap unsigned_abs (equal s);
  zero_size = λ x e. same_eq (abs_zero x.value e);
  size_multiple = λ d x k s f. multiple d.value x.value k (equal s) (λ e. f (same_eq e));
  rest_stored = λ c d q e. let l = rest_less c d q e in let o = d.ok in
      (nearest (c.value -ℤ q.value *ℤ d.value), same_eq (nearest_is (c.value -ℤ q.value *ℤ d.value) (omega arith)));
  rest_smaller = λ c d q r e s.
      subst (λ (x : ℤ). unsigned_abs x < unsigned_abs d.value) (sym (equal s)) (rest_less c d q e);
  quotient_none = λ c d e. ⊎_elim (λ z. same_eq (abs_zero d.value z))
      (λ f. let g =
      sym (cond-false (unsigned_abs d.value == 0) None (Some (nearest (floor c.value d.value))) (ne_eqb _ _ f)) ∙ e in
      absurd cc)
      (cases_eq (unsigned_abs d.value) 0);
  none_quotient = λ c d s. cond-true (unsigned_abs d.value == 0) None (Some (nearest (floor c.value d.value)))
      (eq-eqb _ _ (ap unsigned_abs (equal s)));
  unit_inverse = λ n. (sign n.value, same_eq (unit_inverted n.value));
}

-- the product of two stored numbers
pub product_small : (q d : Whole) → unsigned_abs (q.value *ℤ d.value) ≤ 4611686014132420609
product_small q d =
    let o = q.ok in
    let p = d.ok in
    let m : unsigned_abs q.value * unsigned_abs d.value ≤ 2147483647 * 2147483647 = mul-le-mul o p in
    let e = unsigned_abs-mul q.value d.value in
    omega arith

pub fits_32 : (n : Whole) → FitsSigned w32 n.value
fits_32 n = let o = n.ok in omega (arith, ints)

pub fits_64 : (n : Whole) → FitsSigned w64 n.value
fits_64 n = let o = n.ok in omega (arith, ints)

pub product_fits : (q d : Whole) → FitsSigned w64 (q.value *ℤ d.value)
product_fits q d = fits_signed_mul w64 q.value d.value 2147483647 2147483647 q.ok d.ok (lit< tt)

pub sum_fits : (c q d : Whole) → FitsSigned w64 (c.value +ℤ q.value *ℤ d.value)
sum_fits c q d =
    let o = c.ok in
    let p = product_small q d in
    let a = abs_is (q.value *ℤ d.value) in
    let b = abs_is c.value in
    let s = sum_is_lem c.value (q.value *ℤ d.value) in
    fits_in w64 (c.value +ℤ q.value *ℤ d.value) (omega arith)

-- what the code computes by words of 64 bits is the exact sum
word : (n : Whole) → to_z w64 (of_z w64 (to_z w32 (of_z w32 n.value))) ≡ n.value
word n = ap (λ z. to_z w64 (of_z w64 z)) (to_z-of_z w32 n.value (fits_32 n)) ∙ to_z-of_z w64 n.value (fits_64 n)

pub sum_word : (c q d : Whole) →
    to_z w64 (of_z w64 (to_z w64 (of_z w64 (to_z w32 (of_z w32 c.value))) +ℤ
    to_z w64 (of_z w64 (to_z w64 (of_z w64 (to_z w32 (of_z w32 q.value))) *ℤ
    to_z w64 (of_z w64 (to_z w32 (of_z w32 d.value))))))) ≡ c.value +ℤ q.value *ℤ d.value
sum_word c q d =
    (λ i. to_z w64 (of_z w64 (word c i +ℤ to_z w64 (of_z w64 (word q i *ℤ word d i)))))
    ∙ ap (λ z. to_z w64 (of_z w64 (c.value +ℤ z))) (to_z-of_z w64 (q.value *ℤ d.value) (product_fits q d))
    ∙ to_z-of_z w64 (c.value +ℤ q.value *ℤ d.value) (sum_fits c q d)
