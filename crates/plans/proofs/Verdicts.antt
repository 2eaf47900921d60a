-- What the columns of a posting tell of the plans and the posted equation, and the verdicts at the end.
use Rattle.std.proofs.Common.{◌≡◌, ℕ, zero, suc, ◌<◌, ◌⊎◌, List, [], ◌∷◌, map, length, get_or, replicate, ℤ, pos, ◌+ℤ◌, ◌*ℤ◌, neg_ℤ, sym, refl, ap, ◌∙◌, subst, inl, inr, le_of_suc-le-suc, arith}
use native.Mathlib.Nat.{suc_inj}
use borrow.Author.Differences.{ints}
use lib.ListN.{length-map, length-replicate}
use Rattle.std.specs.List.{AllByRecursion}
use Rattle.kinds.specs.Kind.{Same}
use Rattle.kinds.specs.Equation.{Equation, dot, Meets}
use Rattle.kinds.specs.Ring.{ring}
use Rattle.kinds.specs.Sames.{same_eq, same_refl, same_sym, same_trans, same_add}
use Rattle.plans.specs.Posting.{without}
use Rattle.plans.specs.Solution.{SameLists, also, MeetsAll, Plan, made, General, is_taken, is_implied, is_contradicted, Verdict, Sized}
use Rattle.plans.proofs.SameLists.{lists_refl, lists_eq, lists_sym, lists_trans, lists_head, SameColumns, columns_refl, columns_length}
use Rattle.plans.proofs.Vectors.{made_length, shift, shift_length, put_in, put_in_length, without_length, made_without, put_in_without, put_in_once, made_same, dot_same, first, rest, lists_rest, top_made, made_split, under, made_under, top_made_none, top_made_one, map_without}
use Rattle.plans.proofs.Changes.{Change}

-- a plan under what the equation comes to at it, its right side taken off
abbrev below_value : Equation → List ℤ → List ℤ
below_value e p = (dot e.coefficients p +ℤ neg_ℤ e.right) ∷ p

-- what the columns u and vs tell of the plans that meet es: each such plan, under what e comes to at it, is made by a
-- choice, each choice makes one, and no two choices make the same plan
pub record Tells (m n : ℕ) (es : List Equation) (e : Equation) (u : List ℤ) (vs : List (List ℤ)) : Type 0 where
  pub every : (p : List ℤ) → length p ≡ n → MeetsAll m es p → (y : List ℤ) × (length y ≡ length vs) × SameLists m (below_value e p) (made u vs y)
  pub each : (y : List ℤ) → length y ≡ length vs → (p : List ℤ) × (length p ≡ n) × MeetsAll m es p × SameLists m (below_value e p) (made u vs y)
  pub once : (y z : List ℤ) → length y ≡ length vs → length z ≡ length vs → SameLists m (rest (made u vs y)) (rest (made u vs z)) → SameLists m y z

-- a change of columns keeps what they tell
pub tells_change : {m n : ℕ} {es : List Equation} {e : Equation} {u u' : List ℤ} {vs vs' : List (List ℤ)} → Tells m n es e u vs → Change m u vs u' vs' → Tells m n es e u' vs'
tells_change {m} {n} {es} {e} {u} {u'} {vs} {vs'} t c = record {
  every = λ p k h. let r = t.every p k h in (c.to_new r.0, c.new_length r.0 r.1 ∙ sym c.as_many, lists_trans r.2 (c.new_made r.0 r.1));
  each = λ y k. let r = t.each (c.to_old y) (c.old_length y (k ∙ c.as_many)) in (r.0, r.1, r.2, lists_trans r.3 (lists_sym (c.old_made y (k ∙ c.as_many))));
  once = λ y z k l h. c.once y z (k ∙ c.as_many) (l ∙ c.as_many)
      (t.once (c.to_old y) (c.to_old z) (c.old_length y (k ∙ c.as_many)) (c.old_length z (l ∙ c.as_many))
      (lists_trans (lists_sym (lists_rest (c.old_made y (k ∙ c.as_many)))) (lists_trans h (lists_rest (c.old_made z (l ∙ c.as_many))))));
}

-- what the columns tell at the start
pub tells_start : {m n : ℕ} {es : List Equation} {e : Equation} (u : List ℤ) (vs : List (List ℤ)) {U : List ℤ} {VS : List (List ℤ)} → General m n es u vs → length u ≡ n → Sized n vs →
    SameLists m U ((dot e.coefficients u +ℤ neg_ℤ e.right) ∷ u) → SameColumns m VS (map (under e.coefficients) vs) → Tells m n es e U VS
tells_start {m} {n} {es} {e} u vs {U} {VS} g k s hu hv = record {
  every = λ p l h. let r = (g.meets_iff_made p l).0 h in
      (r.0, r.1 ∙ sym many, lists_trans (also (same_add (dot_same (lists_refl e.coefficients) r.2) same_refl) r.2) (lists_sym (is r.0)));
  each = λ y l. (made u vs y, made_length u vs y ∙ k, (g.meets_iff_made (made u vs y) (made_length u vs y ∙ k)).1 (y, l ∙ many, lists_refl (made u vs y)), lists_sym (is y));
  once = λ y z i j h. g.once y z (i ∙ many) (j ∙ many) (lists_trans (lists_sym (lists_rest (is y))) (lists_trans h (lists_rest (is z))));
}
  where
    many : length VS ≡ length vs
    many = columns_length hv ∙ length-map vs (under e.coefficients)

    is : (y : List ℤ) → SameLists m (made U VS y) (below_value e (made u vs y))
    is y = lists_trans (made_same hv (lists_refl y) hu) (lists_eq (made_under e.coefficients (neg_ℤ e.right) u vs y (subst (λ i. Sized i vs) (sym k) s)))

-- meeting the equation is a value of 0
meets_value : {m : ℕ} (e : Equation) (p : List ℤ) → Meets m e p → Same m (dot e.coefficients p +ℤ neg_ℤ e.right) (pos 0)
meets_value e p h = same_trans (same_add h same_refl) (same_eq (vanishes e.right))
  where
    vanishes : (b : ℤ) → b +ℤ neg_ℤ b ≡ pos 0
    vanishes b = omega (arith, ints)

value_meets : {m : ℕ} (e : Equation) (p : List ℤ) → Same m (dot e.coefficients p +ℤ neg_ℤ e.right) (pos 0) → Meets m e p
value_meets e p h = same_trans (same_eq (split (dot e.coefficients p) e.right)) (same_trans (same_add {c = e.right} h same_refl) (same_eq (less e.right)))
  where
    split : (a b : ℤ) → a ≡ a +ℤ neg_ℤ b +ℤ b
    split a b = omega (arith, ints)

    less : (b : ℤ) → pos 0 +ℤ b ≡ b
    less b = omega (arith, ints)

meets_same : {m : ℕ} (e : Equation) {p q : List ℤ} → SameLists m p q → Meets m e q → Meets m e p
meets_same e h k = same_trans (dot_same (lists_refl e.coefficients) h) k

all_same : {m : ℕ} (es : List Equation) {p q : List ℤ} → SameLists m p q → MeetsAll m es q → MeetsAll m es p
all_same [] h k = tt
all_same (e ∷ es) h k = (meets_same e h k.0, all_same es h k.1)

-- the verdict, from what some plan or every plan does
module _ {m n : ℕ} {es : List Equation} {e : Equation} where
  judged_implied : ((p : Plan m n es) → Meets m e p.0) → Plan m n es → Verdict m n es e is_implied
  judged_implied all p = record {
    all_do = (λ _. all, λ _. refl);
    some_do = (λ r. absurd cc, λ r. absurd (r.1.1 (all r.1.0)));
    none_does = (λ r. absurd cc, λ r. absurd (r p (all p)));
  }

  judged_contradicted : ((p : Plan m n es) → ¬ Meets m e p.0) → Plan m n es → Verdict m n es e is_contradicted
  judged_contradicted no_one p = record {
    all_do = (λ r. absurd cc, λ r. absurd (no_one p (r p)));
    some_do = (λ r. absurd cc, λ r. absurd (no_one r.0.0 r.0.1));
    none_does = (λ _. no_one, λ _. refl);
  }

  judged_taken : ((p : Plan m n es) × Meets m e p.0) → ((p : Plan m n es) × ¬ Meets m e p.0) → Verdict m n es e is_taken
  judged_taken one other = record {
    all_do = (λ r. absurd cc, λ r. absurd (other.1 (r other.0)));
    some_do = (λ _. (one, other), λ _. refl);
    none_does = (λ r. absurd cc, λ r. absurd (r one.0 one.1));
  }

-- the end: a top row that is 0 but at place l
zeros : ℕ → List ℤ
zeros k = replicate k (pos 0)

zeros_length : (k : ℕ) → length (zeros k) ≡ k
unfolding zeros
zeros_length k = length-replicate k (pos 0)

zeros_at : (k l : ℕ) → get_or (zeros k) l (pos 0) ≡ pos 0
unfolding zeros
zeros_at zero l = refl
zeros_at (suc k) zero = refl
zeros_at (suc k) (suc l) = zeros_at k l

shift_at : (l : ℕ) (z : ℤ) (ys : List ℤ) → l < length ys → get_or (shift l z ys) l (pos 0) ≡ get_or ys l (pos 0) +ℤ z
shift_at l z [] h = absurd (omega arith)
shift_at zero z (y ∷ ys) h = refl
shift_at (suc l) z (y ∷ ys) h = shift_at l z ys (le_of_suc-le-suc h)

-- the top of column l
abbrev pub top_at : List (List ℤ) → ℕ → ℤ
top_at vs l = get_or (map first vs) l (pos 0)

module _ {m n : ℕ} {es : List Equation} {e : Equation} {x : ℤ} {u : List ℤ} {vs : List (List ℤ)} (t : Tells m n es e (x ∷ u) vs) where
  value : (p y : List ℤ) → SameLists m (below_value e p) (made (x ∷ u) vs y) → Same m (dot e.coefficients p +ℤ neg_ℤ e.right) (top_made x (map first vs) y)
  value p y h = lists_head (lists_trans h (lists_eq (made_split x u vs y)))

  a_plan : Plan m n es
  a_plan = let r = t.each (zeros (length vs)) (zeros_length (length vs)) in (r.0, r.1, r.2)

  pub flat_implied : AllByRecursion (λ a. Same m a (pos 0)) (map first vs) → Same m x (pos 0) → Verdict m n es e is_implied
  flat_implied z h = judged_implied (λ p. let r = t.every p.0 p.1 p.2 in
      value_meets e p.0 (same_trans (value p.0 r.0 r.2) (same_trans (top_made_none x (map first vs) r.0 z) h))) a_plan

  pub flat_contradicted : AllByRecursion (λ a. Same m a (pos 0)) (map first vs) → ¬ Same m x (pos 0) → Verdict m n es e is_contradicted
  flat_contradicted z h = judged_contradicted (λ p k. let r = t.every p.0 p.1 p.2 in
      h (same_trans (same_sym (top_made_none x (map first vs) r.0 z)) (same_trans (same_sym (value p.0 r.0 r.2)) (meets_value e p.0 k)))) a_plan

  module _ (l : ℕ) (i : l < length vs) (z : AllByRecursion (λ a. Same m a (pos 0)) (without (map first vs) l)) where
    value_one : (p y : List ℤ) → length y ≡ length vs → SameLists m (below_value e p) (made (x ∷ u) vs y) →
        Same m (dot e.coefficients p +ℤ neg_ℤ e.right) (x +ℤ get_or y l (pos 0) *ℤ top_at vs l)
    value_one p y k h = same_trans (value p y h) (top_made_one x (map first vs) y l (subst (λ j. l < j) (sym (length-map vs first)) i) (k ∙ sym (length-map vs first)) z)

    -- the top of the fixed column differs from every multiple of the pivot's
    pub apart_contradicted : ((y : ℤ) → ¬ Same m (x +ℤ y *ℤ top_at vs l) (pos 0)) → Verdict m n es e is_contradicted
    apart_contradicted h = judged_contradicted (λ p k. let r = t.every p.0 p.1 p.2 in
        h (get_or r.0 l (pos 0)) (same_trans (same_sym (value_one p.0 r.0 r.1 r.2)) (meets_value e p.0 k))) a_plan

    module _ (h : Same m x (pos 0)) (g : ¬ Same m (top_at vs l) (pos 0)) where
      value_top_at : (p y : List ℤ) → length y ≡ length vs → SameLists m (below_value e p) (made (x ∷ u) vs y) →
          Same m (dot e.coefficients p +ℤ neg_ℤ e.right) (get_or y l (pos 0) *ℤ top_at vs l)
      value_top_at p y k a = same_trans (value_one p y k a) (same_trans (same_add h same_refl) (same_eq (simp ring)))

      at_place : (z : ℤ) → length (shift l z (zeros (length vs))) ≡ length vs
      at_place z = shift_length l z (zeros (length vs)) ∙ zeros_length (length vs)

      pub taken_verdict : Verdict m n es e is_taken
      taken_verdict = judged_taken ((r.0, r.1, r.2), value_meets e r.0 (same_trans (value_top_at r.0 (zeros (length vs)) (zeros_length (length vs)) r.3) (same_eq (ap (λ a. a *ℤ top_at vs l) (zeros_at (length vs) l) ∙ simp ring))))
          ((q.0, q.1, q.2), λ k. g (same_trans (same_sym (same_trans (value_top_at q.0 y (at_place (pos 1)) q.3) (same_eq at_y))) (meets_value e q.0 k)))
        where
          r : (p : List ℤ) × (length p ≡ n) × MeetsAll m es p × SameLists m (below_value e p) (made (x ∷ u) vs (zeros (length vs)))
          r = t.each (zeros (length vs)) (zeros_length (length vs))

          y : List ℤ
          y = shift l (pos 1) (zeros (length vs))

          q : (p : List ℤ) × (length p ≡ n) × MeetsAll m es p × SameLists m (below_value e p) (made (x ∷ u) vs y)
          q = t.each y (at_place (pos 1))

          at_y : get_or y l (pos 0) *ℤ top_at vs l ≡ top_at vs l
          at_y = ap (λ a. a *ℤ top_at vs l) (shift_at l (pos 1) (zeros (length vs)) (subst (λ j. l < j) (sym (zeros_length (length vs))) i) ∙ ap (λ a. a +ℤ pos 1) (zeros_at (length vs) l)) ∙ simp ring

      -- the pivot dropped: the general solution with the equation too
      pub taken_general : ((a b : ℤ) → Same m (a *ℤ b) (pos 0) → Same m a (pos 0) ⊎ Same m b (pos 0)) → General m n (e ∷ es) u (map rest (without vs l))
      taken_general factor = record {
        meets_iff_made = λ p k. (λ q. forth p k q, λ r. back p k r.0 r.1 r.2);
        once = λ y w j k a. put_in_once l (pos 0) y w (j ∙ sym k)
            (t.once (put_in l (pos 0) y) (put_in l (pos 0) w) (more y j) (more w k) (lists_trans (lists_eq (sym (dropped y j))) (lists_trans a (lists_eq (dropped w k)))));
      }
        where
          more : (y : List ℤ) → length y ≡ length (map rest (without vs l)) → length (put_in l (pos 0) y) ≡ length vs
          more y j = put_in_length l (pos 0) y ∙ ap suc (j ∙ length-map (without vs l) rest) ∙ without_length vs l i

          dropped : (y : List ℤ) → length y ≡ length (map rest (without vs l)) → made u (map rest (without vs l)) y ≡ rest (made (x ∷ u) vs (put_in l (pos 0) y))
          dropped y j =
              ap (λ ws. made u ws y) (map_without rest vs l) ∙
              made_without u (map rest vs) l y (subst (λ k. l < k) (sym (length-map vs rest)) i) (j ∙ ap length (map_without rest vs l)) ∙
              sym (ap rest (made_split x u vs (put_in l (pos 0) y)))

          zero_at : (y : ℤ) → Same m (y *ℤ top_at vs l) (pos 0) → Same m y (pos 0)
          zero_at y s = elim (factor y (top_at vs l) s) [ inl a ↦ a | inr b ↦ absurd (g b) ]

          shorter : (y : List ℤ) → length y ≡ length vs → length (without y l) ≡ length (map rest (without vs l))
          shorter y j = suc_inj (without_length y l (subst (λ k. l < k) (sym j) i) ∙ j ∙ sym (without_length vs l i)) ∙ sym (length-map (without vs l) rest)

          forth : (p : List ℤ) → length p ≡ n → MeetsAll m (e ∷ es) p → (y : List ℤ) × (length y ≡ length (map rest (without vs l))) × SameLists m p (made u (map rest (without vs l)) y)
          forth p k q =
              let r = t.every p k q.1 in
              let y = r.0 in
              let o = zero_at (get_or y l (pos 0)) (same_trans (same_sym (value_top_at p y r.1 r.2)) (meets_value e p q.0)) in (
                without y l,
                shorter y r.1,
                lists_trans (lists_rest (lists_trans r.2 (made_same (columns_refl vs) (put_in_without l y (subst (λ k. l < k) (sym r.1) i) o) (lists_refl (x ∷ u)))))
                    (lists_eq (sym (dropped (without y l) (shorter y r.1)))),
              )

          zero_put : (l : ℕ) (y : List ℤ) → l < suc (length y) → get_or (put_in l (pos 0) y) l (pos 0) ≡ pos 0
          zero_put zero y j = refl
          zero_put (suc l) [] j = absurd (omega arith)
          zero_put (suc l) (w ∷ y) j = zero_put l y (le_of_suc-le-suc j)

          back : (p : List ℤ) → length p ≡ n → (y : List ℤ) → length y ≡ length (map rest (without vs l)) → SameLists m p (made u (map rest (without vs l)) y) → MeetsAll m (e ∷ es) p
          back p k y j a =
              let r = t.each (put_in l (pos 0) y) (more y j) in
              let s = lists_trans a (lists_trans (lists_eq (dropped y j)) (lists_sym (lists_rest r.3))) in
              let o = zero_put l y (subst (λ k. l < k) (sym (more y j) ∙ put_in_length l (pos 0) y) i) in (
                meets_same e s (value_meets e r.0 (same_trans (value_top_at r.0 (put_in l (pos 0) y) (more y j) r.3) (same_eq (ap (λ b. b *ℤ top_at vs l) o ∙ simp ring)))),
                all_same es s r.2,
              )
