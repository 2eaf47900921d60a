-- A posting comes out right: each step keeps what the columns tell, and the end gives the verdict.
use Rattle.std.proofs.Common.{◌≡◌, ℕ, zero, suc, ◌+◌, ◌<◌, Bool, true, false, cond, eqb, ◌≢◌, List, [], ◌∷◌, map, length, get_or, set, ℤ, pos, ◌+ℤ◌, ◌-ℤ◌, ◌*ℤ◌, neg_ℤ, Some, None, Option, sym, refl, ap, ◌∙◌, subst, subst₂, add-one, arith, length-set}
use borrow.Author.Differences.{ints}
use lib.ListN.{length-map}
use lib.IntN.{+ℤ_comm}
use Rattle.std.specs.List.{AllByRecursion}
use Rattle.std.proofs.lemmas.List.{map-set, get_or-map}
use Rattle.std.proofs.ByRecursion.{All-get_or, All-set, All-map}
use Rattle.std.proofs.lemmas.Bool.{eqb-true, eqb-false, cond_both}
use Rattle.kinds.specs.Kind.{Arithmetic, Laws, Same}
use Rattle.kinds.specs.Equation.{Equation, dot}
use Rattle.kinds.specs.Ring.{ring}
use Rattle.kinds.specs.Sames.{same_eq, same_refl, same_trans, same_add, same_neg}
use Rattle.plans.specs.Sheet.{Contents}
use Rattle.plans.specs.Posting.{without, Column, Work, implied, contradicted, Turn, stop, again, fail, running, adds, adds_column, topped, column_B, normalised, at, size_at, pivot_of, runner_up_of, reduced, round, turned, turn_by, turn_at, turn, on, rounds, total_size, closed, settled, finish_by, finish, worked, prepared}
use Rattle.plans.specs.Solution.{SameLists, also, plus, General, Holds}
use Rattle.plans.specs.Promised.{Right, PostingExact}
use Rattle.plans.proofs.SameLists.{lists_refl, lists_eq, lists_trans, SameColumns, columns_length, columns_set}
use Rattle.plans.proofs.Vectors.{without_length, dot_same, rest, under, map_without}
use Rattle.plans.proofs.Changes.{Change, change_fixed, change_move, change_scaled}
use Rattle.plans.proofs.Verdicts.{top_at, Tells, tells_change, tells_start, flat_implied, flat_contradicted, apart_contradicted, taken_verdict, taken_general}
use Rattle.plans.proofs.Bests.{Best, best, best_some}
use Rattle.plans.proofs.Falling.{then_some, rest_means, went}
use Rattle.plans.proofs.Stored.{some_is, meant, full, lows_full, top_full, sized_meant, adds_means, adds_length, column_means, running_means, topped_means, topped_lows, column_length, normalised_means, normalised_lows, zero_tops, lone_top}

move : {m : ℕ} (x w : ℤ) → Same m (x +ℤ w) (pos 0) → Same m x (neg_ℤ w)
move x w h = same_trans (same_eq (there x w)) (same_trans (same_add {c = neg_ℤ w} h same_refl) (same_eq (simp ring)))
  where
    there : (x w : ℤ) → x ≡ x +ℤ w +ℤ neg_ℤ w
    there x w = omega (arith, ints)

gather : (y q d : ℤ) → neg_ℤ (y *ℤ d) -ℤ q *ℤ d ≡ neg_ℤ (y +ℤ q) *ℤ d
gather y q d = simp ring

pub all_without : {X : Type 0} (P : X → Type 0) (xs : List X) (i : ℕ) → AllByRecursion P xs → AllByRecursion P (without xs i)
all_without P [] i h = tt
all_without P (x ∷ xs) zero h = h.1
all_without P (x ∷ xs) (suc i) h = (h.0, all_without P xs i h.1)

module _ {N C : Type 0} (a : Arithmetic N C) where
  -- the pivot is left alone: every other top has size 0
  pub record Alone (cs : List (Column N)) (l : ℕ) : Type 0 where
    pub inside : l < length cs
    pub others : (j : ℕ) → j < length cs → j ≢ l → size_at a cs j ≡ 0

  no_other : (cs : List (Column N)) (l : ℕ) → pivot_of a cs ≡ Some l → runner_up_of a cs l ≡ None → Alone cs l
  no_other cs l p q = record {
    inside = (best_some (size_at a cs) (length cs) (length cs) l p).0;
    others = λ j h k. absurd (k (subst (λ o. Best (size_at a cs) l (length cs) o) q (best (size_at a cs) l (length cs)) j h));
  }

  zero_other : (cs : List (Column N)) (l r : ℕ) → pivot_of a cs ≡ Some l → runner_up_of a cs l ≡ Some r → size_at a cs r ≡ 0 → Alone cs l
  zero_other cs l r p q z = record {
    inside = (best_some (size_at a cs) (length cs) (length cs) l p).0;
    others = λ j h k. omega (arith, (best_some (size_at a cs) l (length cs) r q).2 j h k);
  }

  stop_is : (b : Bool) (k l : ℕ) (o : Option (Work N)) → cond b (stop k) (turned a o) ≡ stop l → (b ≡ true) × (k ≡ l)
  stop_is true k l o e = (refl, cc)
  stop_is false k l (Some v) e = absurd cc
  stop_is false k l None e = absurd cc

  by_stop : (w : Work N) (k l : ℕ) → pivot_of a w.columns ≡ Some k → (o : Option ℕ) → runner_up_of a w.columns k ≡ o → turn_by a w k o ≡ stop l → Alone w.columns l
  by_stop w k l p None q e = let z : k ≡ l = cc in subst (λ x. Alone w.columns x) z (no_other w.columns k p q)
  by_stop w k l p (Some r) q e =
      let z = stop_is (eqb (size_at a w.columns r) 0) k l (round a w k r) e in
      subst (λ x. Alone w.columns x) z.1 (zero_other w.columns k r p q (eqb-true (size_at a w.columns r) 0 z.0))

  pub at_stop : (w : Work N) (l : ℕ) (o : Option ℕ) → pivot_of a w.columns ≡ o → turn_at a w o ≡ stop l → Alone w.columns l
  at_stop w l None p e = absurd cc
  at_stop w l (Some k) p e = by_stop w k l p (runner_up_of a w.columns k) refl e

module _ {N C : Type 0} (a : Arithmetic N C) (laws : Laws a) where
  -- a top reduced, and not to 0, is no multiple of the pivot's
  no_multiple : (x d q t : N) → a.quotient x d ≡ Some q → a.add_product x (a.negative q) d ≡ Some t → a.size t ≢ 0 → (y : ℤ) → ¬ Same a.modulus (a.means x +ℤ y *ℤ a.means d) (pos 0)
  no_multiple x d q t hq ht hz y z =
      let rest = rest_means a laws x d q t ht in
      let less = laws.rest_smaller x d q t hq rest in
      let most = laws.size_multiple d t (neg_ℤ (y +ℤ a.means q))
      (same_trans rest (same_trans (same_add (move (a.means x) (y *ℤ a.means d) z) same_refl) (same_eq (gather y (a.means q) (a.means d))))) (λ o. hz (laws.size_zero t o)) in
      omega arith

  -- what has a quotient by the pivot's top says that this is not 0
  pivot_some : (cs : List (Column N)) (l : ℕ) (x q : N) → l < length cs → a.quotient x (at a cs l).top ≡ Some q → ¬ Same a.modulus (top_at (map (full a) cs) l) (pos 0)
  pivot_some cs l x q i h z =
      let n = laws.none_quotient x (at a cs l).top (same_trans (same_eq (sym (top_full a cs l i))) z) in
      cc

  in_full : (cs : List (Column N)) (l : ℕ) → l < length cs → l < length (map (full a) cs)
  in_full cs l i = subst (λ k. l < k) (sym (length-map cs (full a))) i

  at_full : (cs : List (Column N)) (l : ℕ) → l < length cs → get_or (map (full a) cs) l [] ≡ full a (at a cs l)
  at_full cs l i = get_or-map (full a) cs l (record { top = a.zero; low = [] }) [] i

  -- a column reduced: some q of the other is added
  pub reduced_by : (c d r : Column N) → reduced a c d ≡ Some r → (q : N) × (adds_column a c q d ≡ Some r)
  reduced_by c d r h = let q = then_some (a.quotient c.top d.top) _ r h in (a.negative q.0, q.1.1)

  -- q × the pivot more in column B
  B_change : (b : Column N) (cs : List (Column N)) (l : ℕ) (q : N) (u : List ℤ) → l < length cs → SameLists a.modulus u (plus (full a b) (a.means q) (full a (at a cs l))) →
      Change a.modulus (full a b) (map (full a) cs) u (map (full a) cs)
  B_change b cs l q u i h =
      change_fixed (full a b) (map (full a) cs) u l (a.means q) (in_full cs l i) (subst (λ v. SameLists a.modulus u (plus (full a b) (a.means q) v)) (sym (at_full cs l i)) h)

  -- q × another column more in the pivot's
  pivot_change : (u : List ℤ) (cs : List (Column N)) (l r : ℕ) (q : N) (d : Column N) → l < length cs → r < length cs → r ≢ l → length (at a cs r).low ≡ length (at a cs l).low →
      adds_column a (at a cs l) q (at a cs r) ≡ Some d → Change a.modulus u (map (full a) cs) u (map (full a) (set cs l d))
  pivot_change u cs l r q d i j n k h =
      change_move u (map (full a) cs) (map (full a) (set cs l d)) l r (a.means q) (in_full cs l i) (in_full cs r j) n
      (ap length (at_full cs r j) ∙ ap suc (length-map (at a cs r).low a.means ∙ k ∙ sym (length-map (at a cs l).low a.means)) ∙ ap length (sym (at_full cs l i)))
      (subst (λ vs. SameColumns a.modulus vs (set (map (full a) cs) l (plus (get_or (map (full a) cs) l []) (a.means q) (get_or (map (full a) cs) r [])))) (sym (map-set (full a) cs l d))
      (columns_set (map (full a) cs) l
      (subst₂ (λ v w. SameLists a.modulus (full a d) (plus v (a.means q) w)) (sym (at_full cs l i)) (sym (at_full cs r j)) (column_means a laws (at a cs l) q (at a cs r) d h))))

  module _ (n : ℕ) (es : List Equation) (e : Equation) (s : Contents N) where
    -- what every step keeps: the lengths, and what the columns tell
    record Keeps (w : Work N) : Type 0 where
      B_length : length w.B.low ≡ n
      lows_length : AllByRecursion (λ c. length c.low ≡ n) w.columns
      many : length w.columns ≡ length s.moves
      tells : Tells a.modulus n es e (full a w.B) (map (full a) w.columns)

    round_keeps : (w v : Work N) → Keeps w → turn a w ≡ again v → Keeps v
    round_keeps w v k t =
        let g = went a laws w v t in
        let cs = w.columns in
        let l = g.l in
        let r = g.r in
        let i = (best_some (size_at a cs) (length cs) (length cs) l g.pivot).0 in
        let j = best_some (size_at a cs) l (length cs) r g.runner_up in
        let p = reduced_by w.B (at a cs l) g.b g.B_reduced in
        let q = reduced_by (at a cs l) (at a cs r) g.d g.pivot_reduced in
        let low_l = All-get_or (λ (c : Column N). length c.low ≡ n) cs l (record { top = a.zero; low = [] }) i k.lows_length in
        let low_r = All-get_or (λ (c : Column N). length c.low ≡ n) cs r (record { top = a.zero; low = [] }) j.0 k.lows_length in
        subst (λ (x : Work N). Keeps x) g.came
        (record {
          B_length = column_length a laws w.B p.0 (at a cs l) g.b p.1 ∙ k.B_length;
          lows_length = All-set (λ (c : Column N). length c.low ≡ n) cs l g.d (column_length a laws (at a cs l) q.0 (at a cs r) g.d q.1 ∙ low_l) k.lows_length;
          many = length-set cs l g.d ∙ k.many;
          tells = tells_change (tells_change k.tells (B_change w.B cs l p.0 (full a g.b) i (column_means a laws w.B p.0 (at a cs l) g.b p.1)))
              (pivot_change (full a g.b) cs l r q.0 g.d i j.0 j.1 (low_r ∙ sym low_l) q.1);
        })

    module _ (w : Work N) (k : Keeps w) (l : ℕ) (z : Alone a w.columns l) where
      by_low : (q t : N) → a.quotient w.B.top (at a w.columns l).top ≡ Some q → a.add_product w.B.top (a.negative q) (at a w.columns l).top ≡ Some t → a.size t ≡ 0 →
          (o : Option (List N)) → adds a w.B.low (a.negative q) (at a w.columns l).low ≡ o → Right a n es e s (closed a w.columns l o)
      by_low q t hq ht hz None hu = tt
      by_low q t hq ht hz (Some u) hu =
          let cs = w.columns in
          let i = z.inside in
          let step = also (laws.add_product_means w.B.top (a.negative q) (at a cs l).top t ht) (adds_means a laws w.B.low (a.negative q) (at a cs l).low u hu) in
          let told = tells_change k.tells (B_change w.B cs l (a.negative q) (a.means t ∷ meant a u) i step) in
          let alone = lone_top a laws cs l z.others in
          let x = laws.zero_size t hz in
          let y = pivot_some cs l w.B.top q i hq in
          let moves_are : map rest (without (map (full a) cs) l) ≡ map (meant a) (map (λ c. c.low) (without cs l)) = ap (map rest) (sym (map_without (full a) cs l)) ∙ lows_full a (without cs l) in
          record {
            verdict = taken_verdict told l (in_full cs l i) alone x y;
            holds = record {
              fixed_length = adds_length a laws w.B.low (a.negative q) (at a cs l).low u hu ∙ k.B_length;
              moves_length = All-map (λ v. length v ≡ n) (λ (c : Column N). c.low) (without cs l) (all_without (λ (c : Column N). length c.low ≡ n) cs l k.lows_length);
              general = subst (λ vs. General a.modulus n (e ∷ es) (meant a u) vs) moves_are (taken_general told l (in_full cs l i) alone x y laws.no_divisors);
            };
            one_fewer = ap (λ x. x + 1) (length-map (without cs l) (λ c. c.low)) ∙ add-one (length (without cs l)) ∙ without_length cs l i ∙ k.many;
          }

      by_top : (q : N) → a.quotient w.B.top (at a w.columns l).top ≡ Some q →
          (o : Option N) → a.add_product w.B.top (a.negative q) (at a w.columns l).top ≡ o → Right a n es e s (settled a w l q o)
      by_top q hq None ht = tt
      by_top q hq (Some t) ht =
          cond_both (eqb (a.size t) 0) (closed a w.columns l (adds a w.B.low (a.negative q) (at a w.columns l).low)) contradicted (Right a n es e s)
          (λ h. by_low q t hq ht (eqb-true (a.size t) 0 h) (adds a w.B.low (a.negative q) (at a w.columns l).low) refl)
          (λ h. apart_contradicted k.tells l (in_full w.columns l z.inside) (lone_top a laws w.columns l z.others)
          (λ y. subst (λ d. ¬ Same a.modulus (a.means w.B.top +ℤ y *ℤ d) (pos 0)) (sym (top_full a w.columns l z.inside))
          (no_multiple w.B.top (at a w.columns l).top q t hq ht (eqb-false (a.size t) 0 h) y)))

      by_quotient : (o : Option N) → a.quotient w.B.top (at a w.columns l).top ≡ o → Right a n es e s (finish_by a w l o)
      by_quotient None hq = tt
      by_quotient (Some q) hq = by_top q hq (a.add_product w.B.top (a.negative q) (at a w.columns l).top) refl

    rounds_right : (k : ℕ) (w : Work N) → Keeps w → Right a n es e s (finish a (rounds a k w))
    rounds_right zero w h = tt
    rounds_right (suc k) w h = by (turn a w) refl (λ v. rounds_right k v)
      where
        by : (t : Turn N) → turn a w ≡ t → ((v : Work N) → Keeps v → Right a n es e s (finish a (rounds a k v))) → Right a n es e s (finish a (on a (rounds a k) w t))
        by (stop l) q more = by_quotient w h l (at_stop a w l (pivot_of a w.columns) refl q) (a.quotient w.B.top (at a w.columns l).top) refl
        by fail q more = tt
        by (again v) q more = more v (round_keeps w v h q)

    -- the columns of a posting, before a round
    module _ (hs : Holds a n es s) (cs : List N) (right : N) (hc : SameLists a.modulus (meant a cs) e.coefficients) (hr : Same a.modulus (a.means right) e.right) where
      B_means : (b : Column N) → column_B a cs right s.fixed ≡ Some b → SameLists a.modulus (full a b) ((dot e.coefficients (meant a s.fixed) +ℤ neg_ℤ e.right) ∷ meant a s.fixed)
      B_means b h =
          let t = then_some (running a (a.negative right) cs s.fixed) _ b h in
          lists_trans (lists_eq (ap (full a) (sym (some_is t.1.1))))
          (also (same_trans (running_means a laws (a.negative right) cs s.fixed t.0 t.1.0)
          (same_trans (same_add (same_trans (laws.negative_means right) (same_neg hr)) (dot_same hc (lists_refl (meant a s.fixed)))) (same_eq (+ℤ_comm (neg_ℤ e.right) (dot e.coefficients (meant a s.fixed))))))
          (lists_refl (meant a s.fixed)))

      begins : (ds : List (Column N)) (b : Column N) → topped a cs s.moves ≡ Some ds → column_B a cs right s.fixed ≡ Some b → Keeps (record { B = b; columns = ds })
      begins ds b ht hb =
          let t = then_some (running a (a.negative right) cs s.fixed) _ b hb in
          let tops = topped_means a laws cs e.coefficients s.moves ds hc ht in
          record {
            B_length = ap (λ (c : Column N). length c.low) (sym (some_is t.1.1)) ∙ hs.fixed_length;
            lows_length = topped_lows a laws n cs s.moves ds ht hs.moves_length;
            many = sym (length-map ds (full a)) ∙ columns_length tops ∙ length-map (map (meant a) s.moves) (under e.coefficients) ∙ length-map s.moves (meant a);
            tells = tells_start (meant a s.fixed) (map (meant a) s.moves) hs.general (length-map s.fixed a.means ∙ hs.fixed_length) (sized_meant a n s.moves hs.moves_length) (B_means b hb) tops;
          }

      normalised_keeps : (b : Column N) (ds fs : List (Column N)) → normalised a ds ≡ Some fs → Keeps (record { B = b; columns = ds }) → Keeps (record { B = b; columns = fs })
      normalised_keeps b ds fs h k =
          let c = change_scaled (full a b) (map (full a) ds) (map (full a) fs) (normalised_means a laws ds fs h) in
          record {
            B_length = k.B_length;
            lows_length = normalised_lows a laws n ds fs h k.lows_length;
            many = sym (length-map fs (full a)) ∙ c.as_many ∙ length-map ds (full a) ∙ k.many;
            tells = tells_change k.tells c;
          }

      worked_right : (b : Column N) (ds : List (Column N)) → Keeps (record { B = b; columns = ds }) → (o : Option (List (Column N))) → normalised a ds ≡ o → Right a n es e s (worked a b o)
      worked_right b ds k None h = tt
      worked_right b ds k (Some fs) h = rounds_right (suc (total_size a fs)) (record { B = b; columns = fs }) (normalised_keeps b ds fs h k)

      prepared_right : (o : Option (List (Column N))) (p : Option (Column N)) → topped a cs s.moves ≡ o → column_B a cs right s.fixed ≡ p → Right a n es e s (prepared a o p)
      prepared_right None p ht hb = tt
      prepared_right (Some ds) None ht hb = tt
      prepared_right (Some ds) (Some b) ht hb =
          let k = begins ds b ht hb in
          cond_both (eqb (total_size a ds) 0) (cond (eqb (a.size b.top) 0) implied contradicted) (worked a b (normalised a ds)) (Right a n es e s)
          (λ h. let z = zero_tops a laws ds (eqb-true (total_size a ds) 0 h) in
          cond_both (eqb (a.size b.top) 0) implied contradicted (Right a n es e s)
          (λ i. flat_implied k.tells z (laws.zero_size b.top (eqb-true (a.size b.top) 0 i)))
          (λ i. flat_contradicted k.tells z (λ o. eqb-false (a.size b.top) 0 i (laws.size_zero b.top o))))
          (λ h. worked_right b ds k (normalised a ds) refl)

  pub posting_exact_lem : PostingExact a
  posting_exact_lem n es s hs e he cs right hc hr = prepared_right n es e s hs cs right hc hr (topped a cs s.moves) (column_B a cs right s.fixed) refl refl
