-- In a posting nothing but an add-product gives none: there is always a turn left, a pivot and a quotient.
use Rattle.std.proofs.Common.{◌≡◌, ℕ, zero, suc, ◌<◌, Bool, true, false, cond, eqb, ◌⊎◌, ◌↔◌, List, [], ◌∷◌, length, set, ℤ, pos, ◌*ℤ◌, Some, None, Option, sym, refl, ap, ◌∙◌, subst, inl, inr, ⊎_elim, arith}
use Rattle.std.proofs.lemmas.List.{length-set, get_or-set_other}
use Rattle.std.proofs.lemmas.Bool.{eqb-true, eqb-false, cases_eq}
use Rattle.kinds.specs.Kind.{Arithmetic, Laws, Same}
use Rattle.kinds.specs.Ring.{ring}
use Rattle.kinds.specs.Sames.{same_eq, same_refl, same_sym, same_trans, same_add, same_scale, same_mul}
use Rattle.plans.specs.Sheet.{Contents}
use Rattle.plans.specs.Posting.{then, Column, Work, Outcome, implied, contradicted, overflow, Turn, stop, again, fail, running, adds, adds_column, blank, topped, column_B, normalised, at, size_at, pivot_of, runner_up_of, reduced, round, turned, turn_by, turn_at, turn, on, rounds, total_size, closed, settled, finish_by, finish, worked, prepared, posted}
use Rattle.plans.specs.Overflows.{LacksSum, LacksTops, Lacks, LacksColumn, LacksUnits, LacksReduced, LacksFinish, Comes, here, onward, LacksRound, LacksEnd, Lacking, in_tops, in_B, in_units, in_rounds, OnlyProducts}
use Rattle.plans.proofs.Bests.{Best, best, best_some}
use Rattle.plans.proofs.Falling.{then_some, column_top, reduced_less, went, turn_falls}
use Rattle.plans.proofs.Stored.{some_is}
use Rattle.plans.proofs.Rightness.{at_stop}
use Rattle.plans.proofs.Overflowing.{lacks_running, lacks_rounds, lacking_overflows}

-- something is not nothing
some_none : {X : Type 0} {x : X} {P : Type 0} → ◌≡◌ {A = Option X} (Some x) None → P
some_none e = absurd cc

-- where steps came to none: the first did, or the second
then_none : {X Y : Type 0} (p : Option X) (f : X → Option Y) → then p f ≡ None → (p ≡ None) ⊎ ((x : X) × (p ≡ Some x) × (f x ≡ None))
then_none None f e = inl refl
then_none (Some x) f e = inr (x, refl, e)

module _ {N C : Type 0} (a : Arithmetic N C) where
  adds_lacks : (u : List N) (q : N) (v : List N) → adds a u q v ≡ None → Lacks a u q v
  adds_lacks [] q v e = some_none e
  adds_lacks (x ∷ u) q [] e = some_none e
  adds_lacks (x ∷ u) q (y ∷ v) e =
      ⊎_elim (λ h. inl h) (λ r. ⊎_elim (λ h. inr (adds_lacks u q v h)) (λ s. some_none s.2) (then_none (adds a u q v) _ r.2)) (then_none (a.add_product x q y) _ e)

  column_lacks : (c : Column N) (q : N) (d : Column N) → adds_column a c q d ≡ None → LacksColumn a c q d
  column_lacks c q d e =
      ⊎_elim (λ h. inl h) (λ t. ⊎_elim (λ h. inr (adds_lacks c.low q d.low h)) (λ s. some_none s.2) (then_none (adds a c.low q d.low) _ t.2))
      (then_none (a.add_product c.top q d.top) _ e)

  running_lacks : (s : N) (cs xs : List N) → running a s cs xs ≡ None → LacksSum a s cs xs
  running_lacks s [] xs e = some_none e
  running_lacks s (c ∷ cs) [] e = some_none e
  running_lacks s (c ∷ cs) (x ∷ xs) e = ⊎_elim (λ h. inl h) (λ t. inr (t.0, t.1, running_lacks t.0 cs xs t.2)) (then_none (a.add_product s c x) _ e)

  -- a running sum comes to none exactly where one of its add-products does
  pub running_none : (s : N) (cs xs : List N) → (running a s cs xs ≡ None) ↔ LacksSum a s cs xs
  running_none s cs xs = (running_lacks s cs xs, lacks_running a s cs xs)

  topped_lacks : (cs : List N) (vs : List (List N)) → topped a cs vs ≡ None → LacksTops a cs vs
  topped_lacks cs [] e = some_none e
  topped_lacks cs (v ∷ vs) e =
      ⊎_elim (λ h. inl (running_lacks a.zero cs v h)) (λ t. ⊎_elim (λ h. inr (topped_lacks cs vs h)) (λ s. some_none s.2) (then_none (topped a cs vs) _ t.2))
      (then_none (running a a.zero cs v) _ e)

  B_lacks : (cs : List N) (right : N) (fixed : List N) → column_B a cs right fixed ≡ None → LacksSum a (a.negative right) cs fixed
  B_lacks cs right fixed e = ⊎_elim (λ h. running_lacks (a.negative right) cs fixed h) (λ t. some_none t.2) (then_none (running a (a.negative right) cs fixed) _ e)

  units_lack : (cs : List (Column N)) → normalised a cs ≡ None → LacksUnits a cs
  units_lack [] e = some_none e
  units_lack (c ∷ cs) e =
      ⊎_elim (λ h. inl (column_lacks (blank a c) (a.unit c.top) c h)) (λ t. ⊎_elim (λ h. inr (units_lack cs h)) (λ s. some_none s.2) (then_none (normalised a cs) _ t.2))
      (then_none (adds_column a (blank a c) (a.unit c.top) c) _ e)

  -- tops each of size 0 add up to 0, and in a sum that is 0 each has size 0
  total_zero : (cs : List (Column N)) → ((j : ℕ) → j < length cs → size_at a cs j ≡ 0) → total_size a cs ≡ 0
  total_zero [] f = refl
  total_zero (c ∷ cs) f = let h = f 0 (omega arith) in let t = total_zero cs (λ j i. f (suc j) (omega arith)) in omega arith

  zero_total : (cs : List (Column N)) (j : ℕ) → j < length cs → total_size a cs ≡ 0 → size_at a cs j ≡ 0
  zero_total [] j i h = absurd (omega arith)
  zero_total (c ∷ cs) zero i h = omega arith
  zero_total (c ∷ cs) (suc j) i h = zero_total cs j (omega arith) (omega arith)

module _ {N C : Type 0} (a : Arithmetic N C) (laws : Laws a) where
  quotients : (c d : N) → ¬ (a.size d ≡ 0) → (q : N) × (a.quotient c d ≡ Some q)
  quotients c d h = by (a.quotient c d) refl
    where
      by : (o : Option N) → a.quotient c d ≡ o → (q : N) × (o ≡ Some q)
      by (Some q) e = (q, refl)
      by None e = absurd (h (laws.size_zero d (laws.quotient_none c d e)))

  reduced_lacks : (c d : Column N) → ¬ (a.size d.top ≡ 0) → reduced a c d ≡ None → LacksReduced a c d
  reduced_lacks c d h e =
      let q = quotients c.top d.top h in
      ⊎_elim (λ n. some_none (sym q.1 ∙ n)) (λ p. (p.0, p.1, column_lacks a c (a.negative p.0) d p.2)) (then_none (a.quotient c.top d.top) _ e)

  -- where not every top has size 0, the pivot's has not
  pivot_sized : (cs : List (Column N)) (l : ℕ) → ¬ (total_size a cs ≡ 0) → pivot_of a cs ≡ Some l → ¬ (size_at a cs l ≡ 0)
  pivot_sized cs l h e z = let b = best_some (size_at a cs) (length cs) (length cs) l e in h (total_zero a cs (λ j i. omega (arith, b.2 j i (omega arith))))

  pivot : (cs : List (Column N)) → ¬ (total_size a cs ≡ 0) → (l : ℕ) × (pivot_of a cs ≡ Some l) × ¬ (size_at a cs l ≡ 0)
  pivot cs h = by (pivot_of a cs) refl
    where
      by : (o : Option ℕ) → pivot_of a cs ≡ o → (l : ℕ) × (pivot_of a cs ≡ Some l) × ¬ (size_at a cs l ≡ 0)
      by (Some l) e = (l, e, pivot_sized cs l h e)
      by None e = let b = subst (λ o. Best (size_at a cs) (length cs) (length cs) o) e (best (size_at a cs) (length cs) (length cs)) in absurd (h (total_zero a cs (λ j i. omega (arith, b j i))))

  stays : (w v : Work N) → turn a w ≡ again v → ¬ (total_size a v.columns ≡ 0)
  stays w v e z =
      let g = went a laws w v e in
      let cs = w.columns in
      let q = best_some (size_at a cs) g.l (length cs) g.r g.runner_up in
      let s = reduced_less a laws (at a cs g.l) (at a cs g.r) g.d g.pivot_reduced in
      let t = zero_total a (set cs g.l g.d) g.r (simp length-set q.0) (ap (λ (x : Work N). total_size a x.columns) g.came ∙ z) in
      let o = ap (λ (c : Column N). a.size c.top) (get_or-set_other cs g.l g.r g.d (record { top = a.zero; low = [] }) q.1) in
      omega (arith, s, t, o)

  -- a number × a unit is the same as 0 only if the number is
  unit_zero : (c t : N) → a.add_product a.zero (a.unit c) c ≡ Some t → a.size t ≡ 0 → a.size c ≡ 0
  unit_zero c t e z =
      let i = laws.unit_inverse c in
      let u = a.means (a.unit c) in
      let x = a.means c in
      let s : Same a.modulus (u *ℤ x) (pos 0) =
      same_trans (same_sym (same_trans (laws.add_product_means a.zero (a.unit c) c t e) (same_trans (same_add laws.zero_means (same_refl {a = u *ℤ x})) (same_eq (simp ring))))) (laws.zero_size t z) in
      laws.size_zero c
      (same_trans (same_eq (simp ring)) (same_trans (same_mul (same_sym i.1) (same_refl {a = x})) (same_trans (same_eq (regrouped u (a.means i.0) x)) (same_trans (same_scale (a.means i.0) s) (same_eq (simp ring))))))
    where
      regrouped : (u i x : ℤ) → u *ℤ i *ℤ x ≡ i *ℤ (u *ℤ x)
      regrouped u i x = simp ring

  normal_zero : (cs ds : List (Column N)) → normalised a cs ≡ Some ds → total_size a ds ≡ 0 → total_size a cs ≡ 0
  normal_zero [] ds e z = refl
  normal_zero (c ∷ cs) ds e z =
      let r = then_some (adds_column a (blank a c) (a.unit c.top) c) _ ds e in
      let s = then_some (normalised a cs) _ ds r.1.1 in
      let y : total_size a (r.0 ∷ s.0) ≡ 0 = ap (total_size a) (some_is s.1.1) ∙ z in
      let h = unit_zero c.top r.0.top (column_top a (blank a c) (a.unit c.top) c r.0 r.1.0) (omega arith) in
      let t = normal_zero cs s.0 s.1.0 (omega arith) in
      omega arith

  turned_fail : (o : Option (Work N)) → turned a o ≡ fail → o ≡ None
  turned_fail (Some v) e = absurd cc
  turned_fail None e = refl

  fails_past : (b : Bool) (l : ℕ) (t : Turn N) → cond b (stop l) t ≡ fail → (b ≡ false) × (t ≡ fail)
  fails_past true l t e = absurd cc
  fails_past false l t e = (refl, e)

  -- a turn that fails is a round that does
  fail_lacks : (w : Work N) → ¬ (total_size a w.columns ≡ 0) → turn a w ≡ fail → LacksRound a w
  fail_lacks w h e = by (runner_up_of a cs l) refl (ap (turn_at a w) (sym p.1) ∙ e)
    where
      cs : List (Column N)
      cs = w.columns

      p : (l : ℕ) × (pivot_of a cs ≡ Some l) × ¬ (size_at a cs l ≡ 0)
      p = pivot cs h

      l : ℕ
      l = p.0

      both : (r : ℕ) → ¬ (size_at a cs r ≡ 0) → round a w l r ≡ None → LacksReduced a w.B (at a cs l) ⊎ LacksReduced a (at a cs l) (at a cs r)
      both r k n =
          ⊎_elim (λ b. inl (reduced_lacks w.B (at a cs l) p.2 b)) (λ b. ⊎_elim (λ d. inr (reduced_lacks (at a cs l) (at a cs r) k d)) (λ d. some_none d.2) (then_none (reduced a (at a cs l) (at a cs r)) _ b.2))
          (then_none (reduced a w.B (at a cs l)) _ n)

      by : (o : Option ℕ) → runner_up_of a cs l ≡ o → turn_by a w l o ≡ fail → LacksRound a w
      by None q t = absurd cc
      by (Some r) q t =
          let n = fails_past (eqb (size_at a cs r) 0) l (turned a (round a w l r)) t in
          let k = eqb-false (size_at a cs r) 0 n.0 in
          record { work = w; l = l; r = r; comes = here w; pivot = p.1; runner_up = q; goes_on = k; lacks = both r k (turned_fail (round a w l r) n.1) }

  never_out : (n : ℕ) (w : Work N) → ¬ (total_size a w.columns ≡ 0) → total_size a w.columns < n → rounds a n w ≡ None → LacksRound a w
  never_out zero w h k e = absurd (omega arith)
  never_out (suc n) w h k e = by (turn a w) refl e (λ v. never_out n v)
    where
      by : (t : Turn N) → turn a w ≡ t → on a (rounds a n) w t ≡ None → ((v : Work N) → ¬ (total_size a v.columns ≡ 0) → total_size a v.columns < n → rounds a n v ≡ None → LacksRound a v) → LacksRound a w
      by (stop l) t e rest = some_none e
      by fail t e rest = fail_lacks w h t
      by (again v) t e rest =
          let f = turn_falls a laws w v t in
          let g = rest v (stays w v t) (omega arith) e in
          record { work = g.work; l = g.l; r = g.r; comes = onward w v g.work t g.comes; pivot = g.pivot; runner_up = g.runner_up; goes_on = g.goes_on; lacks = g.lacks }

  -- where the rounds end: at a turn that stops, with a top whose size is not 0
  record Ended (w : Work N) (l : ℕ) (v : Work N) : Type 0 where
    comes : Comes a w v
    stops : turn a v ≡ stop l
    sized : ¬ (total_size a v.columns ≡ 0)

  ended : (n : ℕ) (w : Work N) (l : ℕ) (v : Work N) → ¬ (total_size a w.columns ≡ 0) → rounds a n w ≡ Some (l, v) → Ended w l v
  ended zero w l v h e = some_none (sym e)
  ended (suc n) w l v h e = by (turn a w) refl e (λ u. ended n u l v)
    where
      by : (t : Turn N) → turn a w ≡ t → on a (rounds a n) w t ≡ Some (l, v) → ((u : Work N) → ¬ (total_size a u.columns ≡ 0) → rounds a n u ≡ Some (l, v) → Ended u l v) → Ended w l v
      by (stop k) t e rest =
          let same = some_is e in
          let x : w ≡ v = ap (λ (p : ℕ × Work N). p.1) same in
          let y : k ≡ l = ap (λ (p : ℕ × Work N). p.0) same in
          subst (λ (u : Work N). Ended w l u) x (record { comes = here w; stops = t ∙ ap stop y; sized = h })
      by fail t e rest = some_none (sym e)
      by (again u) t e rest = let g = rest u (stays w u t) e in record { comes = onward w u v t g.comes; stops = g.stops; sized = g.sized }

  -- the size of the pivot that is left is not 0
  stop_sized : (w : Work N) (l : ℕ) → turn a w ≡ stop l → ¬ (total_size a w.columns ≡ 0) → ¬ (size_at a w.columns l ≡ 0)
  stop_sized w l e h z =
      let o = at_stop a w l (pivot_of a w.columns) refl e in
      h (total_zero a w.columns (λ j i. ⊎_elim (λ x. ap (size_at a w.columns) x ∙ z) (λ x. o.others j i x) (cases_eq j l)))

  finish_lacks : (w : Work N) (l : ℕ) → ¬ (size_at a w.columns l ≡ 0) → finish_by a w l (a.quotient w.B.top (at a w.columns l).top) ≡ overflow → LacksFinish a w.B (at a w.columns l)
  finish_lacks w l h e = (q, k.1, by_top (a.add_product w.B.top (a.negative q) d.top) refl (ap (finish_by a w l) (sym k.1) ∙ e))
    where
      d : Column N
      d = at a w.columns l

      k : (q : N) × (a.quotient w.B.top d.top ≡ Some q)
      k = quotients w.B.top d.top h

      q : N
      q = k.0

      by_low : (o : Option (List N)) → adds a w.B.low (a.negative q) d.low ≡ o → closed a w.columns l o ≡ overflow → Lacks a w.B.low (a.negative q) d.low
      by_low None u e = adds_lacks a w.B.low (a.negative q) d.low u
      by_low (Some x) u e = absurd cc

      by_test : (b : Bool) → cond b (closed a w.columns l (adds a w.B.low (a.negative q) d.low)) contradicted ≡ overflow → (b ≡ true) × Lacks a w.B.low (a.negative q) d.low
      by_test true e = (refl, by_low (adds a w.B.low (a.negative q) d.low) refl e)
      by_test false e = absurd cc

      by_top : (o : Option N) → a.add_product w.B.top (a.negative q) d.top ≡ o → settled a w l q o ≡ overflow →
          (o ≡ None) ⊎ ((t : N) × (o ≡ Some t) × (a.size t ≡ 0) × Lacks a w.B.low (a.negative q) d.low)
      by_top None t e = inl refl
      by_top (Some t) u e = let b = by_test (eqb (a.size t) 0) e in inr (t, refl, eqb-true (a.size t) 0 b.0, b.1)

  rounds_lack : (w : Work N) → ¬ (total_size a w.columns ≡ 0) → (o : Option (ℕ × Work N)) → rounds a (suc (total_size a w.columns)) w ≡ o → finish a o ≡ overflow → LacksRound a w ⊎ LacksEnd a w
  rounds_lack w h None r e = inl (never_out (suc (total_size a w.columns)) w h (omega arith) r)
  rounds_lack w h (Some (l, v)) r e =
      let g = ended (suc (total_size a w.columns)) w l v h r in
      inr (record { work = v; l = l; comes = g.comes; stops = g.stops; lacks = finish_lacks v l (stop_sized v l g.stops g.sized) e })

  overflows : (s : Contents N) (cs : List N) (right : N) → posted a s cs right ≡ overflow → Lacking a s cs right
  overflows s cs right e = prepared_lacks (topped a cs s.moves) (column_B a cs right s.fixed) refl refl e
    where
      worked_lacks : (ds : List (Column N)) (b : Column N) → topped a cs s.moves ≡ Some ds → column_B a cs right s.fixed ≡ Some b → ¬ (total_size a ds ≡ 0) →
          (o : Option (List (Column N))) → normalised a ds ≡ o → worked a b o ≡ overflow → Lacking a s cs right
      worked_lacks ds b t u h None n e = in_units ds b t u h (units_lack a ds n)
      worked_lacks ds b t u h (Some fs) n e =
          in_rounds ds fs b t u h n (rounds_lack (record { B = b; columns = fs }) (λ z. h (normal_zero ds fs n z)) (rounds a (suc (total_size a fs)) (record { B = b; columns = fs })) refl e)

      flat_lacks : (b c : Bool) (rest : Outcome N) → cond b (cond c implied contradicted) rest ≡ overflow → (b ≡ false) × (rest ≡ overflow)
      flat_lacks true true rest e = absurd cc
      flat_lacks true false rest e = absurd cc
      flat_lacks false c rest e = (refl, e)

      prepared_lacks : (o : Option (List (Column N))) (p : Option (Column N)) → topped a cs s.moves ≡ o → column_B a cs right s.fixed ≡ p → prepared a o p ≡ overflow → Lacking a s cs right
      prepared_lacks None p t u e = in_tops (topped_lacks a cs s.moves t)
      prepared_lacks (Some ds) None t u e = in_B (B_lacks a cs right s.fixed u)
      prepared_lacks (Some ds) (Some b) t u e =
          let f = flat_lacks (eqb (total_size a ds) 0) (eqb (a.size b.top) 0) (worked a b (normalised a ds)) e in
          worked_lacks ds b t u (eqb-false (total_size a ds) 0 f.0) (normalised a ds) refl f.1

  pub only_products : OnlyProducts a
  only_products = record {
    falls = turn_falls a laws;
    quotients = quotients;
    pivot = pivot;
    stays = stays;
    normal = λ cs ds e h z. h (normal_zero cs ds e z);
    never_out = λ n w h k. (never_out n w h k, lacks_rounds a laws n w k);
    overflows = λ s cs right. (overflows s cs right, lacking_overflows a laws s cs right);
  }
