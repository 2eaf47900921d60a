-- The sum of the tops' sizes falls with each round, so that the turns allowed are enough.
use Rattle.std.proofs.Common.{◌≡◌, ℕ, zero, suc, ◌<◌, Bool, true, false, cond, eqb, List, [], ◌∷◌, length, set, ◌-ℤ◌, ◌*ℤ◌, Some, None, Option, refl, ap, ◌∙◌, arith}
use Rattle.kinds.specs.Kind.{Arithmetic, Laws, Same}
use Rattle.kinds.specs.Ring.{neg-*ℤ}
use Rattle.kinds.specs.Sames.{same_eq, same_add, same_mul, same_trans}
use Rattle.plans.specs.Posting.{then, Column, Work, Turn, stop, again, fail, adds, adds_column, at, size_at, pivot_of, runner_up_of, reduced, round, turned, turn_by, turn_at, turn, on, rounds, total_size, EnoughTurns}
use Rattle.plans.proofs.Bests.{best_some}

-- what came, where a step went on
pub then_some : {X Y : Type 0} (p : Option X) (f : X → Option Y) (y : Y) → then p f ≡ Some y → (x : X) × ((p ≡ Some x) × (f x ≡ Some y))
then_some (Some x) f y e = (x, (refl, e))
then_some None f y e = absurd cc

-- the top of a column plus q × another
pub column_top : {N C : Type 0} (a : Arithmetic N C) (c : Column N) (q : N) (d r : Column N) → adds_column a c q d ≡ Some r → a.add_product c.top q d.top ≡ Some r.top
column_top {N} a c q d r e =
    let t = then_some (a.add_product c.top q d.top) (λ t. then (adds a c.low q d.low) (λ l. Some (record { top = t; low = l }))) r e in
    let u = then_some (adds a c.low q d.low) (λ l. Some (record { top = t.0; low = l })) r t.1.1 in
    let v : record { top = t.0; low = u.0 } ≡ r = cc in
    t.1.0 ∙ ap (λ (x : Column N). Some x.top) v

module _ {N C : Type 0} (a : Arithmetic N C) (laws : Laws a) where
  -- add-product of minus the quotient is the rest
  pub rest_means : (c d q r : N) → a.add_product c (a.negative q) d ≡ Some r → Same a.modulus (a.means r) (a.means c -ℤ a.means q *ℤ a.means d)
  rest_means c d q r e =
      same_trans (laws.add_product_means c (a.negative q) d r e)
      (same_add (same_eq {a = a.means c} refl) (same_trans (same_mul (laws.negative_means q) (same_eq {a = a.means d} refl)) (same_eq (neg-*ℤ (a.means q) (a.means d)))))

  -- a column reduced has a smaller top than what it was reduced by
  pub reduced_less : (c d r : Column N) → reduced a c d ≡ Some r → a.size r.top < a.size d.top
  reduced_less c d r e =
      let p = then_some (a.quotient c.top d.top) (λ q. adds_column a c (a.negative q) d) r e in
      laws.rest_smaller c.top d.top p.0 r.top p.1.0 (rest_means c.top d.top p.0 r.top (column_top a c (a.negative p.0) d r p.1.1))

  -- one column smaller
  total_less : (cs : List (Column N)) (l : ℕ) (d : Column N) → l < length cs → a.size d.top < size_at a cs l → total_size a (set cs l d) < total_size a cs
  total_less [] l d h s = absurd (omega arith)
  total_less (c ∷ cs) zero d h s = omega arith
  total_less (c ∷ cs) (suc l) d h s = let i = total_less cs l d (omega arith) s in omega arith

  -- a turn that goes on is a round: B reduced by the pivot l, and the pivot by the runner-up r
  pub record Went (w v : Work N) : Type 0 where
    pub l : ℕ
    pub r : ℕ
    pub pivot : pivot_of a w.columns ≡ Some l
    pub runner_up : runner_up_of a w.columns l ≡ Some r
    pub b : Column N
    pub d : Column N
    pub B_reduced : reduced a w.B (at a w.columns l) ≡ Some b
    pub pivot_reduced : reduced a (at a w.columns l) (at a w.columns r) ≡ Some d
    pub came : record { B = b; columns = set w.columns l d } ≡ v

  rounded : (w v : Work N) (l r : ℕ) → pivot_of a w.columns ≡ Some l → runner_up_of a w.columns l ≡ Some r → round a w l r ≡ Some v → Went w v
  rounded w v l r p q e =
      let cs = w.columns in
      let b = then_some (reduced a w.B (at a cs l)) (λ b. then (reduced a (at a cs l) (at a cs r)) (λ d. Some (record { B = b; columns = set cs l d }))) v e in
      let d = then_some (reduced a (at a cs l) (at a cs r)) (λ d. Some (record { B = b.0; columns = set cs l d })) v b.1.1 in
      record { l = l; r = r; pivot = p; runner_up = q; b = b.0; d = d.0; B_reduced = b.1.0; pivot_reduced = d.1.0; came = cc }

  turned_again : (o : Option (Work N)) (v : Work N) → turned a o ≡ again v → o ≡ Some v
  turned_again (Some w) v e = cc
  turned_again None v e = absurd cc

  again_past : (b : Bool) (l : ℕ) (x : Turn N) (v : Work N) → cond b (stop l) x ≡ again v → x ≡ again v
  again_past true l x v e = absurd cc
  again_past false l x v e = e

  by_again : (w v : Work N) (l : ℕ) → pivot_of a w.columns ≡ Some l → (o : Option ℕ) → runner_up_of a w.columns l ≡ o → turn_by a w l o ≡ again v → Went w v
  by_again w v l p None q e = absurd cc
  by_again w v l p (Some r) q e = rounded w v l r p q (turned_again (round a w l r) v (again_past (eqb (size_at a w.columns r) 0) l (turned a (round a w l r)) v e))

  at_again : (w v : Work N) (o : Option ℕ) → pivot_of a w.columns ≡ o → turn_at a w o ≡ again v → Went w v
  at_again w v None p e = absurd cc
  at_again w v (Some l) p e = by_again w v l p (runner_up_of a w.columns l) refl e

  pub went : (w v : Work N) → turn a w ≡ again v → Went w v
  went w v e = at_again w v (pivot_of a w.columns) refl e

  pub turn_falls : (w v : Work N) → turn a w ≡ again v → total_size a v.columns < total_size a w.columns
  turn_falls w v e =
      let g = went w v e in
      let cs = w.columns in
      let p = best_some (size_at a cs) (length cs) (length cs) g.l g.pivot in
      let q = best_some (size_at a cs) g.l (length cs) g.r g.runner_up in
      let s = reduced_less (at a cs g.l) (at a cs g.r) g.d g.pivot_reduced in
      let m = p.2 g.r q.0 (omega (arith, q.0)) in
      let t = total_less cs g.l g.d p.0 (omega (arith, s, m)) in
      let y = ap (λ (x : Work N). total_size a x.columns) g.came in
      omega (arith, t, y)

  -- more turns than the tops' sizes add up to come to the same
  pub enough : EnoughTurns a
  enough zero m w h k = absurd (omega arith)
  enough (suc n) zero w h k = absurd (omega arith)
  enough (suc n) (suc m) w h k = by (turn a w) refl (λ v. enough n m v)
    where
      by : (t : Turn N) → turn a w ≡ t → ((v : Work N) → total_size a v.columns < n → total_size a v.columns < m → rounds a n v ≡ rounds a m v) → on a (rounds a n) w t ≡ on a (rounds a m) w t
      by (stop l) e rest = refl
      by fail e rest = refl
      by (again v) e rest = let f = turn_falls w v e in rest v (omega arith) (omega arith)
