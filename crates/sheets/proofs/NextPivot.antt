-- After a round the runner-up is the pivot: the old pivot's top came below it, and no other top changed.
use Rattle.std.proofs.Common.{◌≡◌, ℕ, ◌<◌, ◌≤◌, ◌≢◌, List, [], length, set, Some, None, Option, sym, ap, ◌∙◌, ⊎_elim, arith}
use Rattle.std.proofs.lemmas.Bool.{cases_lt, cases_eq}
use Rattle.std.proofs.lemmas.List.{length-set, get_or-set_same, get_or-set_other}
use Rattle.kinds.specs.Kind.{Arithmetic, Laws}
use Rattle.plans.specs.Posting.{Column, Work, again, largest_of, at, size_at, pivot_of, runner_up_of, turn}
use Rattle.plans.proofs.Bests.{Best, best, best_some}
use Rattle.plans.proofs.Falling.{went, reduced_less}

-- no two places are the best
module _ (f : ℕ → ℕ) (s n b : ℕ) (u : Best f s n (Some b)) where
  only_best : (o : Option ℕ) → Best f s n o → o ≡ Some b
  only_best None w = absurd (u.1 (w b u.0))
  only_best (Some c) w =
      ⊎_elim
      (λ (h : c < b). let x = u.3 c h w.1 in let y = w.2 b u.0 u.1 in absurd (omega arith))
      (λ (h : b ≤ c). ⊎_elim
      (λ (i : b < c). let x = w.3 b i u.1 in let y = u.2 c w.0 w.1 in absurd (omega arith))
      (λ (i : c ≤ b). let e : c ≡ b = omega arith in ap (λ (x : ℕ). Some x) e)
      (cases_lt b c))
      (cases_lt c b)

  pub is_largest : largest_of f s n ≡ Some b
  is_largest = only_best (largest_of f s n) (best f s n)

module _ {N C : Type 0} (a : Arithmetic N C) (laws : Laws a) (cs : List (Column N)) (l r : ℕ) (d : Column N) where
  abbrev blank_top : Column N
  blank_top = record { top = a.zero; low = [] }

  same_size : (j : ℕ) → j ≢ l → size_at a (set cs l d) j ≡ size_at a cs j
  same_size j h = ap (λ (c : Column N). a.size c.top) (get_or-set_other cs l j d blank_top h)

  new_size : l < length cs → size_at a (set cs l d) l ≡ a.size d.top
  new_size h = ap (λ (c : Column N). a.size c.top) (get_or-set_same cs l d blank_top h)

  -- the runner-up is the best of what a round leaves
  next_best : (largest_of (size_at a cs) l (length cs) ≡ Some r) → l < length cs → a.size d.top < size_at a cs r → pivot_of a (set cs l d) ≡ Some r
  next_best e h s =
      let q = best_some (size_at a cs) l (length cs) r e in
      let f = size_at a (set cs l d) in
      let sr : f r ≡ size_at a cs r = same_size r q.1 in
      let sl : f l ≡ a.size d.top = new_size h in
      let n = length-set cs l d in
      let below : (j : ℕ) → j < length cs → f j ≤ f r
      = λ j i. ⊎_elim (λ x. let y : f j ≡ f l = ap f x in omega arith) (λ x. let y = same_size j x in let z = q.2 j i x in omega arith) (cases_eq j l) in
      let before : (j : ℕ) → j < r → f j < f r
      = λ j i. ⊎_elim (λ x. let y : f j ≡ f l = ap f x in omega arith) (λ x. let y = same_size j x in let z = q.3 j i x in omega arith) (cases_eq j l) in
      is_largest f (length (set cs l d)) (length (set cs l d)) r (omega (arith, q.0, n), omega (arith, q.0, n), (λ j i k. below j (omega (arith, n))), λ j i k. before j i)

module _ {N C : Type 0} (a : Arithmetic N C) (laws : Laws a) where
  -- where a turn goes on from the pivot l, the runner-up r is the next pivot
  pub next_pivot : (w v : Work N) (l r : ℕ) → pivot_of a w.columns ≡ Some l → runner_up_of a w.columns l ≡ Some r → turn a w ≡ again v → pivot_of a v.columns ≡ Some r
  next_pivot w v l r p q e =
      let g = went a laws w v e in
      let cs = w.columns in
      let el : g.l ≡ l = let x : Some g.l ≡ Some l = sym g.pivot ∙ p in cc in
      let er : g.r ≡ r = let x : Some g.r ≡ Some r = sym g.runner_up ∙ ap (runner_up_of a cs) el ∙ q in cc in
      let b = best_some (size_at a cs) (length cs) (length cs) g.l g.pivot in
      let s = reduced_less a laws (at a cs g.l) (at a cs g.r) g.d g.pivot_reduced in
      let n = next_best a laws cs g.l g.r g.d g.runner_up b.0 s in
      ap (λ (x : Work N). pivot_of a x.columns) (sym g.came) ∙ n ∙ ap (λ (x : ℕ). Some x) er
