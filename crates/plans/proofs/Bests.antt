-- The largest place by a function, and what it says.
use Rattle.std.proofs.Common.{◌≡◌, ℕ, zero, suc, ◌<◌, ◌≤◌, eqb, ltb, ◌≢◌, IfSome, Some, None, Option, subst, ⊎_elim, arith}
use Rattle.std.proofs.lemmas.Bool.{eqb-true, eqb-false, ltb-true, ltb-false, cond_both, cases_lt}
use Rattle.plans.specs.Posting.{larger, largest_of}

module _ (f : ℕ → ℕ) (s : ℕ) where
  -- what the largest so far is, as a fact
  abbrev pub Best : ℕ → Option ℕ → Type 0
  Best n (Some b) = (b < n) × (b ≢ s) × ((j : ℕ) → j < n → j ≢ s → f j ≤ f b) × ((j : ℕ) → j < b → j ≢ s → f j < f b)
  Best n None = (j : ℕ) → j < n → j ≡ s

  best_skip : (n : ℕ) → n ≡ s → (o : Option ℕ) → Best n o → Best (suc n) o
  best_skip n e (Some b) w = (omega arith, w.1, (λ j h k. w.2 j (omega arith) k), w.3)
  best_skip n e None w = λ j h. ⊎_elim (λ l. w j l) (λ l. omega arith) (cases_lt j n)

  best_other : (n : ℕ) → n ≢ s → (o : Option ℕ) → Best n o → Best (suc n) (larger f n o)
  best_other n e (Some b) w =
      cond_both (ltb (f b) (f n)) n b (λ x. Best (suc n) (Some x))
      (λ t. let l = ltb-true (f b) (f n) t in
      (omega arith, e, (λ j h k. ⊎_elim (λ q. omega (arith, w.2 j q k)) (λ (q : n ≤ j). let z : j ≡ n = omega arith in rw z (omega arith)) (cases_lt j n)), λ j h k. omega (arith, w.2 j h k)))
      (λ t. let l = ltb-false (f b) (f n) t in
      (omega arith, w.1, (λ j h k. ⊎_elim (λ q. w.2 j q k) (λ (q : n ≤ j). let z : j ≡ n = omega arith in rw z l) (cases_lt j n)), w.3))
  best_other n e None w =
      (omega arith, e, (λ j h k. ⊎_elim (λ q. absurd (k (w j q))) (λ (q : n ≤ j). let z : j ≡ n = omega arith in rw z (omega arith)) (cases_lt j n)), λ j h k. absurd (k (w j h)))

  pub best : (n : ℕ) → Best n (largest_of f s n)
  best zero = λ j h. omega arith
  best (suc n) =
      cond_both (eqb n s) (largest_of f s n) (larger f n (largest_of f s n)) (λ x. Best (suc n) x)
      (λ t. best_skip n (eqb-true n s t) (largest_of f s n) (best n))
      (λ t. best_other n (eqb-false n s t) (largest_of f s n) (best n))

  pub best_some : (n b : ℕ) → largest_of f s n ≡ Some b → Best n (Some b)
  best_some n b e = subst (λ x. Best n x) e (best n)

  best_under : (n : ℕ) (o : Option ℕ) → Best n o → IfSome o (λ b. b < n)
  best_under n (Some b) w = w.0
  best_under n None w = tt

  -- the largest is one of those looked at
  pub largest_under : (n : ℕ) → IfSome (largest_of f s n) (λ b. b < n)
  largest_under n = best_under n (largest_of f s n) (best n)
