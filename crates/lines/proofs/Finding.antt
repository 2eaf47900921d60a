-- The first element that passes a test, over a loop that counts up.
use Rattle.std.proofs.Common.{◌≡◌, ℕ, ◌+◌, ◌<◌, Bool, true, false, cond, List, [], ◌∷◌, length, get_or, drop, Some, None, refl, ◌∙◌, arith}
use Rattle.std.proofs.lemmas.List.{at_drop_more}
use Rattle.std.proofs.lemmas.Bool.{cond-true, cond-false}
use Rattle.std.specs.List.{AllByRecursion, position_from}

module _ {A : Type 0} (test : A → Bool) (xs : List A) (i : ℕ) where
  pub find_here : (d : A) → i < length xs → test (get_or xs i d) ≡ true → position_from test i (drop i xs) ≡ Some i
  find_here d h e = at_drop_more (position_from test i) xs i d h ∙ cond-true (test (get_or xs i d)) (Some i) (position_from test (i + 1) (drop (i + 1) xs)) e

  pub find_on : (d : A) → i < length xs → test (get_or xs i d) ≡ false → position_from test i (drop i xs) ≡ position_from test (i + 1) (drop (i + 1) xs)
  find_on d h e = at_drop_more (position_from test i) xs i d h ∙ cond-false (test (get_or xs i d)) (Some i) (position_from test (i + 1) (drop (i + 1) xs)) e

module _ {A : Type 0} (test : A → Bool) where
  pub find_below : (i : ℕ) (xs : List A) (k : ℕ) → position_from test i xs ≡ Some k → k < i + length xs
  find_below i [] k e = absurd cc
  find_below i (x ∷ xs) k e = by (test x) (find_below (i + 1) xs k) e
    where
      by : (t : Bool) → (position_from test (i + 1) xs ≡ Some k → k < i + 1 + length xs) → cond t (Some i) (position_from test (i + 1) xs) ≡ Some k → k < i + length (x ∷ xs)
      by true rest e = let s : i ≡ k = cc in omega arith
      by false rest e = let s = rest e in omega arith

  pub find_none : (i : ℕ) (xs : List A) → position_from test i xs ≡ None → AllByRecursion (λ x. test x ≡ false) xs
  find_none i [] e = tt
  find_none i (x ∷ xs) e = by (test x) refl (find_none (i + 1) xs) e
    where
      by : (t : Bool) → test x ≡ t → (position_from test (i + 1) xs ≡ None → AllByRecursion (λ x. test x ≡ false) xs) → cond t (Some i) (position_from test (i + 1) xs) ≡ None → AllByRecursion (λ x. test x ≡ false) (x ∷ xs)
      by true p rest e = absurd cc
      by false p rest e = (p, rest e)

  pub none_find : (i : ℕ) (xs : List A) → AllByRecursion (λ x. test x ≡ false) xs → position_from test i xs ≡ None
  none_find i [] h = refl
  none_find i (x ∷ xs) h = cond-false (test x) (Some i) (position_from test (i + 1) xs) h.0 ∙ none_find (i + 1) xs h.1
