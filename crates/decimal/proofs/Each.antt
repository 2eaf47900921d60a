-- The texts of a list's numbers, of one number more.
use Rattle.std.proofs.Common.{◌≡◌, ℕ, ◌+◌, ◌<◌, ℤ, List, [], ◌∷◌, ◌++◌, length, get_or, take, suc, sym, ap, ◌∙◌, add-zero, arith}
use Rattle.std.proofs.lemmas.List.{take_more, append-nil, append_assoc, length-take-le}
use Rattle.decimal.specs.Decimal.{each}

module _ (text : ℕ → ℤ → List ℕ) where
  pub each_push : (place : ℕ) (xs : List ℤ) (x : ℤ) → each text place (xs ++ x ∷ []) ≡ each text place xs ++ text (place + length xs) x
  each_push place [] x = append-nil (text place x) ∙ ap (λ (n : ℕ). text n x) (sym (add-zero place))
  each_push place (y ∷ xs) x =
      let same : place + 1 + length xs ≡ place + suc (length xs) = omega arith in
      ap (λ (t : List ℕ). text place y ++ t) (each_push (place + 1) xs x)
      ∙ sym (append_assoc (text place y) (each text (place + 1) xs) (text (place + 1 + length xs) x))
      ∙ ap (λ (n : ℕ). text place y ++ each text (place + 1) xs ++ text n x) same

  pub each_more : (xs : List ℤ) (i : ℕ) (d : ℤ) → i < length xs → each text 1 (take (i + 1) xs) ≡ each text 1 (take i xs) ++ text (i + 1) (get_or xs i d)
  each_more xs i d h =
      let at : 1 + length (take i xs) ≡ i + 1 = omega (arith, length-take-le i xs (omega arith)) in
      ap (each text 1) (take_more xs i d h)
      ∙ each_push 1 (take i xs) (get_or xs i d)
      ∙ ap (λ (n : ℕ). each text 1 (take i xs) ++ text n (get_or xs i d)) at
