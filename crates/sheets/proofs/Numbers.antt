-- The numbers in cells, by place.
use Rattle.std.proofs.Common.{◌≡◌, ℕ, ◌+◌, ◌<◌, ◌≤◌, List, ◌∷◌, length, get_or, drop, Some, Option, sym, ap, ◌∙◌, arith}
use Rattle.std.proofs.lemmas.List.{length-take, length-drop, length-map, get_or-map, get_or-take, get_or-drop, drop_more, drop_all}
use Rattle.kinds.specs.Kind.{Arithmetic}
use Rattle.plans.specs.Posting.{then, running}
use Rattle.sheets.specs.Cells.{part, number, numbers, number_at}

module _ {N C : Type 0} (a : Arithmetic N C) where
  pub length_numbers_part : (cells : List C) (from n : ℕ) → from + n ≤ length cells → length (numbers a (part from n cells)) ≡ n
  length_numbers_part cells from n h = length-map (part from n cells) (number a) ∙ (simp (length-take, length-drop) (omega arith))

  -- number i of a part
  pub number_of_part : (cells : List C) (from n i : ℕ) → from + n ≤ length cells → i < n → get_or (numbers a (part from n cells)) i a.zero ≡ number_at a cells (from + i)
  number_of_part cells from n i h k =
      let z = a.to_cell a.zero in
      let l : i < length (part from n cells) = simp (length-take, length-drop) (omega arith) in
      get_or-map (number a) (part from n cells) i z a.zero l
      ∙ ap (number a) (get_or-take n (drop from cells) i z k ∙ get_or-drop from cells i z)

  -- a running sum, one step on and at its end
  module _ (s : N) (cs xs : List N) (i : ℕ) where
    pub running_more : (c x : N) (o : Option N) → i < length cs → i < length xs → c ≡ get_or cs i c → x ≡ get_or xs i a.zero → o ≡ a.add_product s c x →
        then o (λ t. running a t (drop (i + 1) cs) (drop (i + 1) xs)) ≡ running a s (drop i cs) (drop i xs)
    running_more c x o h k p q e =
        let dc : drop i cs ≡ c ∷ drop (i + 1) cs = drop_more cs i c h ∙ ap (λ (y : N). y ∷ drop (i + 1) cs) (sym p) in
        let dx : drop i xs ≡ x ∷ drop (i + 1) xs = drop_more xs i a.zero k ∙ ap (λ (y : N). y ∷ drop (i + 1) xs) (sym q) in
        ap (λ (y : Option N). then y (λ t. running a t (drop (i + 1) cs) (drop (i + 1) xs))) e ∙ sym (λ j. running a s (dc j) (dx j))

    pub running_end : length cs ≤ i → running a s (drop i cs) (drop i xs) ≡ Some s
    running_end h = ap (λ (l : List N). running a s l (drop i xs)) (drop_all i cs h)
