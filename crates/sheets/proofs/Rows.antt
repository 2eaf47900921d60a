-- Lists of n numbers laid one behind another.
use Rattle.std.proofs.Common.{◌≡◌, ℕ, zero, suc, ◌+◌, ◌*◌, ◌<◌, ◌≤◌, List, [], ◌++◌, length, get_or, take, sym, ap, ◌∙◌, mul-le-mul_right, suc-mul, add-one, arith}
use Rattle.std.specs.List.{flat_map}
use Rattle.std.proofs.lemmas.List.{length-append, length-map, map-append, take_all, take_more, flat_map_more}
use Rattle.kinds.specs.Kind.{Arithmetic}
use Rattle.lines.specs.Page.{over}
use Rattle.sheets.specs.Cells.{held}
use Rattle.sheets.proofs.Laying.{over_append}
use Rattle.sheets.proofs.Walks.{over_nothing}

module _ {N C : Type 0} (a : Arithmetic N C) (n : ℕ) (rows : List (List N)) (each : (j : ℕ) → j < length rows → length (get_or rows j []) ≡ n) where
  -- the first j of them
  abbrev SoFar : ℕ → List N
  SoFar j = flat_map (λ m. m) (take j rows)

  so_far_push : (j : ℕ) → j < length rows → SoFar (j + 1) ≡ SoFar j ++ get_or rows j []
  so_far_push j h = ap (flat_map (λ m. m)) (take_more rows j [] h) ∙ sym (flat_map_more (λ m. m) [] (take j rows) (get_or rows j []))

  length_joined : (j : ℕ) → j ≤ length rows → length (SoFar j) ≡ j * n
  length_joined zero h = omega arith
  length_joined (suc j) h =
      let i = length_joined j (omega arith) in
      let e = each j (omega arith) in
      let q = length-append (SoFar j) (get_or rows j []) in
      let m = suc-mul j n in
      ap length (ap SoFar (sym (add-one j)) ∙ so_far_push j (omega arith)) ∙ omega (arith, i, e, q, m)

  pub length_so_far : (j : ℕ) → j ≤ length rows → length (held a (SoFar j)) ≡ j * n
  length_so_far j h = length-map (SoFar j) a.to_cell ∙ length_joined j h

  pub length_rows : length (held a (flat_map (λ m. m) rows)) ≡ length rows * n
  length_rows = ap (λ (x : List (List N)). length (held a (flat_map (λ m. m) x))) (sym (take_all (length rows) rows (omega arith))) ∙ length_so_far (length rows) (omega arith)

  pub rows_start : (start : List C) (p : ℕ) → start ≡ over start p (held a (SoFar 0))
  rows_start start p = sym (over_nothing start p)

  pub rows_more : (start now next : List C) (p to j : ℕ) → p + length rows * n ≤ length start → j < length rows → to ≡ p + j * n → now ≡ over start p (held a (SoFar j)) → next ≡ over now to (held a (get_or rows j [])) → next ≡ over start p (held a (SoFar (j + 1)))
  rows_more start now next p to j room h et e f =
      let lh = length_so_far j (omega arith) in
      let jn : j * n ≤ length rows * n = mul-le-mul_right n (omega arith) in
      let t : to ≡ p + length (held a (SoFar j)) = omega arith in
      f
      ∙ (λ i. over (e i) (t i) (held a (get_or rows j [])))
      ∙ over_append start (held a (SoFar j)) (held a (get_or rows j [])) p (omega arith)
      ∙ ap (over start p) (sym (map-append a.to_cell (SoFar j) (get_or rows j [])) ∙ ap (held a) (sym (so_far_push j h)))

  pub rows_end : (start now : List C) (p j : ℕ) → j ≡ length rows → now ≡ over start p (held a (SoFar j)) → now ≡ over start p (held a (flat_map (λ m. m) rows))
  rows_end start now p j e s = s ∙ ap (λ (x : List (List N)). over start p (held a (flat_map (λ m. m) x))) (take_all j rows (omega arith))
