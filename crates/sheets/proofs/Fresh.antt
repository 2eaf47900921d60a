-- A new sheet, laid cell by cell.
use Rattle.std.proofs.Common.{◌≡◌, ℕ, zero, suc, ◌+◌, ◌-◌, ◌*◌, ◌<◌, ◌≤◌, List, [], ◌∷◌, ◌++◌, length, get_or, take, drop, set, replicate, sym, refl, ap, ◌∙◌, zero-mul, mul-one, mul-add, arith}
use native.Mathlib.Nat.{add-sub_cancel_left, sub_self}
use lib.LanesLaws.{map-replicate}
use Rattle.std.specs.List.{flat_map}
use Rattle.std.proofs.lemmas.List.{append_assoc, append-nil, length-append, length-replicate, length-set, length-take-le, map-append, map-set, get_or-map, set-append_left, set-append_right}
use Rattle.kinds.specs.Kind.{Arithmetic}
use Rattle.lines.specs.Page.{over}
use Rattle.plans.specs.Sheet.{unit_moves, new_sheet}
use Rattle.plans.proofs.NewSheet.{units_many}
use Rattle.sheets.specs.Cells.{held, zero_cells, needed, spare_cells, sheet_cells}
use Rattle.sheets.proofs.Laying.{over_append}
use Rattle.sheets.proofs.Rows.{length_rows}

-- one place of what was put over
set_over : {X : Type 0} (cells s : List X) (p j : ℕ) (y : X) → p ≤ length cells → j < length s → set (over cells p s) (p + j) y ≡ over cells p (set s j y)
set_over {X} cells s p j y h b =
    let T = take p cells in
    let D = drop (p + length s) cells in
    set-append_right T (s ++ D) p (p + j) y (length-take-le p cells h) (omega arith)
    ∙ ap (λ (i : ℕ). T ++ set (s ++ D) i y) (add-sub_cancel_left p j)
    ∙ ap (λ (x : List X). T ++ x) (set-append_left s D j y b ∙ ap (λ (i : ℕ). set s j y ++ drop (p + i) cells) (sym (length-set s j y)))

module _ {N C : Type 0} (a : Arithmetic N C) where
  -- move j is 1 at unknown j and 0 elsewhere
  unit_is : (n j : ℕ) → j < n → get_or (unit_moves a n) j [] ≡ set (replicate n a.zero) j a.one
  unit_is zero j h = absurd (omega arith)
  unit_is (suc n) zero h = refl
  unit_is (suc n) (suc j) h =
      let l = units_many a n in
      get_or-map (λ move. a.zero ∷ move) (unit_moves a n) j [] [] (omega arith) ∙ ap (λ (m : List N). a.zero ∷ m) (unit_is n j (omega arith))

  pub each_unit : (n j : ℕ) → j < length (unit_moves a n) → length (get_or (unit_moves a n) j []) ≡ n
  each_unit n j h =
      let l = units_many a n in
      ap length (unit_is n j (omega arith)) ∙ length-set (replicate n a.zero) j a.one ∙ length-replicate n a.zero

  pub unit_laid : (n from j : ℕ) (cs ds es : List C) (x : N) → from + n ≤ length cs → j < n → ds ≡ over cs from (zero_cells a n) → x ≡ a.one → es ≡ set ds (from + j) (a.to_cell x) → es ≡ over cs from (held a (get_or (unit_moves a n) j []))
  unit_laid n from j cs ds es x room h e f g =
      let z = length-replicate n (a.to_cell a.zero) in
      g ∙ (λ i. set (e i) (from + j) (a.to_cell (f i)))
      ∙ set_over cs (zero_cells a n) from j (a.to_cell a.one) (omega arith) (omega arith)
      ∙ ap (λ (s : List C). over cs from (set s j (a.to_cell a.one))) (sym (map-replicate a.to_cell n a.zero))
      ∙ ap (over cs from) (sym (map-set a.to_cell (replicate n a.zero) j a.one) ∙ ap (held a) (sym (unit_is n j h)))

  -- the fixed plan, the moves, and the spare cells
  pub new_laid : (n : ℕ) (cs ds es fs : List C) → needed n ≤ length cs → ds ≡ over cs 0 (zero_cells a n) → es ≡ over ds n (held a (flat_map (λ move. move) (unit_moves a n))) → fs ≡ over es (n * (n + 1)) (zero_cells a (spare_cells n)) → fs ≡ sheet_cells a n (new_sheet a n) cs
  new_laid n cs ds es fs room ed ee ef =
      let Z = zero_cells a n in
      let J = held a (flat_map (λ move. move) (unit_moves a n)) in
      let S = zero_cells a (spare_cells n) in
      let lu = units_many a n in
      let lz : length Z ≡ n = length-replicate n (a.to_cell a.zero) in
      let ls : length S ≡ spare_cells n = length-replicate (spare_cells n) (a.to_cell a.zero) in
      let lj : length J ≡ n * n = length_rows a n (unit_moves a n) (each_unit n) ∙ ap (λ (i : ℕ). i * n) lu in
      let m = mul-add n n 1 in
      let o = mul-one n in
      let la = length-append Z J in
      let lb = length-append (Z ++ J) S in
      let e1 : es ≡ over cs 0 (Z ++ J) = ee ∙ (λ i. over (ed i) (zero_n i) J) ∙ over_append cs Z J 0 (omega arith) in
      let e2 : fs ≡ over cs 0 ((Z ++ J) ++ S) = ef ∙ (λ i. over (e1 i) (main_n i) S) ∙ over_append cs (Z ++ J) S 0 (omega arith) in
      let d : 0 + length ((Z ++ J) ++ S) ≡ needed n = omega arith in
      e2 ∙ ap (λ (i : ℕ). ((Z ++ J) ++ S) ++ drop i cs) d ∙ append_assoc (Z ++ J) S (drop (needed n) cs) ∙ ap (λ (x : List C). x ++ (S ++ drop (needed n) cs)) (sym main)
    where
      zero_n : n ≡ 0 + length (zero_cells a n)
      zero_n = let z = length-replicate n (a.to_cell a.zero) in omega arith

      main_n : n * (n + 1) ≡ 0 + length (zero_cells a n ++ held a (flat_map (λ move. move) (unit_moves a n)))
      main_n =
          let z = length-replicate n (a.to_cell a.zero) in
          let lj = length_rows a n (unit_moves a n) (each_unit n) ∙ ap (λ (i : ℕ). i * n) (units_many a n) in
          let la = length-append (zero_cells a n) (held a (flat_map (λ move. move) (unit_moves a n))) in
          let m = mul-add n n 1 in
          let o = mul-one n in
          omega arith

      main : held a (replicate n a.zero ++ flat_map (λ move. move) (unit_moves a n)) ++ zero_cells a ((n - length (unit_moves a n)) * n) ≡ zero_cells a n ++ held a (flat_map (λ move. move) (unit_moves a n))
      main =
          let none : (n - length (unit_moves a n)) * n ≡ 0 = ap (λ (i : ℕ). (n - i) * n) (units_many a n) ∙ ap (λ (i : ℕ). i * n) (sub_self n) ∙ zero-mul n in
          ap (λ (i : ℕ). held a (replicate n a.zero ++ flat_map (λ move. move) (unit_moves a n)) ++ zero_cells a i) none
          ∙ append-nil (held a (replicate n a.zero ++ flat_map (λ move. move) (unit_moves a n)))
          ∙ map-append a.to_cell (replicate n a.zero) (flat_map (λ move. move) (unit_moves a n))
          ∙ ap (λ (x : List C). x ++ held a (flat_map (λ move. move) (unit_moves a n))) (map-replicate a.to_cell n a.zero)
