-- What was written into a sheet's cells, read back.
use Rattle.std.proofs.Common.{◌≡◌, ℕ, zero, suc, ◌+◌, ◌-◌, ◌*◌, ◌<◌, ◌≤◌, List, [], ◌∷◌, ◌++◌, length, get_or, take, drop, sym, ap, ◌∙◌, suc-mul, add-mul, zero-mul, mul-one, mul-add, arith}
use Rattle.std.specs.List.{flat_map}
use Rattle.std.proofs.lemmas.List.FromFn.{length-map-range_with_len, get_or-map-range_with_len}
use Rattle.std.proofs.ByRecursion.{All-get_or, All-from_get_or}
use Rattle.std.proofs.lemmas.List.{append_assoc, length-append, length-map, length-replicate, map-append, take_at, drop_at, take-take, take-map, drop-map, drop-take, drop-drop, ext_get_or}
use Rattle.kinds.specs.Kind.{Arithmetic, Laws}
use Rattle.plans.specs.Sheet.{Contents}
use Rattle.plans.specs.Solution.{Sized}
use Rattle.plans.proofs.Sizes.{Measured}
use Rattle.sheets.specs.Cells.{main_cells, spare_cells, needed, part, number, numbers, held, zero_cells, move_at, moves_at, contents_in, main_of, sheet_cells}
use Rattle.sheets.proofs.Numbers.{length_numbers_part}
use Rattle.sheets.proofs.Places.{column_in}
use Rattle.sheets.proofs.Rows.{length_rows}
use Rattle.sheets.proofs.Standing.{numbers_held}

-- row j of lists of n elements, one behind another
part_row : {X : Type 0} (n : ℕ) (rows : List (List X)) (rest : List X) (j : ℕ) → Sized n rows → j < length rows → part (j * n) n (flat_map (λ m. m) rows ++ rest) ≡ get_or rows j []
part_row n [] rest j s h = absurd (omega arith)
part_row {X} n (v ∷ vs) rest zero (l, s) h =
    ap (λ (i : ℕ). part i n ((v ++ flat_map (λ m. m) vs) ++ rest)) (zero-mul n) ∙ ap (take n) (append_assoc v (flat_map (λ m. m) vs) rest) ∙ take_at v (flat_map (λ m. m) vs ++ rest) n l
part_row {X} n (v ∷ vs) rest (suc j) (l, s) h =
    let e : suc j * n ≡ n + j * n = let m = suc-mul j n in omega arith in
    let all = (v ++ flat_map (λ m. m) vs) ++ rest in
    ap (λ (i : ℕ). part i n all) e
    ∙ ap (take n) (sym (drop-drop (j * n) n all))
    ∙ ap (λ (x : List X). take n (drop (j * n) (drop n x))) (append_assoc v (flat_map (λ m. m) vs) rest)
    ∙ ap (λ (x : List X). take n (drop (j * n) x)) (drop_at v (flat_map (λ m. m) vs ++ rest) n l)
    ∙ part_row n vs rest j s (omega arith)

-- a part within the first elements
part_front : {X : Type 0} (p h front : ℕ) (xs : List X) → p + h ≤ front → part p h (take front xs) ≡ part p h xs
part_front {X} p h front xs b =
    let e : front ≡ p + (front - p) = omega arith in
    ap (λ (i : ℕ). take h (drop p (take i xs))) e ∙ ap (take h) (drop-take p (front - p) xs) ∙ take-take h (front - p) (drop p xs) (omega arith)

module _ {N C : Type 0} (a : Arithmetic N C) (n k : ℕ) where
  -- the moves, one by one
  same_moves : (cells : List C) (vs : List (List N)) → length vs ≡ k → ((j : ℕ) → j < k → move_at a cells n j ≡ get_or vs j []) → moves_at a cells n k ≡ vs
  same_moves cells vs l f =
      ext_get_or [] (moves_at a cells n k) vs (length-map-range_with_len (move_at a cells n) 0 k ∙ sym l)
      (λ j b. let jk : j < k = let m = length-map-range_with_len (move_at a cells n) 0 k in omega arith in
      get_or-map-range_with_len (move_at a cells n) 0 k j j [] jk (omega arith) ∙ f j jk)

  length_moves_at : (cells : List C) → length (moves_at a cells n k) ≡ k
  length_moves_at cells = length-map-range_with_len (move_at a cells n) 0 k

  move_of : (cells : List C) (j : ℕ) → j < k → get_or (moves_at a cells n k) j [] ≡ move_at a cells n j
  move_of cells j h = get_or-map-range_with_len (move_at a cells n) 0 k j j [] h (omega arith)

  -- what cells hold goes by the numbers in them
  contents_by : (cells : List C) (s : Contents N) (rest : List N) → Measured n k s → numbers a cells ≡ s.fixed ++ (flat_map (λ m. m) s.moves ++ rest) → contents_in a n k cells ≡ s
  contents_by cells s rest h e =
      let J = flat_map (λ m. m) s.moves ++ rest in
      let f : numbers a (take n cells) ≡ s.fixed = sym (take-map (number a) n cells) ∙ ap (take n) e ∙ take_at s.fixed J n h.fixed_length in
      let m : moves_at a cells n k ≡ s.moves
      = same_moves cells s.moves h.many
      (λ j b. let lm = h.many in
      sym (take-map (number a) n (drop (n + j * n) cells))
      ∙ ap (take n) (sym (drop-map (number a) (n + j * n) cells))
      ∙ ap (λ (x : List N). take n (drop (n + j * n) x)) e
      ∙ ap (take n) (sym (drop-drop (j * n) n (s.fixed ++ J)))
      ∙ ap (λ (x : List N). take n (drop (j * n) x)) (drop_at s.fixed J n h.fixed_length)
      ∙ part_row n s.moves rest j h.moves_length (omega arith)) in
      λ i. record { fixed = f i; moves = m i }

  -- they lie in the main cells
  pub contents_front : (cells left : List C) → k ≤ n → take (main_cells n) left ≡ take (main_cells n) cells → contents_in a n k left ≡ contents_in a n k cells
  contents_front cells left few e =
      let m = mul-add n n 1 in
      let o = mul-one n in
      let same : (p : ℕ) → p + n ≤ main_cells n → part p n left ≡ part p n cells
      = λ p b. sym (part_front p n (main_cells n) left b) ∙ ap (part p n) e ∙ part_front p n (main_cells n) cells b in
      let f : take n left ≡ take n cells = same 0 (omega arith) in
      let g : moves_at a left n k ≡ moves_at a cells n k
      = same_moves left (moves_at a cells n k) (length_moves_at cells)
      (λ j b. let c = column_in j n n (omega arith) in ap (numbers a) (same (n + j * n) (omega arith)) ∙ sym (move_of cells j b)) in
      λ i. record { fixed = numbers a (f i); moves = g i }

  -- and have n numbers in each list
  pub contents_measured : (cells : List C) → k ≤ n → main_cells n ≤ length cells → Measured n k (contents_in a n k cells)
  contents_measured cells few room =
      let m = mul-add n n 1 in
      let o = mul-one n in
      record {
        fixed_length = length_numbers_part a cells 0 n (omega arith);
        moves_length = All-from_get_or (λ v. length v ≡ n) (moves_at a cells n k) []
            (λ j b. let jk : j < k = let l = length_moves_at cells in omega arith in
            let c = column_in j n n (omega arith) in
            ap length (move_of cells j jk) ∙ length_numbers_part a cells (n + j * n) n (omega arith));
        many = length_moves_at cells;
      }

module _ {N C : Type 0} (a : Arithmetic N C) (n k : ℕ) (s : Contents N) (h : Measured n k s) (few : k ≤ n) where
  each_long : (j : ℕ) → j < length s.moves → length (get_or s.moves j []) ≡ n
  each_long j b = All-get_or (λ v. length v ≡ n) s.moves j [] b h.moves_length

  pub length_main : length (main_of a n s) ≡ main_cells n
  length_main =
      let F = s.fixed in
      let J = flat_map (λ m. m) s.moves in
      let lf = h.fixed_length in
      let lm = h.many in
      let lj : length J ≡ length s.moves * n = sym (length-map J a.to_cell) ∙ length_rows a n s.moves each_long in
      let km = ap (λ (i : ℕ). i * n) lm in
      let e : k + (n - k) ≡ n = omega arith in
      let f = ap (λ (i : ℕ). i * n) e in
      let g = add-mul k (n - k) n in
      let q : (n - length s.moves) * n ≡ (n - k) * n = ap (λ (i : ℕ). (n - i) * n) lm in
      let m = mul-add n n 1 in
      let o = mul-one n in
      length-append (held a (F ++ J)) (zero_cells a ((n - length s.moves) * n))
      ∙ (let x = length-map (F ++ J) a.to_cell in let y = length-append F J in let w = length-replicate ((n - length s.moves) * n) (a.to_cell a.zero) in omega arith)

  -- the sheet that was written is read back
  pub reads_back : Laws a → (cells : List C) → contents_in a n k (sheet_cells a n s cells) ≡ s
  reads_back laws cells =
      let F = s.fixed in
      let J = flat_map (λ m. m) s.moves in
      let Z = zero_cells a ((n - length s.moves) * n) in
      let R = zero_cells a (spare_cells n) ++ drop (needed n) cells in
      contents_by a n k (sheet_cells a n s cells) s (numbers a (Z ++ R)) h
      (ap (numbers a) (append_assoc (held a (F ++ J)) Z R)
      ∙ map-append (number a) (held a (F ++ J)) (Z ++ R)
      ∙ ap (λ (x : List N). x ++ numbers a (Z ++ R)) (numbers_held a laws (F ++ J))
      ∙ append_assoc F J (numbers a (Z ++ R)))
