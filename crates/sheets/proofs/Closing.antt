-- What a posting leaves, written back cell by cell.
use Rattle.std.proofs.Common.{◌≡◌, ℕ, zero, suc, ◌+◌, ◌-◌, ◌*◌, ◌<◌, ◌≤◌, List, [], ◌∷◌, ◌++◌, map, length, get_or, take, sym, refl, ap, ◌∙◌, inr, ⊎_elim, mul-le-mul_right, zero-add, arith}
use Rattle.std.specs.List.{flat_map}
use Rattle.std.proofs.lemmas.List.{length-append, length-map, map-append, get_or-map}
use Rattle.std.proofs.lemmas.Bool.{cases_lt}
use Rattle.kinds.specs.Kind.{Arithmetic}
use Rattle.lines.specs.Page.{over}
use Rattle.plans.specs.Posting.{Column, without}
use Rattle.plans.proofs.Vectors.{without_length}
use Rattle.sheets.specs.Cells.{part, numbers, held, zero_cells, main_of}
use Rattle.sheets.specs.Work.{column_at, columns_at, Source, left_at}
use Rattle.sheets.proofs.Laying.{over_append}
use Rattle.sheets.proofs.Numbers.{length_numbers_part}
use Rattle.sheets.proofs.Places.{column_in}
use Rattle.sheets.proofs.Rounding.{column_of, length_columns}
use Rattle.sheets.proofs.Rows.{length_so_far, length_rows, rows_start, rows_more, rows_end}
use Rattle.sheets.proofs.Standing.{part_other}

-- a list without one place
without_before : {X : Type 0} (xs : List X) (l j : ℕ) (d : X) → j < l → l < length xs → get_or (without xs l) j d ≡ get_or xs j d
without_before [] l j d b h = absurd (omega arith)
without_before (x ∷ xs) zero j d b h = absurd (omega arith)
without_before (x ∷ xs) (suc l) zero d b h = refl
without_before (x ∷ xs) (suc l) (suc j) d b h = without_before xs l j d (omega arith) (omega arith)

without_behind : {X : Type 0} (xs : List X) (l j : ℕ) (d : X) → l ≤ j → get_or (without xs l) j d ≡ get_or xs (suc j) d
without_behind [] l j d b = refl
without_behind (x ∷ xs) zero j d b = refl
without_behind (x ∷ xs) (suc l) zero d b = absurd (omega arith)
without_behind (x ∷ xs) (suc l) (suc j) d b = without_behind xs l j d (omega arith)

module _ {N C : Type 0} (a : Arithmetic N C) (n p k l : ℕ) (start : List C) (main : n + n * n ≤ p) (few : k ≤ n) (room : p + ((n + 1) + k * (n + 1)) ≤ length start) (hl : l < k) where
  abbrev T : List (Column N)
  T = columns_at a start n (p + (n + 1)) k

  abbrev F : List N
  F = numbers a (part (p + 1) n start)

  abbrev L : List (List N)
  L = map (λ c. c.low) (without T l)

  pub length_L : length L ≡ k - 1
  length_L = length-map (without T l) (λ c. c.low) ∙ (let t = length_columns a n (p + (n + 1)) k start in let w = without_length T l (omega arith) in omega arith)

  length_F : length F ≡ n
  length_F = length_numbers_part a start (p + 1) n (omega arith)

  -- move j of those left stands in its column
  move_left : (j r : ℕ) → j < k - 1 → Source j l r → (r < k) × (get_or L j [] ≡ numbers a (part (p + (n + 1) + r * (n + 1) + 1) n start))
  move_left j r h s =
      let t = length_columns a n (p + (n + 1)) k start in
      let w = without_length T l (omega arith) in
      let d = column_at a start n 0 in
      let m : get_or L j [] ≡ (get_or (without T l) j d).low = get_or-map (λ (c : Column N). c.low) (without T l) j d [] (omega arith) in
      ⊎_elim
      (λ b. let e = s.before b in
      (omega arith, m ∙ ap (λ (c : Column N). c.low) (without_before T l j d b (omega arith) ∙ column_of a n (p + (n + 1)) k start j d (omega arith)) ∙ ap (λ (i : ℕ). numbers a (part (p + (n + 1) + i * (n + 1) + 1) n start)) (sym e)))
      (λ b. let e = s.behind b in
      let f : suc j ≡ r = omega arith in
      (omega arith, m ∙ ap (λ (c : Column N). c.low) (without_behind T l j d b ∙ column_of a n (p + (n + 1)) k start (suc j) d (omega arith)) ∙ ap (λ (i : ℕ). numbers a (part (p + (n + 1) + i * (n + 1) + 1) n start)) f))
      (cases_lt j l)

  each_long : (j : ℕ) → j < k - 1 → length (get_or L j []) ≡ n
  each_long j h = ⊎_elim (λ b. long (record { before = λ _. refl; behind = λ c. absurd (omega arith) })) (λ b. long (record { before = λ c. absurd (omega arith); behind = λ _. refl })) (cases_lt j l)
    where
      long : {r : ℕ} → Source j l r → length (get_or L j []) ≡ n
      long {r} s =
          let m = move_left j r h s in
          let c = column_in r k (n + 1) m.0 in
          ap length m.1 ∙ length_numbers_part a start (p + (n + 1) + r * (n + 1) + 1) n (omega arith)

  pub each_left : (j : ℕ) → j < length L → length (get_or L j []) ≡ n
  each_left j h = let ll = length_L in each_long j (omega arith)

  pub square : n + (k - 1) * n ≤ p
  square = let m : (k - 1) * n ≤ n * n = mul-le-mul_right n (omega arith) in omega arith

  room_left : n + length L * n ≤ length start
  room_left = let m = ap (λ (i : ℕ). i * n) length_L in let sq = square in omega arith

  abbrev SoFar : ℕ → List N
  SoFar j = flat_map (λ m. m) (take j L)

  pub close_start : start ≡ over start n (held a (SoFar 0))
  close_start = rows_start a n L each_left start n

  pub close_more : (j r to from : ℕ) (now next : List C) → j < k - 1 → Source j l r → to ≡ n + j * n → from ≡ p + (n + 1) + r * (n + 1) → now ≡ over start n (held a (SoFar j)) → next ≡ over now to (held a (numbers a (part (from + 1) n now))) → next ≡ over start n (held a (SoFar (j + 1)))
  close_more j r to from now next h s et ef e f =
      let m = move_left j r h s in
      let c = column_in r k (n + 1) m.0 in
      let ll = length_L in
      let lh : length (held a (SoFar j)) ≡ j * n = length_so_far a n L each_left j (omega arith) in
      let sq = square in
      let jn : j * n ≤ (k - 1) * n = mul-le-mul_right n (omega arith) in
      let v : numbers a (part (from + 1) n now) ≡ get_or L j []
      = ap (numbers a) ((λ i. part (ef i + 1) n (e i)) ∙ part_other (a.to_cell a.zero) start (held a (SoFar j)) n (p + (n + 1) + r * (n + 1) + 1) n (omega arith) (omega arith) (inr (omega arith))) ∙ sym m.1 in
      rows_more a n L each_left start now next n to j room_left (omega arith) et e (f ∙ ap (λ (x : List N). over now to (held a x)) v)

  pub close_end : (j : ℕ) (now : List C) → j ≡ k - 1 → now ≡ over start n (held a (SoFar j)) → now ≡ over start n (held a (flat_map (λ m. m) L))
  close_end j now e s = rows_end a n L each_left start now n j (e ∙ sym length_L) s

  length_moves : length (held a (flat_map (λ m. m) L)) ≡ (k - 1) * n
  length_moves = length_rows a n L each_left ∙ ap (λ (i : ℕ). i * n) length_L

  -- the fixed plan, the moves, and zeros behind them
  pub closed_up : (ds es fs : List C) → ds ≡ over start 0 (held a F) → (left_at a ds n p k l).moves ≡ L → es ≡ over ds n (held a (flat_map (λ m. m) (left_at a ds n p k l).moves)) → fs ≡ over es (n + (k - 1) * n) (zero_cells a ((n - (k - 1)) * n))
      → fs ≡ over start 0 (main_of a n (left_at a start n p k l))
  closed_up ds es fs ed el ee ef =
      let lf : length (held a F) ≡ n = length-map F a.to_cell ∙ length_F in
      let lm = length_moves in
      let ll = length_L in
      let sq = square in
      let J = flat_map (λ m. m) L in
      let z = zero-add (length (held a F)) in
      let e1 : es ≡ over start 0 (held a (F ++ J))
      = ee ∙ ap (λ (x : List (List N)). over ds n (held a (flat_map (λ m. m) x))) el ∙ ap (λ (x : List C). over x n (held a J)) ed
      ∙ ap (λ (i : ℕ). over (over start 0 (held a F)) i (held a J)) (omega arith) ∙ over_append start (held a F) (held a J) 0 (omega arith) ∙ ap (over start 0) (sym (map-append a.to_cell F J)) in
      let lj : length (held a (F ++ J)) ≡ n + (k - 1) * n = ap length (map-append a.to_cell F J) ∙ length-append (held a F) (held a J) ∙ omega arith in
      let y = zero-add (length (held a (F ++ J))) in
      ef ∙ ap (λ (x : List C). over x (n + (k - 1) * n) (zero_cells a ((n - (k - 1)) * n))) e1
      ∙ ap (λ (i : ℕ). over (over start 0 (held a (F ++ J))) i (zero_cells a ((n - (k - 1)) * n))) (omega arith)
      ∙ over_append start (held a (F ++ J)) (zero_cells a ((n - (k - 1)) * n)) 0 (omega arith)
      ∙ ap (λ (i : ℕ). over start 0 (held a (F ++ J) ++ zero_cells a ((n - i) * n))) (sym ll)
