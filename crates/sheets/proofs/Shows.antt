-- Numbers written to a page, a line for each row of cells.
use Rattle.std.proofs.Common.{◌≡◌, ℕ, zero, suc, ◌+◌, ◌*◌, ◌<◌, ◌≤◌, List, [], ◌++◌, map, length, sym, ap, ◌∙◌, add-zero, mul-le-mul_right, suc-mul, add-one, arith}
use Rattle.std.specs.List.{flat_map}
use Rattle.std.proofs.lemmas.List.FromFn.{map-range_with_len_more}
use Rattle.std.proofs.lemmas.List.{length-append, length-map, length_push, flat_map_more}
use Rattle.kinds.specs.Kind.{Arithmetic}
use Rattle.lines.specs.Line.{line_text}
use Rattle.lines.specs.Page.{Model, between, with_text, HasRoom}
use Rattle.lines.proofs.Filling.{length_joined}
use Rattle.sheets.specs.Cells.{part, numbers, move_at, moves_at, contents_in}
use Rattle.sheets.specs.Showing.{row_text, shown_text}
use Rattle.sheets.proofs.Laying.{over_append}
use Rattle.sheets.proofs.Numbers.{length_numbers_part}
use Rattle.sheets.proofs.Places.{column_in}
use Rattle.sheets.proofs.Standing.{length_over}
use Rattle.sheets.proofs.Walks.{over_nothing}

-- no text put at the end of a page that is between lines
pub no_text : (m : Model) (s : List ℕ) (p : Model) → p ≡ with_text m s → p ≡ with_text p []
no_text m s p e = e ∙ sym (none (with_text m s).bytes (with_text m s).end) ∙ sym (ap (λ (x : Model). with_text x []) e)
  where
    none : (b : List ℕ) (e : ℕ) → with_text (between b e) [] ≡ between b e
    none b e = λ j. between (over_nothing b e j) (add-zero e j)

-- one text behind another
pub text_behind : (m : Model) (s t : List ℕ) → m.end + length s ≤ length m.bytes → with_text (with_text m s) t ≡ with_text m (s ++ t)
text_behind m s t h =
    let l : m.end + length s + length t ≡ m.end + length (s ++ t) = let k = length-append s t in omega arith in
    λ j. between (over_append m.bytes s t m.end h j) (l j)

pub text_keeps : (m : Model) (s : List ℕ) → m.end + length s ≤ length m.bytes → length (with_text m s).bytes ≡ length m.bytes
text_keeps m s h = length_over m.bytes s m.end h

module _ {N C : Type 0} (a : Arithmetic N C) where
  -- a line has 5 + 8 × n bytes with its line feed
  pub length_row : (frame n : ℕ) (row : List N) → length row ≡ n → length (row_text a frame row) ≡ 5 + 8 * n
  length_row frame n row l =
      let ws = map a.write row in
      let lw : length ws ≡ n = length-map row a.write ∙ l in
      let j = length_joined ws in
      let p = length_push (line_text frame ws) 10 in
      omega (arith, j, p, lw)

  -- the lines of the first moves
  abbrev pub move_texts : List C → ℕ → ℕ → List ℕ
  move_texts cells n j = flat_map (row_text a 132) (moves_at a cells n j)

  module _ (cells : List C) (n k : ℕ) (main : n + k * n ≤ length cells) where
    texts_more : (j : ℕ) → move_texts cells n (j + 1) ≡ move_texts cells n j ++ row_text a 132 (move_at a cells n j)
    texts_more j =
        ap (flat_map (row_text a 132)) (map-range_with_len_more (move_at a cells n) 0 j j (omega arith))
        ∙ sym (flat_map_more (row_text a 132) [] (moves_at a cells n j) (move_at a cells n j))

    length_move : (j : ℕ) → j < k → length (row_text a 132 (move_at a cells n j)) ≡ 5 + 8 * n
    length_move j h =
        let b = column_in j k n h in
        length_row 132 n (move_at a cells n j) (length_numbers_part a cells (n + j * n) n (omega arith))

    length_texts : (j : ℕ) → j ≤ k → length (move_texts cells n j) ≡ j * (5 + 8 * n)
    length_texts zero h = omega arith
    length_texts (suc j) h =
        let i = length_texts j (omega arith) in
        let t = ap length (texts_more j) ∙ length-append (move_texts cells n j) (row_text a 132 (move_at a cells n j)) in
        let l = length_move j (omega arith) in
        let q = suc-mul j (5 + 8 * n) in
        ap (λ (x : ℕ). length (move_texts cells n x)) (sym (add-one j)) ∙ omega (arith, i, t, l, q)

    -- the page m, and m1 with the fixed plan's line at its end
    module _ (m m1 : Model) (fits : m.end + (k + 1) * (5 + 8 * n) ≤ length m.bytes) (fixed : m1 ≡ with_text m (row_text a 131 (numbers a (part 0 n cells)))) where
      length_fixed : length (row_text a 131 (numbers a (part 0 n cells))) ≡ 5 + 8 * n
      length_fixed = length_row 131 n (numbers a (part 0 n cells)) (length_numbers_part a cells 0 n (omega arith))

      end_one : m1.end ≡ m.end + (5 + 8 * n)
      end_one = ap (λ (x : Model). x.end) fixed ∙ ap (λ (x : ℕ). m.end + x) length_fixed

      bytes_one : length m1.bytes ≡ length m.bytes
      bytes_one =
          let q = suc-mul k (5 + 8 * n) in
          let f = length_fixed in
          ap (λ (x : Model). length x.bytes) fixed ∙ text_keeps m (row_text a 131 (numbers a (part 0 n cells))) (omega (arith, add-one k, q, f, fits))

      -- what is left of the page takes the moves from j on
      left_room : (j : ℕ) → j ≤ k → m1.end + length (move_texts cells n j) ≤ length m1.bytes
      left_room j h =
          let e = end_one in
          let b = bytes_one in
          let t = length_texts j h in
          let q = suc-mul k (5 + 8 * n) in
          let p : j * (5 + 8 * n) ≤ k * (5 + 8 * n) = mul-le-mul_right (5 + 8 * n) h in
          omega (arith, e, b, t, q, p, fits)

      pub rows_room : (p : Model) (j : ℕ) → j < k → p ≡ with_text m1 (move_texts cells n j) → HasRoom p (5 + 8 * n)
      rows_room p j h e =
          let f = ap (λ (x : Model). x.end) e in
          let r = left_room j (omega arith) in
          let b = ap (λ (x : Model). length x.bytes) e ∙ text_keeps m1 (move_texts cells n j) r ∙ bytes_one in
          let t = length_texts j (omega arith) in
          let o = end_one in
          let q = suc-mul k (5 + 8 * n) in
          let c = column_in j k (5 + 8 * n) h in
          record { idle = ap (λ (x : Model). x.begun) e; room = omega (arith, f, b, t, o, q, c, fits) }

      pub shows_more : (p q : Model) (j from : ℕ) → j < k → from ≡ n + j * n → p ≡ with_text m1 (move_texts cells n j) → q ≡ with_text p (row_text a 132 (numbers a (part from n cells))) → q ≡ with_text m1 (move_texts cells n (j + 1))
      shows_more p q j from h ef ep eq =
          eq
          ∙ (λ i. with_text (ep i) (row_text a 132 (numbers a (part (ef i) n cells))))
          ∙ text_behind m1 (move_texts cells n j) (row_text a 132 (move_at a cells n j)) (left_room j (omega arith))
          ∙ ap (with_text m1) (sym (texts_more j))

      pub shows_end : (p : Model) (j : ℕ) → j ≡ k → p ≡ with_text m1 (move_texts cells n j) → p ≡ with_text m (shown_text a (contents_in a n k cells))
      shows_end p j ej ep =
          let q = suc-mul k (5 + 8 * n) in
          let f = length_fixed in
          ep
          ∙ (λ i. with_text (fixed i) (move_texts cells n (ej i)))
          ∙ text_behind m (row_text a 131 (numbers a (part 0 n cells))) (move_texts cells n k) (omega (arith, q, f, fits))
