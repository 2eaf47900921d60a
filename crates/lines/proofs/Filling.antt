-- A line that is begun, filled and closed is its text at the page's end, with zeroes behind one that was not full; one
-- that is given up leaves zeroes. And when a line can begin, and a text has room.
use Rattle.std.proofs.Common.{◌≡◌, ℕ, suc, ◌+◌, ◌-◌, ◌*◌, ◌≤◌, Bool, true, false, cond, ltb, List, [], ◌∷◌, ◌++◌, length, take, drop, replicate, fold, ℤ, Some, None, Ok, Option, sym, refl, ap, ◌∙◌, add-zero, arith}
use Rattle.std.specs.List.{flat_map}
use Rattle.std.proofs.lemmas.Bool.{ltb-false, le-ltb}
use Rattle.faults.specs.declared.PageFault.{PageFault}
use Rattle.faults.specs.declared.PageFault.TheVariants.{NoRoom, LineBegun, NoLine, TooMany}
use Rattle.faults.specs.Refusing.{left_unless}
use Rattle.faults.proofs.Refusing.{ok_not_refused}
use Rattle.lines.specs.declared.page.LineToken.{LineToken}
use Rattle.std.proofs.lemmas.List.{append_assoc, append-nil, length-append, length-take-le, length-replicate, length_push, take_at, drop_at, replicate-append-replicate, flat_map_more}
use Rattle.lines.specs.Hex.{text, word_text}
use Rattle.lines.specs.Line.{most_numbers, line_feed, written_length, line_text, written_text}
use Rattle.lines.specs.Page.{over, with_zeroes, Model, between, begun_page, with_word, closed_page, page_given_up, with_text, begin_refusal, begin_answer, begin_left, close_left, line_token, write_answer, write_left, HasRoom}
use Rattle.lines.specs.PageLaws.{ShortLine, GivenUp, RoomExact}

pub over_inside : {X : Type 0} (d : List X) (at x : ℕ) (p q q' r : List X) → x ≡ at + length p → length q ≡ length q' → at ≤ length d
    → over (over d at (p ++ (q ++ r))) x q' ≡ over d at (p ++ (q' ++ r))
over_inside {X} d at x p q q' r e lq le =
    let T = take at d in
    let D = drop (at + length (p ++ (q ++ r))) d in
    let D' = drop (at + length (p ++ (q' ++ r))) d in
    let lT : length T ≡ at = length-take-le at d le in
    let split : T ++ ((p ++ (q ++ r)) ++ D) ≡ (T ++ p) ++ (q ++ (r ++ D)) = simp append_assoc in
    let split2 : T ++ ((p ++ (q ++ r)) ++ D) ≡ ((T ++ p) ++ q) ++ (r ++ D) = simp append_assoc in
    let n1 : length (T ++ p) ≡ x = simp length-append (omega arith) in
    let n2 : length ((T ++ p) ++ q) ≡ x + length q' = simp length-append (omega arith) in
    let same : length (p ++ (q ++ r)) ≡ length (p ++ (q' ++ r)) = simp length-append (omega arith) in
    let t1 : take x (T ++ ((p ++ (q ++ r)) ++ D)) ≡ T ++ p = ap (take x) split ∙ take_at (T ++ p) (q ++ (r ++ D)) x n1 in
    let d1 : drop (x + length q') (T ++ ((p ++ (q ++ r)) ++ D)) ≡ r ++ D = ap (drop (x + length q')) split2 ∙ drop_at ((T ++ p) ++ q) (r ++ D) (x + length q') n2 in
    let dd : D ≡ D' = ap (λ (n : ℕ). drop (at + n) d) same in
    let last : (T ++ p) ++ (q' ++ (r ++ D')) ≡ T ++ ((p ++ (q' ++ r)) ++ D') = simp append_assoc in
    ap (λ (a : List X). a ++ (q' ++ drop (x + length q') (T ++ ((p ++ (q ++ r)) ++ D)))) t1
    ∙ ap (λ (b : List X). (T ++ p) ++ (q' ++ b)) d1
    ∙ ap (λ (b : List X). (T ++ p) ++ (q' ++ (r ++ b))) dd
    ∙ last

-- n zeroes
abbrev zeros : ℕ → List ℕ
zeros n = replicate n 0

abbrev two_zeros : List ℕ
two_zeros = 0 ∷ 0 ∷ []

pub length_joined : (us : List ℤ) → length (flat_map word_text us) ≡ 8 * length us
length_joined [] = refl
length_joined (u ∷ us) = let e = length-append (word_text u) (flat_map word_text us) in let f = length_joined us in omega arith

joined_push : (us : List ℤ) (w : ℤ) → flat_map word_text us ++ word_text w ≡ flat_map word_text (us ++ w ∷ [])
joined_push us w = flat_map_more word_text [] us w

zeroed_over : (d : List ℕ) (at k : ℕ) → with_zeroes d at k ≡ over d at (zeros k)
zeroed_over d at k = ap (λ (i : ℕ). take at d ++ (zeros k ++ drop (at + i) d)) (sym (length-replicate k 0))

module _ (m : Model) (frame n : ℕ) (fits : m.end + written_length n ≤ length m.bytes) where
  -- the page with the numbers us put and room for k more
  filled : List ℤ → ℕ → Model
  filled us k = record { bytes = over m.bytes m.end (text 2 frame ++ (two_zeros ++ (flat_map word_text us ++ zeros (8 * k + 1)))); end = m.end; begun = true; room = n; put = length us }

  began_filled : begun_page m frame n ≡ filled [] n
  unfolding filled
  began_filled =
      let d = m.bytes in
      let at = m.end in
      let z : zeros (5 + 8 * n) ≡ zeros 2 ++ zeros (3 + 8 * n) = ap zeros (omega arith) ∙ sym (replicate-append-replicate 2 (3 + 8 * n) 0) in
      let z2 : zeros (3 + 8 * n) ≡ two_zeros ++ zeros (8 * n + 1) = ap zeros (omega arith) ∙ sym (replicate-append-replicate 2 (8 * n + 1) 0) in
      let a = zeroed_over d at (5 + 8 * n) in
      let b : over (over d at (zeros 2 ++ zeros (3 + 8 * n))) at (text 2 frame) ≡ over d at (text 2 frame ++ zeros (3 + 8 * n)) = over_inside d at at [] (zeros 2) (text 2 frame) (zeros (3 + 8 * n)) (sym (add-zero at)) refl (omega arith) in
      ap (λ (bs : List ℕ). record { bytes = bs; end = at; begun = true; room = n; put = 0 })
      (ap (λ (x : List ℕ). over x at (text 2 frame)) (a ∙ ap (over d at) z) ∙ b ∙ ap (λ (x : List ℕ). over d at (text 2 frame ++ x)) z2)

  word_filled : (us : List ℤ) (k : ℕ) (w : ℤ) → with_word (filled us (suc k)) w ≡ filled (us ++ w ∷ []) k
  unfolding filled
  word_filled us k w =
      let d = m.bytes in
      let at = m.end in
      let J = flat_map word_text us in
      let P = text 2 frame ++ (two_zeros ++ J) in
      let z : zeros (8 * suc k + 1) ≡ zeros 8 ++ zeros (8 * k + 1) = ap zeros (omega arith) ∙ sym (replicate-append-replicate 8 (8 * k + 1) 0) in
      let s : text 2 frame ++ (two_zeros ++ (J ++ (zeros 8 ++ zeros (8 * k + 1)))) ≡ P ++ (zeros 8 ++ zeros (8 * k + 1)) = simp append_assoc in
      let x : at + (4 + 8 * length us) ≡ at + length P = let e = length_joined us in omega arith in
      let i = over_inside d at (at + (4 + 8 * length us)) P (zeros 8) (word_text w) (zeros (8 * k + 1)) x refl (omega arith) in
      let t : P ++ (word_text w ++ zeros (8 * k + 1)) ≡ text 2 frame ++ (two_zeros ++ ((J ++ word_text w) ++ zeros (8 * k + 1))) = simp append_assoc in
      let j : text 2 frame ++ (two_zeros ++ ((J ++ word_text w) ++ zeros (8 * k + 1))) ≡ text 2 frame ++ (two_zeros ++ (flat_map word_text (us ++ w ∷ []) ++ zeros (8 * k + 1))) = ap (λ (y : List ℕ). text 2 frame ++ (two_zeros ++ (y ++ zeros (8 * k + 1)))) (joined_push us w) in
      let c : length us + 1 ≡ length (us ++ w ∷ []) = sym (length_push us w) in
      ap (λ (bs : List ℕ). record { bytes = bs; end = at; begun = true; room = n; put = length us + 1 })
      (ap (λ (y : List ℕ). over (over d at y) (at + (4 + 8 * length us)) (word_text w)) (ap (λ (y : List ℕ). text 2 frame ++ (two_zeros ++ (J ++ y))) z ∙ s) ∙ i ∙ ap (over d at) (t ∙ j))
      ∙ ap (λ (q : ℕ). record { bytes = over d at (text 2 frame ++ (two_zeros ++ (flat_map word_text (us ++ w ∷ []) ++ zeros (8 * k + 1)))); end = at; begun = true; room = n; put = q }) c

  -- the numbers ws put behind us, where j have room and k of them are left
  puts_filled : (us ws : List ℤ) (j k : ℕ) → j ≡ length ws + k → fold with_word (filled us j) ws ≡ filled (us ++ ws) k
  puts_filled us [] j k e = let z : j ≡ k = omega arith in ap (filled us) z ∙ ap (λ (x : List ℤ). filled x k) (sym (append-nil us))
  puts_filled us (w ∷ ws) j k e =
      ap (λ (i : ℕ). fold with_word (filled us i) (w ∷ ws)) (omega arith)
      ∙ ap (λ (x : Model). fold with_word x ws) (word_filled us (length ws + k) w)
      ∙ puts_filled (us ++ w ∷ []) ws (length ws + k) k refl
      ∙ ap (λ (x : List ℤ). filled x k) (append_assoc us (w ∷ []) ws)

  -- a line closed with room for k numbers more
  closed_filled : (ws : List ℤ) (k : ℕ) → closed_page (filled ws k)
      ≡ between (over m.bytes m.end (line_text frame ws ++ line_feed ∷ zeros (8 * k))) (m.end + written_length (length ws))
  unfolding filled
  closed_filled ws k =
      let d = m.bytes in
      let at = m.end in
      let J = flat_map word_text ws in
      let i = over_inside d at (at + 2) (text 2 frame) two_zeros (text 2 (length ws)) (J ++ zeros (8 * k + 1)) refl refl (omega arith) in
      let P = text 2 frame ++ (text 2 (length ws) ++ J) in
      let z : zeros (8 * k + 1) ≡ zeros 1 ++ zeros (8 * k) = ap zeros (omega arith) ∙ sym (replicate-append-replicate 1 (8 * k) 0) in
      let s : text 2 frame ++ (text 2 (length ws) ++ (J ++ (zeros 1 ++ zeros (8 * k)))) ≡ P ++ (zeros 1 ++ zeros (8 * k)) = simp append_assoc in
      let e = length_joined ws in
      let x : at + (4 + 8 * length ws) ≡ at + length P = omega arith in
      let l = over_inside d at (at + (4 + 8 * length ws)) P (zeros 1) (10 ∷ []) (zeros (8 * k)) x refl (omega arith) in
      let t : P ++ ((10 ∷ []) ++ zeros (8 * k)) ≡ line_text frame ws ++ 10 ∷ zeros (8 * k) = refl in
      let b = ap (λ (y : List ℕ). over y (at + (4 + 8 * length ws)) (10 ∷ [])) (i ∙ ap (over d at) (ap (λ (y : List ℕ). text 2 frame ++ (text 2 (length ws) ++ (J ++ y))) z ∙ s)) ∙ l ∙ ap (over d at) t in
      ap (λ (y : List ℕ). between y (at + (5 + 8 * length ws))) b

  -- a line given up with room for k numbers more
  given_filled : (us : List ℤ) (k : ℕ) → n ≡ length us + k → page_given_up (filled us k)
      ≡ between (with_zeroes m.bytes m.end (written_length n)) m.end
  unfolding filled
  given_filled us k e =
      let d = m.bytes in
      let at = m.end in
      let S = text 2 frame ++ (two_zeros ++ (flat_map word_text us ++ zeros (8 * k + 1))) in
      let O = zeros (5 + 8 * n) in
      let j = length_joined us in
      let p = length-append (flat_map word_text us) (zeros (8 * k + 1)) in
      let q : length (zeros (8 * k + 1)) ≡ 8 * k + 1 = length-replicate (8 * k + 1) 0 in
      let r : length O ≡ 5 + 8 * n = length-replicate (5 + 8 * n) 0 in
      let l : length S ≡ length O = omega arith in
      let i = over_inside d at at [] S O [] (sym (add-zero at)) l (omega arith) in
      ap (λ (y : List ℕ). between y at)
      (zeroed_over (over d at S) at (5 + 8 * n)
      ∙ ap (λ (y : List ℕ). over (over d at y) at O) (sym (append-nil S))
      ∙ i
      ∙ ap (over d at) (append-nil O)
      ∙ sym (zeroed_over d at (5 + 8 * n)))

  all_put : (ws : List ℤ) → length ws ≤ n → fold with_word (begun_page m frame n) ws ≡ filled ws (n - length ws)
  all_put ws h = ap (λ (x : Model). fold with_word x ws) began_filled ∙ puts_filled [] ws n (n - length ws) (omega arith)

pub line_stands : (m : Model) (frame : ℕ) (ws : List ℤ) → m.end + written_length (length ws) ≤ length m.bytes
    → closed_page (fold with_word (begun_page m frame (length ws)) ws) ≡ with_text m (written_text frame ws)
line_stands m frame ws fits =
    let l : m.end + written_length (length ws) ≡ m.end + length (written_text frame ws) = let e = length_joined ws in let f = length_push (line_text frame ws) line_feed in omega arith in
    ap closed_page (ap (λ (x : Model). fold with_word x ws) (began_filled m frame (length ws) fits) ∙ puts_filled m frame (length ws) fits [] ws (length ws) 0 (omega arith))
    ∙ closed_filled m frame (length ws) fits ws 0
    ∙ ap (between (over m.bytes m.end (written_text frame ws))) l

-- a line can begin
pub begins : (m : Model) (n : ℕ) → begin_refusal m n ≡ None → (m.end + written_length n ≤ length m.bytes) × (n ≤ most_numbers)
begins m n e = by m.begun (ltb (length m.bytes) (m.end + written_length n)) (ltb most_numbers n) refl refl e
  where
    by : (b t u : Bool) → ltb (length m.bytes) (m.end + written_length n) ≡ t → ltb most_numbers n ≡ u
        → cond b (Some LineBegun) (cond t (Some NoRoom) (cond u (Some TooMany) None)) ≡ None
        → (m.end + written_length n ≤ length m.bytes) × (n ≤ most_numbers)
    by true t u p q e = absurd cc
    by false true u p q e = absurd cc
    by false false true p q e = absurd cc
    by false false false p q e = (ltb-false (length m.bytes) (m.end + written_length n) p, ltb-false most_numbers n q)

-- a line that was begun
pub begun_stands : (m after : Model) (frame n : ℕ) (token : LineToken) → begin_answer m n ≡ Ok token → after ≡ begin_left m frame n
    → (begin_refusal m n ≡ None) × (after ≡ begun_page m frame n)
begun_stands m after frame n token a l =
    let r = (ok_not_refused (begin_refusal m n) line_token token a).0 in (
      r,
      l ∙ ap (λ (o : Option PageFault). left_unless o m (begun_page m frame n)) r,
    )

-- a whole line that was written
pub written_stands : (m after : Model) (frame : ℕ) (ws : List ℤ) (done : Unit {0}) → write_answer m ws ≡ Ok done
    → after ≡ write_left m frame ws → after ≡ with_text m (written_text frame ws)
written_stands m after frame ws done a l =
    l
    ∙ ap (λ (o : Option PageFault). left_unless o m (with_text m (written_text frame ws)))
    (ok_not_refused (begin_refusal m (length ws)) tt done a).0

-- closing a begun line
pub close_begun : (m : Model) → m.begun ≡ true → close_left m ≡ closed_page m
close_begun m b = λ j. left_unless (cond (b j) None (Some NoLine)) m (closed_page m)

pub short_line : ShortLine
short_line m frame room ws b h =
    let fits = (begins m room b).0 in
    let z = zeros (8 * (room - length ws)) in
    ap closed_page (all_put m frame room fits ws h)
    ∙ closed_filled m frame room fits ws (room - length ws)
    ∙ ap (λ (s : List ℕ). between (over m.bytes m.end s) (m.end + written_length (length ws)))
    (sym (append_assoc (line_text frame ws) (line_feed ∷ []) z))

pub given_line : GivenUp
given_line m frame room ws b h =
    let fits = (begins m room b).0 in
    ap page_given_up (all_put m frame room fits ws h) ∙ given_filled m frame room fits ws (room - length ws) (omega arith)

-- room for a text
pub room_exact : RoomExact
room_exact m len = (
  λ h. (λ j. cond (h.idle j) (Some LineBegun) (cond (le-ltb (length m.bytes) (m.end + len) h.room j) (Some NoRoom) None)),
  by m.begun (ltb (length m.bytes) (m.end + len)) refl refl,
)
  where
    by : (b t : Bool) → m.begun ≡ b → ltb (length m.bytes) (m.end + len) ≡ t → cond b (Some LineBegun) (cond t (Some NoRoom) None) ≡ None → HasRoom m len
    by true t p q e = absurd cc
    by false true p q e = absurd cc
    by false false p q e = record { idle = p; room = ltb-false (length m.bytes) (m.end + len) q }
