-- Columns laid one behind another, and multiplied one after another.
use Rattle.std.proofs.Common.{◌≡◌, ℕ, ◌+◌, ◌-◌, ◌*◌, ◌<◌, ◌≤◌, ◌≢◌, List, [], ◌∷◌, ◌++◌, length, get_or, take, drop, set, Some, None, Option, sym, refl, ap, ◌∙◌, inl, add-zero, arith}
use Rattle.std.proofs.lemmas.List.FromFn.{length-map-range_with_len, get_or-map-range_with_len, map-range_with_len_more}
use Rattle.std.proofs.lemmas.List.{append_assoc, length-append, length-map, length-take-le, take_at, drop_at, drop-drop, drop-take, take-take, take_all, take_more, drop_more, take-append-drop}
use Rattle.kinds.specs.Kind.{Arithmetic, Laws}
use Rattle.lines.specs.Page.{over}
use Rattle.plans.specs.Posting.{then, Column, running, adds_column, blank, topped, normalised}
use Rattle.sheets.specs.Cells.{part, numbers, held, move_at, moves_at}
use Rattle.sheets.specs.Work.{Only, column_at, columns_at, Laid}
use Rattle.sheets.proofs.Numbers.{length_numbers_part}
use Rattle.sheets.proofs.Places.{column_in}
use Rattle.sheets.specs.Combining.{Within}
use Rattle.sheets.proofs.Limits.{only_within, within_trans}
use Rattle.sheets.proofs.Rounding.{column_other, column_of, columns_kept, length_columns, columns_apart}
use Rattle.sheets.proofs.Standing.{part_other, column_put}
use Rattle.sheets.proofs.Walks.{over_nothing, over_push}

-- put over behind what was put over
pub over_append : {X : Type 0} (cells s t : List X) (p : ℕ) → p + length s ≤ length cells → over (over cells p s) (p + length s) t ≡ over cells p (s ++ t)
over_append {X} cells s t p h =
    let T = take p cells in
    let D = drop (p + length s) cells in
    let l : length (T ++ s) ≡ p + length s = length-append T s ∙ ap (λ (m : ℕ). m + length s) (length-take-le p cells (omega arith)) in
    let e : over cells p s ≡ (T ++ s) ++ D = sym (append_assoc T s D) in
    let f : take (p + length s) (over cells p s) ≡ T ++ s = ap (take (p + length s)) e ∙ take_at (T ++ s) D (p + length s) l in
    let g : drop (p + length s + length t) (over cells p s) ≡ drop (p + length (s ++ t)) cells
    = sym (drop-drop (length t) (p + length s) (over cells p s)) ∙ ap (drop (length t)) (ap (drop (p + length s)) e ∙ drop_at (T ++ s) D (p + length s) l)
    ∙ drop-drop (length t) (p + length s) cells ∙ ap (λ (m : ℕ). drop m cells) (let k = length-append s t in omega arith) in
    (λ j. f j ++ (t ++ g j)) ∙ append_assoc T s (t ++ drop (p + length (s ++ t)) cells) ∙ ap (λ (x : List X). T ++ x) (sym (append_assoc s t (drop (p + length (s ++ t)) cells)))

-- what stands before a change is left
front_part : {C : Type 0} (p q m : ℕ) (xs : List C) → q + m ≤ p → part q m (take p xs) ≡ part q m xs
front_part p q m xs b =
    let k : (q + (p - q)) ≡ p = omega arith in
    ap (λ (n : ℕ). take m (drop q (take n xs))) (sym k) ∙ ap (take m) (drop-take q (p - q) xs) ∙ take-take m (p - q) (drop q xs) (omega arith)

pub part_before : {C : Type 0} (p h q m : ℕ) (cs ds : List C) → Within p h cs ds → q + m ≤ p → part q m ds ≡ part q m cs
part_before p h q m cs ds w b = sym (front_part p q m ds b) ∙ ap (part q m) w.front ∙ front_part p q m cs b

module _ {N C : Type 0} (a : Arithmetic N C) (laws : Laws a) where
  -- a column laid by a write and a copy
  pub laid : (cs ds es : List C) (n to from : ℕ) (top : N) → to + (n + 1) ≤ length cs → from + n ≤ to → ds ≡ set cs to (a.to_cell top) → es ≡ over ds (to + 1) (held a (numbers a (part from n ds))) → Laid a n to top from cs es
  laid cs ds es n to from top h b ed ee =
      let z = a.to_cell a.zero in
      let x = a.to_cell top in
      let V = numbers a (part from n cs) in
      let d : ds ≡ over cs to (x ∷ [])
      = ed ∙ ap (λ (t : List C). set t to x) (sym (over_nothing cs to)) ∙ ap (λ (m : ℕ). set (over cs to []) m x) (sym (add-zero to)) ∙ over_push cs [] to x (omega arith) in
      let v : numbers a (part from n ds) ≡ V = ap (numbers a) (ap (part from n) d ∙ part_other z cs (x ∷ []) to from n (omega arith) (omega arith) (inl b)) in
      let e : es ≡ over cs to (held a (top ∷ V)) = ee ∙ (λ j. over (d j) (to + 1) (held a (v j))) ∙ over_append cs (x ∷ []) (held a V) to (omega arith) in
      let l : length (top ∷ V) ≡ n + 1 = let k = length_numbers_part a cs from n (omega arith) in omega arith in (
        column_put a laws cs es n to (record { top = top; low = V }) (top ∷ V) h l refl e,
        (held a (top ∷ V), (length-map (top ∷ V) a.to_cell ∙ l, e)),
      )

module _ {N C : Type 0} (a : Arithmetic N C) (n p : ℕ) where
  -- one column more
  pub columns_push : (cs : List C) (j : ℕ) → columns_at a cs n p (j + 1) ≡ columns_at a cs n p j ++ column_at a cs n (p + j * (n + 1)) ∷ []
  columns_push cs j = map-range_with_len_more (λ i. column_at a cs n (p + i * (n + 1))) 0 j j (omega arith)

-- definitions by lists, one element more at their end
module _ {N C : Type 0} (a : Arithmetic N C) where
  topped_push : (cs : List N) (vs : List (List N)) (v : List N) (ds : List (Column N)) (t : N) → topped a cs vs ≡ Some ds → running a a.zero cs v ≡ Some t → topped a cs (vs ++ v ∷ []) ≡ Some (ds ++ record { top = t; low = v } ∷ [])
  topped_push cs [] v ds t e f =
      let z : [] ≡ ds = cc in
      ap (λ (o : Option N). then o (λ t. then (Some []) (λ ds. Some (record { top = t; low = v } ∷ ds)))) f ∙ ap (λ (x : List (Column N)). Some (x ++ record { top = t; low = v } ∷ [])) z
  topped_push cs (w ∷ vs) v ds t e f = by (running a a.zero cs w) (topped a cs vs) refl e (λ es h. topped_push cs vs v es t h f)
    where
      by : (o : Option N) (s : Option (List (Column N))) → topped a cs vs ≡ s → then o (λ t. then s (λ ds. Some (record { top = t; low = w } ∷ ds))) ≡ Some ds
          → ((es : List (Column N)) → topped a cs vs ≡ Some es → topped a cs (vs ++ v ∷ []) ≡ Some (es ++ record { top = t; low = v } ∷ []))
          → then o (λ t. then (topped a cs (vs ++ v ∷ [])) (λ ds. Some (record { top = t; low = w } ∷ ds))) ≡ Some (ds ++ record { top = t; low = v } ∷ [])
      by None s h e rest = absurd cc
      by (Some u) None h e rest = absurd cc
      by (Some u) (Some es) h e rest =
          let z : record { top = u; low = w } ∷ es ≡ ds = cc in
          ap (λ (o : Option (List (Column N))). then o (λ ds. Some (record { top = u; low = w } ∷ ds))) (rest es h) ∙ ap (λ (x : List (Column N)). Some (x ++ record { top = t; low = v } ∷ [])) z

  topped_none : (cs : List N) (vs ws : List (List N)) (v : List N) → running a a.zero cs v ≡ None → topped a cs (vs ++ v ∷ ws) ≡ None
  topped_none cs [] ws v f = ap (λ (o : Option N). then o (λ t. then (topped a cs ws) (λ ds. Some (record { top = t; low = v } ∷ ds)))) f
  topped_none cs (w ∷ vs) ws v f = by (running a a.zero cs w) (topped_none cs vs ws v f)
    where
      by : (o : Option N) → topped a cs (vs ++ v ∷ ws) ≡ None → then o (λ t. then (topped a cs (vs ++ v ∷ ws)) (λ ds. Some (record { top = t; low = w } ∷ ds))) ≡ None
      by None e = refl
      by (Some t) e = ap (λ (o : Option (List (Column N))). then o (λ ds. Some (record { top = t; low = w } ∷ ds))) e

  abbrev normal : Column N → Option (Column N)
  normal c = adds_column a (blank a c) (a.unit c.top) c

  normalised_push : (cs ds : List (Column N)) (c d : Column N) → normalised a cs ≡ Some ds → normal c ≡ Some d → normalised a (cs ++ c ∷ []) ≡ Some (ds ++ d ∷ [])
  normalised_push [] ds c d e f =
      let z : [] ≡ ds = cc in
      ap (λ (o : Option (Column N)). then o (λ d. then (Some []) (λ ds. Some (d ∷ ds)))) f ∙ ap (λ (x : List (Column N)). Some (x ++ d ∷ [])) z
  normalised_push (b ∷ cs) ds c d e f = by (normal b) (normalised a cs) refl e (λ es h. normalised_push cs es c d h f)
    where
      by : (o : Option (Column N)) (s : Option (List (Column N))) → normalised a cs ≡ s → then o (λ d. then s (λ ds. Some (d ∷ ds))) ≡ Some ds
          → ((es : List (Column N)) → normalised a cs ≡ Some es → normalised a (cs ++ c ∷ []) ≡ Some (es ++ d ∷ []))
          → then o (λ d. then (normalised a (cs ++ c ∷ [])) (λ ds. Some (d ∷ ds))) ≡ Some (ds ++ d ∷ [])
      by None s h e rest = absurd cc
      by (Some u) None h e rest = absurd cc
      by (Some u) (Some es) h e rest =
          let z : u ∷ es ≡ ds = cc in
          ap (λ (o : Option (List (Column N))). then o (λ ds. Some (u ∷ ds))) (rest es h) ∙ ap (λ (x : List (Column N)). Some (x ++ d ∷ [])) z

  normalised_none : (cs ds : List (Column N)) (c : Column N) → normal c ≡ None → normalised a (cs ++ c ∷ ds) ≡ None
  normalised_none [] ds c f = ap (λ (o : Option (Column N)). then o (λ d. then (normalised a ds) (λ es. Some (d ∷ es)))) f
  normalised_none (b ∷ cs) ds c f = by (normal b) (normalised_none cs ds c f)
    where
      by : (o : Option (Column N)) → normalised a (cs ++ c ∷ ds) ≡ None → then o (λ d. then (normalised a (cs ++ c ∷ ds)) (λ es. Some (d ∷ es))) ≡ None
      by None e = refl
      by (Some t) e = ap (λ (o : Option (List (Column N))). then o (λ ds. Some (t ∷ ds))) e

-- a list, taken apart at one place
at_place : {X : Type 0} (xs : List X) (j : ℕ) (d : X) → j < length xs → xs ≡ take j xs ++ (get_or xs j d ∷ drop (j + 1) xs)
at_place {X} xs j d h = sym (take-append-drop j xs) ∙ ap (λ (t : List X). take j xs ++ t) (drop_more xs j d h)

-- the moves laid so far
pub record Tops {N C : Type 0} (a : Arithmetic N C) (cs : List N) (n p k : ℕ) (start : List C) (j : ℕ) (now : List C) : Type 0 where
  pub inside : Within p (k * (n + 1)) start now
  pub sum : topped a cs (take j (moves_at a start n k)) ≡ Some (columns_at a now n p j)

module _ {N C : Type 0} (a : Arithmetic N C) (cs : List N) (n p k : ℕ) (start : List C) (main : n + k * n ≤ p) (room : p + k * (n + 1) ≤ length start) where
  abbrev M : List (List N)
  M = moves_at a start n k

  length_M : length M ≡ k
  length_M = length-map-range_with_len (move_at a start n) 0 k

  move_of : (j : ℕ) → j < k → get_or M j [] ≡ move_at a start n j
  move_of j h = get_or-map-range_with_len (move_at a start n) 0 k j j [] h (omega arith)

  same_move : (j : ℕ) (now : List C) → j < k → Tops a cs n p k start j now → numbers a (part (n + j * n) n now) ≡ get_or M j []
  same_move j now h w = ap (numbers a) (part_before p (k * (n + 1)) (n + j * n) n start now w.inside (let c = column_in j k n h in omega arith)) ∙ sym (move_of j h)

  pub tops_none : (j : ℕ) (now : List C) → j < k → Tops a cs n p k start j now → running a a.zero cs (numbers a (part (n + j * n) n now)) ≡ None → (topped a cs M ≡ None) × Within p (k * (n + 1)) start now
  tops_none j now h w e =
      let l = length_M in (
        ap (topped a cs) (at_place M j [] (omega arith)) ∙ topped_none a cs (take j M) (drop (j + 1) M) (get_or M j []) (ap (running a a.zero cs) (sym (same_move j now h w)) ∙ e),
        w.inside,
      )

  pub tops_more : (j : ℕ) (now next : List C) (t : N) → j < k → Tops a cs n p k start j now → running a a.zero cs (numbers a (part (n + j * n) n now)) ≡ Some t → Laid a n (p + j * (n + 1)) t (n + j * n) now next → Tops a cs n p k start (j + 1) next
  tops_more j now next t h w e (c, o) =
      let z = a.to_cell a.zero in
      let l = length_M in
      let b = column_in j k (n + 1) h in
      let ln = w.inside.len in
      let m = same_move j now h w in
      let i : Within p (k * (n + 1)) now next = only_within z (p + j * (n + 1)) (n + 1) p (k * (n + 1)) now next o (omega arith) (omega arith) (omega arith) in
      let q : columns_at a next n p (j + 1) ≡ columns_at a now n p j ++ record { top = t; low = get_or M j [] } ∷ []
      = columns_push a n p next j
      ∙ ap (λ (x : List (Column N)). x ++ column_at a next n (p + j * (n + 1)) ∷ []) (columns_kept a n p j now next (omega arith) (p + j * (n + 1)) (n + 1) o (omega arith) (inl (omega arith)))
      ∙ ap (λ (x : Column N). columns_at a now n p j ++ x ∷ []) c
      ∙ ap (λ (x : List N). columns_at a now n p j ++ record { top = t; low = x } ∷ []) m in
      record {
        inside = within_trans w.inside i;
        sum = ap (topped a cs) (take_more M j [] (omega arith)) ∙ topped_push a cs (take j M) (get_or M j []) (columns_at a now n p j) t w.sum (ap (running a a.zero cs) (sym m) ∙ e) ∙ ap Some (sym q);
      }

  pub tops_end : (j : ℕ) (now : List C) → j ≡ k → Tops a cs n p k start j now → (topped a cs M ≡ Some (columns_at a now n p k)) × Within p (k * (n + 1)) start now
  tops_end j now e w = (
    sym (ap (topped a cs) (take_all j M (let l = length_M in omega arith))) ∙ w.sum ∙ ap (λ (i : ℕ). Some (columns_at a now n p i)) e,
    w.inside,
  )

-- the columns multiplied so far
pub record Units {N C : Type 0} (a : Arithmetic N C) (n p k : ℕ) (start : List C) (j : ℕ) (now : List C) : Type 0 where
  pub inside : Within p (k * (n + 1)) start now
  pub sum : normalised a (take j (columns_at a start n p k)) ≡ Some (columns_at a now n p j)
  pub rest : (i : ℕ) → j ≤ i → i < k → column_at a now n (p + i * (n + 1)) ≡ column_at a start n (p + i * (n + 1))

module _ {N C : Type 0} (a : Arithmetic N C) (n p k : ℕ) (start : List C) (room : p + k * (n + 1) ≤ length start) where
  abbrev S : List (Column N)
  S = columns_at a start n p k

  abbrev first_column : Column N
  first_column = column_at a start n 0

  normal_of : (j : ℕ) (now : List C) (o : Option (Column N)) → j < k → Units a n p k start j now → normal a (column_at a now n (p + j * (n + 1))) ≡ o → normal a (get_or S j first_column) ≡ o
  normal_of j now o h w e = ap (normal a) (column_of a n p k start j first_column h ∙ sym (w.rest j (omega arith) h)) ∙ e

  pub units_none : (j : ℕ) (now : List C) → j < k → Units a n p k start j now → normal a (column_at a now n (p + j * (n + 1))) ≡ None → normalised a S ≡ None
  units_none j now h w e =
      let l = length_columns a n p k start in
      ap (normalised a) (at_place S j first_column (omega arith)) ∙ normalised_none a (take j S) (drop (j + 1) S) (get_or S j first_column) (normal_of j now None h w e)

  pub units_more : (j : ℕ) (now next : List C) → j < k → Units a n p k start j now → normal a (column_at a now n (p + j * (n + 1))) ≡ Some (column_at a next n (p + j * (n + 1))) → Only (p + j * (n + 1)) (n + 1) now next → Units a n p k start (j + 1) next
  units_more j now next h w e o =
      let z = a.to_cell a.zero in
      let l = length_columns a n p k start in
      let b = column_in j k (n + 1) h in
      let ln = w.inside.len in
      let c = column_at a next n (p + j * (n + 1)) in
      let i : Within p (k * (n + 1)) now next = only_within z (p + j * (n + 1)) (n + 1) p (k * (n + 1)) now next o (omega arith) (omega arith) (omega arith) in
      record {
        inside = within_trans w.inside i;
        sum =
            ap (normalised a) (take_more S j first_column (omega arith))
            ∙ normalised_push a (take j S) (columns_at a now n p j) (get_or S j first_column) c w.sum (normal_of j now (Some c) h w e)
            ∙ ap Some (sym (columns_push a n p next j ∙ ap (λ (x : List (Column N)). x ++ c ∷ []) (columns_kept a n p j now next (omega arith) (p + j * (n + 1)) (n + 1) o (omega arith) (inl (omega arith)))));
        rest = λ m lo hi.
            let ne : m ≢ j = omega arith in
            let y = column_in m k (n + 1) hi in
            column_other a n now next (p + j * (n + 1)) (n + 1) (p + m * (n + 1)) o (omega arith) (omega arith) (columns_apart a n p k m j ne) ∙ w.rest m (omega arith) hi;
      }

  pub units_end : (j : ℕ) (now : List C) → j ≡ k → Units a n p k start j now → (normalised a S ≡ Some (columns_at a now n p k)) × Within p (k * (n + 1)) start now
  units_end j now e w = (
    sym (ap (normalised a) (take_all j S (let l = length_columns a n p k start in omega arith))) ∙ w.sum ∙ ap (λ (i : ℕ). Some (columns_at a now n p i)) e,
    w.inside,
  )
