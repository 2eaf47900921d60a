-- A walk down two columns of cells, step by step.
use Rattle.std.proofs.Common.{◌≡◌, ℕ, ◌+◌, ◌<◌, ◌≤◌, Bool, true, false, cond, ◌⊎◌, List, [], ◌∷◌, ◌++◌, map, length, get_or, take, drop, set, Some, None, Option, sym, refl, ap, ◌∙◌, inl, inr, ⊎_elim, add-zero, arith}
use Rattle.std.proofs.lemmas.List.{append_assoc, length-append, length-map, length-take-le, length_push, get_or-map, get_or_append_left, get_or-append_right, get_or-take, get_or-drop, set_at, take_more, drop_more, take-append-drop, map-append}
use Rattle.kinds.specs.Kind.{Arithmetic}
use Rattle.lines.specs.Page.{over}
use Rattle.plans.specs.Posting.{then, adds}
use Rattle.sheets.specs.Cells.{part, number, numbers, held, number_at}
use Rattle.sheets.proofs.Numbers.{length_numbers_part, number_of_part}

-- what is put over some places leaves the others
pub get_or_over : {X : Type 0} (cells s : List X) (to p : ℕ) (d : X) → to ≤ length cells → (p < to) ⊎ (to + length s ≤ p) → get_or (over cells to s) p d ≡ get_or cells p d
get_or_over cells s to p d h (inl k) =
    let l = length-take-le to cells h in
    get_or_append_left (take to cells) (s ++ drop (to + length s) cells) d p (omega arith) ∙ get_or-take to cells p d k
get_or_over cells s to p d h (inr k) =
    let l = length-take-le to cells h in
    get_or-append_right (take to cells) (s ++ drop (to + length s) cells) to p d l (omega arith)
    ∙ get_or-append_right s (drop (to + length s) cells) (length s) _ d refl (omega arith)
    ∙ get_or-drop (to + length s) cells _ d
    ∙ ap (λ (n : ℕ). get_or cells n d) (omega arith)

-- nothing put over
pub over_nothing : {X : Type 0} (cells : List X) (to : ℕ) → over cells to [] ≡ cells
over_nothing {X} cells to = ap (λ (n : ℕ). take to cells ++ drop n cells) (add-zero to) ∙ take-append-drop to cells

-- one more behind what was put
pub over_push : {X : Type 0} (cells s : List X) (to : ℕ) (x : X) → to + length s < length cells → set (over cells to s) (to + length s) x ≡ over cells to (s ++ x ∷ [])
over_push {X} cells s to x h =
    let T = take to cells in
    let l : length T ≡ to = length-take-le to cells (omega arith) in
    let y = get_or cells (to + length s) x in
    let d : drop (to + length s) cells ≡ y ∷ drop (to + length s + 1) cells = drop_more cells (to + length s) x h in
    let p : over cells to s ≡ (T ++ s) ++ y ∷ drop (to + length s + 1) cells = ap (λ (t : List X). T ++ (s ++ t)) d ∙ sym (append_assoc T s (y ∷ drop (to + length s + 1) cells)) in
    let n : length (T ++ s) ≡ to + length s = length-append T s ∙ ap (λ (m : ℕ). m + length s) l in
    let k : to + length s + 1 ≡ to + length (s ++ x ∷ []) = let e = length_push s x in omega arith in
    ap (λ (t : List X). set t (to + length s) x) p
    ∙ set_at (T ++ s) y (drop (to + length s + 1) cells) x (to + length s) n
    ∙ ap (λ (m : ℕ). (T ++ s) ++ x ∷ drop m cells) k
    ∙ append_assoc T s (x ∷ drop (to + length (s ++ x ∷ [])) cells)
    ∙ ap (λ (t : List X). T ++ t) (sym (append_assoc s (x ∷ []) (drop (to + length (s ++ x ∷ [])) cells)))

-- the numbers, or as many zeros
abbrev pub base : {N C : Type 0} → Arithmetic N C → Bool → List N → List N
base a keep xs = cond keep xs (map (λ _. a.zero) xs)

module _ {N C : Type 0} (a : Arithmetic N C) (q : N) where
  adds_push : (u v ys : List N) (x y r : N) → length u ≡ length v → adds a u q v ≡ Some ys → a.add_product x q y ≡ Some r → adds a (u ++ x ∷ []) q (v ++ y ∷ []) ≡ Some (ys ++ r ∷ [])
  adds_push [] [] ys x y r l e f = let z : [] ≡ ys = cc in ap (λ (o : Option N). then o (λ r. then (Some []) (λ rs. Some (r ∷ rs)))) f ∙ ap (λ (t : List N). Some (t ++ r ∷ [])) z
  adds_push [] (w ∷ v) ys x y r l e f = absurd (omega arith)
  adds_push (w ∷ u) [] ys x y r l e f = absurd (omega arith)
  adds_push (p ∷ u) (w ∷ v) ys x y r l e f = by (a.add_product p q w) (adds a u q v) refl e (λ zs h. adds_push u v zs x y r (omega arith) h f)
    where
      by : (o : Option N) (s : Option (List N)) → adds a u q v ≡ s → then o (λ r. then s (λ rs. Some (r ∷ rs))) ≡ Some ys → ((zs : List N) → adds a u q v ≡ Some zs → adds a (u ++ x ∷ []) q (v ++ y ∷ []) ≡ Some (zs ++ r ∷ []))
          → then o (λ r. then (adds a (u ++ x ∷ []) q (v ++ y ∷ [])) (λ rs. Some (r ∷ rs))) ≡ Some (ys ++ r ∷ [])
      by None s h e rest = absurd cc
      by (Some t) None h e rest = absurd cc
      by (Some t) (Some zs) h e rest =
          let z : t ∷ zs ≡ ys = cc in
          ap (λ (o : Option (List N)). then o (λ rs. Some (t ∷ rs))) (rest zs h) ∙ ap (λ (k : List N). Some (k ++ r ∷ [])) z

  adds_none : (u v w z : List N) (x y : N) → length u ≡ length v → a.add_product x q y ≡ None → adds a (u ++ x ∷ w) q (v ++ y ∷ z) ≡ None
  adds_none [] [] w z x y l f = ap (λ (o : Option N). then o (λ r. then (adds a w q z) (λ rs. Some (r ∷ rs)))) f
  adds_none [] (c ∷ v) w z x y l f = absurd (omega arith)
  adds_none (c ∷ u) [] w z x y l f = absurd (omega arith)
  adds_none (c ∷ u) (d ∷ v) w z x y l f = by (a.add_product c q d) (adds_none u v w z x y (omega arith) f)
    where
      by : (o : Option N) → adds a (u ++ x ∷ w) q (v ++ y ∷ z) ≡ None → then o (λ r. then (adds a (u ++ x ∷ w) q (v ++ y ∷ z)) (λ rs. Some (r ∷ rs))) ≡ None
      by None e = refl
      by (Some t) e = ap (λ (o : Option (List N)). then o (λ rs. Some (t ∷ rs))) e

  module _ (u v : List N) (i : ℕ) (d : N) (hu : i < length u) (hv : i < length v) where
    same_front : length (take i u) ≡ length (take i v)
    same_front = length-take-le i u (omega arith) ∙ sym (length-take-le i v (omega arith))

    -- one entry more
    pub adds_more : (ys : List N) (r : N) → adds a (take i u) q (take i v) ≡ Some ys → a.add_product (get_or u i d) q (get_or v i d) ≡ Some r → adds a (take (i + 1) u) q (take (i + 1) v) ≡ Some (ys ++ r ∷ [])
    adds_more ys r e f =
        let tu = take_more u i d hu in
        let tv = take_more v i d hv in
        (λ j. adds a (tu j) q (tv j)) ∙ adds_push (take i u) (take i v) ys (get_or u i d) (get_or v i d) r same_front e f

    -- an entry that gives none
    pub adds_stop : a.add_product (get_or u i d) q (get_or v i d) ≡ None → adds a u q v ≡ None
    adds_stop f =
        let su : u ≡ take i u ++ (get_or u i d ∷ drop (i + 1) u) = sym (take-append-drop i u) ∙ ap (λ (t : List N). take i u ++ t) (drop_more u i d hu) in
        let sv : v ≡ take i v ++ (get_or v i d ∷ drop (i + 1) v) = sym (take-append-drop i v) ∙ ap (λ (t : List N). take i v ++ t) (drop_more v i d hv) in
        (λ j. adds a (su j) q (sv j)) ∙ adds_none (take i u) (take i v) (drop (i + 1) u) (drop (i + 1) v) (get_or u i d) (get_or v i d) same_front f

-- the walk so far: i entries came to ys, which stand in the cells
pub record Walked {N C : Type 0} (a : Arithmetic N C) (q : N) (u v : List N) (cells : List C) (to i : ℕ) (left : List C) : Type 0 where
  pub ys : List N
  pub long : length ys ≡ i
  pub sum : adds a (take i u) q (take i v) ≡ Some ys
  pub stand : left ≡ over cells to (held a ys)

module _ {N C : Type 0} (a : Arithmetic N C) (q : N) (keep : Bool) (cells : List C) (to from h : ℕ) (ht : to + h ≤ length cells) (hf : from + h ≤ length cells) (apart : (to ≤ from) ⊎ (from + h ≤ to)) where
  abbrev U : List N
  U = base a keep (numbers a (part to h cells))

  abbrev V : List N
  V = numbers a (part from h cells)

  length_base : (b : Bool) (xs : List N) → length (base a b xs) ≡ length xs
  length_base true xs = refl
  length_base false xs = length-map xs (λ _. a.zero)

  length_U : length U ≡ h
  length_U = length_base keep (numbers a (part to h cells)) ∙ length_numbers_part a cells to h ht

  length_V : length V ≡ h
  length_V = length_numbers_part a cells from h hf

  at_U : (i : ℕ) → i < h → get_or U i a.zero ≡ cond keep (number_at a cells (to + i)) a.zero
  at_U i k = by keep
    where
      by : (b : Bool) → get_or (base a b (numbers a (part to h cells))) i a.zero ≡ cond b (number_at a cells (to + i)) a.zero
      by true = number_of_part a cells to h i ht k
      by false = get_or-map (λ _. a.zero) (numbers a (part to h cells)) i a.zero a.zero (let l = length_numbers_part a cells to h ht in omega arith)

  at_V : (i : ℕ) → i < h → get_or V i a.zero ≡ number_at a cells (from + i)
  at_V i k = number_of_part a cells from h i hf k

  abbrev SoFar : ℕ → List C → Type 0
  SoFar i left = Walked a q U V cells to i left

  -- what is read is what was there
  reads : (i p : ℕ) (left : List C) → SoFar i left → (p < to) ⊎ (to + i ≤ p) → number_at a left p ≡ number_at a cells p
  reads i p left w o =
      let z = a.to_cell a.zero in
      let l : length (held a w.ys) ≡ i = length-map w.ys a.to_cell ∙ w.long in
      ap (number a) (ap (λ (x : List C). get_or x p z) w.stand ∙ get_or_over cells (held a w.ys) to p z (omega arith) (⊎_elim (λ b. inl b) (λ b. inr (omega arith)) o))

  from_reads : (i : ℕ) → i < h → (from + i < to) ⊎ (to + i ≤ from + i)
  from_reads i k = ⊎_elim (λ b. inr (omega arith)) (λ b. inl (omega arith)) apart

  product : (i : ℕ) (left : List C) (c d : N) → SoFar i left → i < h → c ≡ cond keep (number_at a left (to + i)) a.zero → d ≡ number_at a left (from + i) → a.add_product c q d ≡ a.add_product (get_or U i a.zero) q (get_or V i a.zero)
  product i left c d w k e f =
      let ec : c ≡ get_or U i a.zero = e ∙ ap (λ (x : N). cond keep x a.zero) (reads i (to + i) left w (inr (omega arith))) ∙ sym (at_U i k) in
      let ed : d ≡ get_or V i a.zero = f ∙ reads i (from + i) left w (from_reads i k) ∙ sym (at_V i k) in
      λ j. a.add_product (ec j) q (ed j)

  pub walk_start : Walked a q (base a keep (numbers a (part to h cells))) (numbers a (part from h cells)) cells to 0 cells
  walk_start = record { ys = []; long = refl; sum = refl; stand = sym (over_nothing cells to) }

  pub walk_more : (i : ℕ) (left next : List C) (c d x : N) → SoFar i left → i < h → c ≡ cond keep (number_at a left (to + i)) a.zero → d ≡ number_at a left (from + i)
      → a.add_product c q d ≡ Some x → next ≡ set left (to + i) (a.to_cell x) → SoFar (i + 1) next
  walk_more i left next c d x w k e f p s =
      let lu = length_U in
      let lv = length_V in
      let l : length (held a w.ys) ≡ i = length-map w.ys a.to_cell ∙ w.long in
      record {
        ys = w.ys ++ x ∷ [];
        long = length_push w.ys x ∙ ap (λ (n : ℕ). n + 1) w.long;
        sum = adds_more a q U V i a.zero (omega arith) (omega arith) w.ys x w.sum (sym (product i left c d w k e f) ∙ p);
        stand =
            s
            ∙ ap (λ (t : List C). set t (to + i) (a.to_cell x)) w.stand
            ∙ ap (λ (n : ℕ). set (over cells to (held a w.ys)) (to + n) (a.to_cell x)) (sym l)
            ∙ over_push cells (held a w.ys) to (a.to_cell x) (omega arith)
            ∙ ap (over cells to) (sym (map-append a.to_cell w.ys (x ∷ [])));
      }

  pub walk_stop : (i : ℕ) (left : List C) (c d : N) → SoFar i left → i < h → c ≡ cond keep (number_at a left (to + i)) a.zero → d ≡ number_at a left (from + i)
      → a.add_product c q d ≡ None → adds a U q V ≡ None
  walk_stop i left c d w k e f p =
      let lu = length_U in
      let lv = length_V in
      adds_stop a q U V i a.zero (omega arith) (omega arith) (sym (product i left c d w k e f) ∙ p)

  -- what changed so far
  pub walk_only : (i : ℕ) (left : List C) → SoFar i left → (changed : List C) × ((length changed ≡ i) × (left ≡ over cells to changed))
  walk_only i left w = (held a w.ys, (length-map w.ys a.to_cell ∙ w.long, w.stand))

-- copying a part, and putting zeros, cell by cell
module _ {N C : Type 0} (a : Arithmetic N C) (cells : List C) (to : ℕ) where
  module _ (from n : ℕ) (ht : to + n ≤ length cells) (hf : from + n ≤ length cells) (apart : (to ≤ from) ⊎ (from + n ≤ to)) where
    abbrev Numbers : List N
    Numbers = numbers a (part from n cells)

    pub copy_more : (i : ℕ) (left next : List C) (x : N) → i < n → left ≡ over cells to (held a (take i Numbers)) → x ≡ number_at a left (from + i) → next ≡ set left (to + i) (a.to_cell x)
        → next ≡ over cells to (held a (take (i + 1) Numbers))
    copy_more i left next x k s r e =
        let z = a.to_cell a.zero in
        let ln = length_numbers_part a cells from n hf in
        let l : length (held a (take i Numbers)) ≡ i = length-map (take i Numbers) a.to_cell ∙ length-take-le i Numbers (omega arith) in
        let v : x ≡ get_or Numbers i a.zero
        = r
        ∙ ap (number a) (ap (λ (t : List C). get_or t (from + i) z) s ∙ get_or_over cells (held a (take i Numbers)) to (from + i) z (omega arith) (⊎_elim (λ b. inr (omega arith)) (λ b. inl (omega arith)) apart))
        ∙ sym (number_of_part a cells from n i hf k) in
        let t : take i Numbers ++ x ∷ [] ≡ take (i + 1) Numbers = ap (λ (y : N). take i Numbers ++ y ∷ []) v ∙ sym (take_more Numbers i a.zero (omega arith)) in
        e
        ∙ ap (λ (y : List C). set y (to + i) (a.to_cell x)) s
        ∙ ap (λ (m : ℕ). set (over cells to (held a (take i Numbers))) (to + m) (a.to_cell x)) (sym l)
        ∙ over_push cells (held a (take i Numbers)) to (a.to_cell x) (omega arith)
        ∙ ap (over cells to) (sym (map-append a.to_cell (take i Numbers) (x ∷ [])) ∙ ap (held a) t)

    pub copy_start : cells ≡ over cells to (held a (take 0 Numbers))
    copy_start = sym (over_nothing cells to)
