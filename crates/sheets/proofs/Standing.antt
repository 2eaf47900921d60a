-- Columns as they stand in cells: read as a list, changed, and left alone.
use Rattle.std.proofs.Common.{◌≡◌, ℕ, suc, ◌+◌, ◌<◌, ◌≤◌, ◌⊎◌, List, [], ◌∷◌, ◌++◌, length, take, drop, Some, None, Ok, Err, Option, Result, sym, refl, ap, ◌∙◌, inl, inr, ⊎_elim, add-one, arith}
use Rattle.std.proofs.lemmas.List.{length-map, length-append, length-take-le, length-take, length-drop, take_at, drop_at, drop_more, ext_get_or, get_or-take, get_or-drop}
use Rattle.kinds.specs.Kind.{Arithmetic, Laws}
use Rattle.lines.specs.Page.{over}
use Rattle.plans.specs.Posting.{then, Column, adds, adds_column}
use Rattle.plans.proofs.Stored.{adds_length}
use Rattle.sheets.specs.declared.cells.Overflow.{Overflow}
use Rattle.sheets.specs.Cells.{part, number, or_zero, numbers, held}
use Rattle.sheets.specs.Combining.{Combined}
use Rattle.sheets.specs.Work.{column_at, CameAt}
use Rattle.sheets.proofs.Walks.{get_or_over}

-- what is put over some places is read there
pub part_over : {X : Type 0} (cells s : List X) (p h : ℕ) → p ≤ length cells → length s ≡ h → part p h (over cells p s) ≡ s
part_over cells s p h k l =
    ap (take h) (drop_at (take p cells) (s ++ drop (p + length s) cells) p (length-take-le p cells k)) ∙ take_at s (drop (p + length s) cells) h l

pub length_over : {X : Type 0} (cells s : List X) (p : ℕ) → p + length s ≤ length cells → length (over cells p s) ≡ length cells
length_over cells s p k =
    let a = length-take-le p cells (omega arith) in
    let b = length-drop (p + length s) cells in
    length-append (take p cells) (s ++ drop (p + length s) cells) ∙ (simp length-append (omega arith))

-- and elsewhere nothing changes
pub part_other : {X : Type 0} (z : X) (cells s : List X) (p r h : ℕ) → p + length s ≤ length cells → r + h ≤ length cells → (r + h ≤ p) ⊎ (p + length s ≤ r) → part r h (over cells p s) ≡ part r h cells
part_other z cells s p r h k m o =
    let l = length_over cells s p k in
    let la : length (part r h (over cells p s)) ≡ h = simp (length-take, length-drop) (omega arith) in
    let lb : length (part r h cells) ≡ h = simp (length-take, length-drop) (omega arith) in
    ext_get_or z (part r h (over cells p s)) (part r h cells) (la ∙ sym lb)
    (λ i b.
    let ih : i < h = omega arith in
    get_or-take h (drop r (over cells p s)) i z ih
    ∙ get_or-drop r (over cells p s) i z
    ∙ get_or_over cells s p (r + i) z (omega arith) (⊎_elim (λ q. inl (omega arith)) (λ q. inr (omega arith)) o)
    ∙ sym (get_or-take h (drop r cells) i z ih ∙ get_or-drop r cells i z))

module _ {N C : Type 0} (a : Arithmetic N C) where
  abbrev pub listed : Column N → List N
  listed c = c.top ∷ c.low

  -- a column is the numbers of its cells
  pub column_list : (cells : List C) (n p : ℕ) → p < length cells → numbers a (part p (n + 1) cells) ≡ listed (column_at a cells n p)
  column_list cells n p h =
      let z = a.to_cell a.zero in
      let d = drop_more cells p z h in
      ap (λ (k : ℕ). numbers a (take k (drop p cells))) (add-one n) ∙ ap (λ (xs : List C). numbers a (take (suc n) xs)) d

  -- the sum of two columns, as lists
  adds_some : (c d : Column N) (q : N) (ys : List N) → adds a (listed c) q (listed d) ≡ Some ys → (r : Column N) × ((adds_column a c q d ≡ Some r) × (ys ≡ listed r))
  adds_some c d q ys e = by (a.add_product c.top q d.top) (adds a c.low q d.low) e
    where
      by : (o : Option N) (s : Option (List N)) → then o (λ r. then s (λ rs. Some (r ∷ rs))) ≡ Some ys → (r : Column N) × ((then o (λ t. then s (λ l. Some (record { top = t; low = l }))) ≡ Some r) × (ys ≡ listed r))
      by None s e = absurd cc
      by (Some t) None e = absurd cc
      by (Some t) (Some l) e = let z : t ∷ l ≡ ys = cc in (record { top = t; low = l }, (refl, sym z))

  pub adds_nothing : (c d : Column N) (q : N) → adds a (listed c) q (listed d) ≡ None → adds_column a c q d ≡ None
  adds_nothing c d q e = by (a.add_product c.top q d.top) (adds a c.low q d.low) e
    where
      by : (o : Option N) (s : Option (List N)) → then o (λ r. then s (λ rs. Some (r ∷ rs))) ≡ None → then {Y = Column N} o (λ t. then {Y = Column N} s (λ l. Some (record { top = t; low = l }))) ≡ None
      by None s e = refl
      by (Some t) None e = refl
      by (Some t) (Some l) e = absurd cc

  same_column : (r : Column N) (t : N) (l : List N) → t ∷ l ≡ listed r → record { top = t; low = l } ≡ r
  same_column r t l e = let x : t ≡ r.top = cc in let y : l ≡ r.low = cc in λ j. record { top = x j; low = y j }

  module _ (laws : Laws a) where
    pub number_held : (x : N) → number a (a.to_cell x) ≡ x
    number_held x = ap (or_zero a) (laws.cell_keeps x)

    pub numbers_held : (xs : List N) → numbers a (held a xs) ≡ xs
    numbers_held [] = refl
    numbers_held (x ∷ xs) = let p = number_held x in let q = numbers_held xs in λ j. p j ∷ q j

    -- the column that was put
    pub column_put : (cells left : List C) (n p : ℕ) (r : Column N) (ys : List N) → p + (n + 1) ≤ length cells → length ys ≡ n + 1 → ys ≡ listed r → left ≡ over cells p (held a ys) → column_at a left n p ≡ r
    column_put cells left n p r ys h l e s =
        let lh : length (held a ys) ≡ n + 1 = length-map ys a.to_cell ∙ l in
        let lo : length left ≡ length cells = ap length s ∙ length_over cells (held a ys) p (omega arith) in
        let q : listed (column_at a left n p) ≡ ys = sym (column_list left n p (omega arith)) ∙ ap (λ (x : List C). numbers a (part p (n + 1) x)) s ∙ ap (numbers a) (part_over cells (held a ys) p (n + 1) (omega arith) lh) ∙ numbers_held ys in
        same_column r (column_at a left n p).top (column_at a left n p).low (q ∙ e)

    -- a walk down two columns, as the columns have it
    pub combined_came : (c d : Column N) (q : N) (u v : List N) (cells left : List C) (n to : ℕ) (r : Result Unit Overflow) → to + (n + 1) ≤ length cells → u ≡ listed c → v ≡ listed d → length u ≡ n + 1 → length v ≡ n + 1
        → Combined a (adds a u q v) (n + 1) cells to r left → CameAt a (adds_column a c q d) n to cells r left
    combined_came c d q u v cells left n to (Ok _) h eu ev lu lv w =
        let ys = w.0 in
        let s = adds_some c d q ys (sym (λ j. adds a (eu j) q (ev j)) ∙ w.1.0) in
        let l : length ys ≡ n + 1 = adds_length a laws u q v ys w.1.0 ∙ lu in (
          s.1.0 ∙ ap Some (sym (column_put cells left n to s.0 ys h l s.1.1 w.1.1)),
          (held a ys, (length-map ys a.to_cell ∙ l, w.1.1)),
        )
    combined_came c d q u v cells left n to (Err _) h eu ev lu lv w = (adds_nothing c d q (sym (λ j. adds a (eu j) q (ev j)) ∙ w.0), w.1)
