-- The walk of a round: column B and the pivot's column, down their entries at once.
use Rattle.std.proofs.Common.{◌≡◌, ℕ, ◌+◌, ◌*◌, ◌<◌, ◌≤◌, ◌≢◌, true, ◌⊎◌, List, [], ◌++◌, length, get_or, take, drop, set, Some, None, Ok, Option, sym, refl, ap, ◌∙◌, subst, subst₂, inl, inr, ⊎_elim, arith}
use Rattle.std.proofs.lemmas.List.{set-append_left, take_all, drop-set-lt, length-map, length-take-le}
use Rattle.std.proofs.Math.Seq.{take-set-lt}
use Rattle.kinds.specs.Kind.{Arithmetic, Laws}
use Rattle.lines.specs.Page.{over}
use Rattle.plans.specs.Posting.{Column, Work, adds, adds_column, at, round, again, fail, turned, turn}
use Rattle.sheets.specs.Cells.{part, number, numbers, number_at, held}
use Rattle.sheets.specs.Combining.{Within, Put, Combined}
use Rattle.sheets.specs.Work.{Only, column_at, columns_at, work_at, work_cells, CameAt, factors}
use Rattle.sheets.proofs.Limits.{only_within, within_trans}
use Rattle.sheets.proofs.Numbers.{length_numbers_part}
use Rattle.sheets.proofs.Places.{column_in}
use Rattle.sheets.proofs.Rounding.{column_of, columns_set, columns_kept, columns_apart, column_other, round_first_none, round_second_none, round_came}
use Rattle.sheets.proofs.Standing.{length_over, part_other, listed, column_list, adds_nothing, combined_came}
use Rattle.sheets.proofs.Walks.{Walked, get_or_over, walk_start, walk_more, walk_stop, walk_only}

-- a change in front of what is put
set_over : {X : Type 0} (cells s : List X) (to i : ℕ) (x : X) → i < to → to ≤ length cells → set (over cells to s) i x ≡ over (set cells i x) to s
set_over cells s to i x h k =
    let l = length-take-le to cells k in
    let f : set (take to cells) i x ≡ take to (set cells i x) = sym (take-set-lt to cells i x h) in
    let b : drop (to + length s) cells ≡ drop (to + length s) (set cells i x) = sym (drop-set-lt (to + length s) cells i x (omega arith)) in
    set-append_left (take to cells) (s ++ drop (to + length s) cells) i x (omega arith) ∙ (λ j. f j ++ (s ++ b j))

-- the walk so far: i entries of B came, and j of the pivot's. B stands at b, the pivot at p and the runner-up at r
pub record BothWalked {N C : Type 0} (a : Arithmetic N C) (h b p r : ℕ) (of_b of_pivot : N) (cells : List C) (i j : ℕ) (now : List C) : Type 0 where
  -- what the cells would be with B's entries alone
  pub half : List C
  pub B_walked : Walked a of_b (numbers a (part b h cells)) (numbers a (part p h cells)) cells b i half
  pub pivot_walked : Walked a of_pivot (numbers a (part p h cells)) (numbers a (part r h cells)) half p j now

module _ {N C : Type 0} (a : Arithmetic N C) (h b p r : ℕ) (x y : N) (cells : List C)
    (before_p : b + h ≤ p) (before_r : b + h ≤ r) (room_p : p + h ≤ length cells) (room_r : r + h ≤ length cells) (apart : (p ≤ r) ⊎ (r + h ≤ p)) where
  abbrev z : C
  z = a.to_cell a.zero

  abbrev Both : ℕ → ℕ → List C → Type 0
  Both i j now = BothWalked a h b p r x y cells i j now

  room_b : b + h ≤ length cells
  room_b = omega arith

  B_apart : (b ≤ p) ⊎ (p + h ≤ b)
  B_apart = inl (omega arith)

  pub both_start : Both 0 0 cells
  both_start = record {
    half = cells;
    B_walked = walk_start a x true cells b p h room_b room_p B_apart;
    pivot_walked = walk_start a y true cells p r h room_p room_r apart;
  }

  module _ (i j : ℕ) (now : List C) (d : Both i j now) (ih : i ≤ h) (jh : j ≤ h) where
    pub B_only : Only b i cells d.half
    B_only = walk_only a x true cells b p h room_b room_p B_apart i d.half d.B_walked

    pub length_half : length d.half ≡ length cells
    length_half = let l = B_only.1.0 in ap length B_only.1.1 ∙ length_over cells B_only.0 b (omega arith)

    -- the columns of pivot and runner-up are as they were
    column_kept : (q : ℕ) → b + h ≤ q → q + h ≤ length cells → numbers a (part q h d.half) ≡ numbers a (part q h cells)
    column_kept q lo hi = let l = B_only.1.0 in ap (numbers a) (ap (part q h) B_only.1.1 ∙ part_other z cells B_only.0 b q h (omega arith) hi (inr (omega arith)))

    length_held : length (held a d.pivot_walked.ys) ≡ j
    length_held = length-map d.pivot_walked.ys a.to_cell ∙ d.pivot_walked.long

    -- what was not walked yet is read as it was
    reads : (q : ℕ) → (q < p) ⊎ (p + j ≤ q) → number_at a now q ≡ number_at a d.half q
    reads q o =
        let l = length_held in
        let m = length_half in
        ap (number a) (ap (λ (t : List C). get_or t q z) d.pivot_walked.stand ∙ get_or_over d.half (held a d.pivot_walked.ys) p q z (omega arith) (⊎_elim (λ e. inl e) (λ e. inr (omega arith)) o))

    -- the pivot's walk, on the cells with B's entries
    pub pivot_on_half : Walked a y (numbers a (part p h d.half)) (numbers a (part r h d.half)) d.half p j now
    pivot_on_half = subst₂ (λ (u v : List N). Walked a y u v d.half p j now) (sym (column_kept p before_p room_p)) (sym (column_kept r before_r room_r)) d.pivot_walked

    pivot_only : Only p j d.half now
    pivot_only = let m = length_half in walk_only a y true d.half p r h (omega arith) (omega arith) apart j now pivot_on_half

    pub both_within : (P H : ℕ) → P ≤ b → p + h ≤ P + H → Within P H cells now
    both_within P H lo hi =
        let m = length_half in
        within_trans (only_within z b i P H cells d.half B_only (omega arith) lo (omega arith)) (only_within z p j P H d.half now pivot_only (omega arith) (omega arith) (omega arith))

  -- an entry of B more
  module _ (i : ℕ) (now : List C) (d : Both i i now) (ih : i < h) where
    product_B : (o : Option N) → a.add_product (number_at a now (b + i)) x (number_at a now (p + i)) ≡ o → a.add_product (number_at a d.half (b + i)) x (number_at a d.half (p + i)) ≡ o
    product_B o e =
        let f = reads i i now d (omega arith) (omega arith) (b + i) (inl (omega arith)) in
        let g = reads i i now d (omega arith) (omega arith) (p + i) (inr (omega arith)) in
        sym (λ j. a.add_product (f j) x (g j)) ∙ e

    pub both_more_B : (next : List C) (s : N) → a.add_product (number_at a now (b + i)) x (number_at a now (p + i)) ≡ Some s → next ≡ set now (b + i) (a.to_cell s) → Both (i + 1) i next
    both_more_B next s e f =
        let m = length_half i i now d (omega arith) (omega arith) in
        record {
          half = set d.half (b + i) (a.to_cell s);
          B_walked = walk_more a x true cells b p h room_b room_p B_apart i d.half _ _ _ s d.B_walked ih refl refl (product_B (Some s) e) refl;
          pivot_walked = record {
            ys = d.pivot_walked.ys;
            long = d.pivot_walked.long;
            sum = d.pivot_walked.sum;
            stand = f ∙ ap (λ (t : List C). set t (b + i) (a.to_cell s)) d.pivot_walked.stand ∙ set_over d.half (held a d.pivot_walked.ys) p (b + i) (a.to_cell s) (omega arith) (omega arith);
          };
        }

    pub stop_B : a.add_product (number_at a now (b + i)) x (number_at a now (p + i)) ≡ None → adds a (numbers a (part b h cells)) x (numbers a (part p h cells)) ≡ None
    stop_B e = walk_stop a x true cells b p h room_b room_p B_apart i d.half _ _ d.B_walked ih refl refl (product_B None e)

  -- and one of the pivot
  module _ (i : ℕ) (now : List C) (d : Both (i + 1) i now) (ih : i < h) where
    room_half : p + h ≤ length d.half
    room_half = let m = length_half (i + 1) i now d (omega arith) (omega arith) in omega arith

    room_half_r : r + h ≤ length d.half
    room_half_r = let m = length_half (i + 1) i now d (omega arith) (omega arith) in omega arith

    w : Walked a y (numbers a (part p h d.half)) (numbers a (part r h d.half)) d.half p i now
    w = pivot_on_half (i + 1) i now d (omega arith) (omega arith)

    e_p : numbers a (part p h d.half) ≡ numbers a (part p h cells)
    e_p = column_kept (i + 1) i now d (omega arith) (omega arith) p before_p room_p

    e_r : numbers a (part r h d.half) ≡ numbers a (part r h cells)
    e_r = column_kept (i + 1) i now d (omega arith) (omega arith) r before_r room_r

    pub both_more_pivot : (next : List C) (s : N) → a.add_product (number_at a now (p + i)) y (number_at a now (r + i)) ≡ Some s → next ≡ set now (p + i) (a.to_cell s) → Both (i + 1) (i + 1) next
    both_more_pivot next s e f = record {
      half = d.half;
      B_walked = d.B_walked;
      pivot_walked = subst₂ (λ (u v : List N). Walked a y u v d.half p (i + 1) next) e_p e_r (walk_more a y true d.half p r h room_half room_half_r apart i now next _ _ s w ih refl refl e f);
    }

    pub stop_pivot : a.add_product (number_at a now (p + i)) y (number_at a now (r + i)) ≡ None → adds a (numbers a (part p h cells)) y (numbers a (part r h cells)) ≡ None
    stop_pivot e = sym (λ j. adds a (e_p j) y (e_r j)) ∙ walk_stop a y true d.half p r h room_half room_half_r apart i now _ _ w ih refl refl e

-- a walk at its end, as what came
walked_combined : {N C : Type 0} (a : Arithmetic N C) (q : N) (u v : List N) (cells left : List C) (to h : ℕ) → length u ≡ h → length v ≡ h → Walked a q u v cells to h left → Combined a (adds a u q v) h cells to (Ok tt) left
walked_combined a q u v cells left to h lu lv w =
    let tu = take_all h u (omega arith) in
    let tv = take_all h v (omega arith) in
    (w.ys, (sym (λ j. adds a (tu j) q (tv j)) ∙ w.sum, w.stand))

-- a round from the pivot l by the runner-up r, whose columns stand at p and q, and column B at b
pub record RoundAt {N C : Type 0} (a : Arithmetic N C) (n start k : ℕ) (cells : List C) (l r b p q : ℕ) (x y : N) : Type 0 where
  pub room : start + ((n + 1) + k * (n + 1)) ≤ length cells
  pub pivot_below : l < k
  pub runner_below : r < k
  pub other : l ≢ r
  pub B_place : b ≡ start
  pub pivot_place : p ≡ start + (n + 1) + l * (n + 1)
  pub runner_place : q ≡ start + (n + 1) + r * (n + 1)
  pub quotients : factors a (number_at a cells b) (number_at a cells p) (number_at a cells q) ≡ Some (x, y)
  pub goes_on : turn a (work_at a cells n start k) ≡ turned a (round a (work_at a cells n start k) l r)

module _ {N C : Type 0} (a : Arithmetic N C) (laws : Laws a) (n start k : ℕ) (cells : List C) (l r b p q : ℕ) (x y : N) (at_round : RoundAt a n start k cells l r b p q x y) where
  abbrev first : ℕ
  first = start + (n + 1)

  abbrev W : Work N
  W = work_at a cells n start k

  abbrev Walk : ℕ → ℕ → List C → Type 0
  Walk i j now = BothWalked a (n + 1) b p q x y cells i j now

  before_p : b + (n + 1) ≤ p
  before_p = let e = at_round.B_place in let f = at_round.pivot_place in omega arith

  before_q : b + (n + 1) ≤ q
  before_q = let e = at_round.B_place in let f = at_round.runner_place in omega arith

  room_p : p + (n + 1) ≤ length cells
  room_p = let f = at_round.pivot_place in let c = column_in l k (n + 1) at_round.pivot_below in let d = at_round.room in omega arith

  room_q : q + (n + 1) ≤ length cells
  room_q = let f = at_round.runner_place in let c = column_in r k (n + 1) at_round.runner_below in let d = at_round.room in omega arith

  apart : (p ≤ q) ⊎ (q + (n + 1) ≤ p)
  apart =
      let e = at_round.pivot_place in
      let f = at_round.runner_place in
      ⊎_elim (λ h. inl (omega arith)) (λ h. inr (omega arith)) (columns_apart a n first k l r at_round.other)

  pub round_start : Walk 0 0 cells
  round_start = both_start a (n + 1) b p q x y cells before_p before_q room_p room_q apart

  abbrev B_put : ℕ → List C → Option Unit → List C → Type 0
  B_put i now o next = Put a (a.add_product (number_at a now (b + i)) x (number_at a now (p + i))) (b + i) now o next

  abbrev pivot_put : ℕ → List C → Option Unit → List C → Type 0
  pivot_put i now o next = Put a (a.add_product (number_at a now (p + i)) y (number_at a now (q + i))) (p + i) now o next

  -- entry i of B, and then of the pivot
  module _ (i : ℕ) (h : i < n + 1) (now mid : List C) (d : Walk i i now) (o : Option Unit) (w : B_put i now o mid) where
    after_B : o ≡ Some tt → Walk (i + 1) i mid
    after_B e = let v = subst (λ (o : Option Unit). B_put i now o mid) e w in both_more_B a (n + 1) b p q x y cells before_p before_q room_p room_q apart i now d h mid v.0 v.1.0 v.1.1

    pub round_entry : o ≡ Some tt → (next : List C) (u : Option Unit) → pivot_put i mid u next → u ≡ Some tt → Walk (i + 1) (i + 1) next
    round_entry e next u wu f =
        let v = subst (λ (u : Option Unit). pivot_put i mid u next) f wu in
        both_more_pivot a (n + 1) b p q x y cells before_p before_q room_p room_q apart i mid (after_B e) h next v.0 v.1.0 v.1.1

  inside : (i j : ℕ) (now : List C) → Walk i j now → i ≤ n + 1 → j ≤ n + 1 → Within start (work_cells a n k) cells now
  inside i j now d ih jh =
      let e = at_round.B_place in
      let f = at_round.pivot_place in
      let c = column_in l k (n + 1) at_round.pivot_below in
      both_within a (n + 1) b p q x y cells before_p before_q room_p room_q apart i j now d ih jh start (work_cells a n k) (omega arith) (omega arith)

  -- the columns of the round
  abbrev none : Column N
  none = record { top = a.zero; low = [] }

  abbrev B_column : Column N
  B_column = column_at a cells n b

  B_same : W.B ≡ B_column
  B_same = ap (column_at a cells n) (sym at_round.B_place)

  pivot_same : at a W.columns l ≡ column_at a cells n p
  pivot_same = column_of a n first k cells l none at_round.pivot_below ∙ ap (column_at a cells n) (sym at_round.pivot_place)

  runner_same : at a W.columns r ≡ column_at a cells n q
  runner_same = column_of a n first k cells r none at_round.runner_below ∙ ap (column_at a cells n) (sym at_round.runner_place)

  quotients_same : factors a W.B.top (at a W.columns l).top (at a W.columns r).top ≡ Some (x, y)
  quotients_same = (λ j. factors a (B_same j).top (pivot_same j).top (runner_same j).top) ∙ at_round.quotients

  listed_at : (c : ℕ) → c + (n + 1) ≤ length cells → numbers a (part c (n + 1) cells) ≡ listed a (column_at a cells n c)
  listed_at c h = column_list a cells n c (omega arith)

  fails : round a W l r ≡ None → turn a W ≡ fail
  fails e = at_round.goes_on ∙ ap (turned a) e

  -- an add-product that gives none
  module _ (i : ℕ) (h : i < n + 1) (now mid : List C) (d : Walk i i now) (o : Option Unit) (w : B_put i now o mid) where
    pub round_stops_at_B : o ≡ None → (turn a W ≡ fail) × Within start (work_cells a n k) cells mid
    round_stops_at_B e =
        let v = subst (λ (o : Option Unit). B_put i now o mid) e w in
        let s = stop_B a (n + 1) b p q x y cells before_p before_q room_p room_q apart i now d h v.0 in
        let c = adds_nothing a B_column (column_at a cells n p) x (sym (λ j. adds a (listed_at b (omega (arith, before_p, room_p)) j) x (listed_at p room_p j)) ∙ s) in (
          fails (round_first_none a W l r x y quotients_same ((λ j. adds_column a (B_same j) x (pivot_same j)) ∙ c)),
          subst (λ (t : List C). Within start (work_cells a n k) cells t) (sym v.1) (inside i i now d (omega arith) (omega arith)),
        )

    pub round_stops_at_pivot : o ≡ Some tt → (next : List C) (u : Option Unit) → pivot_put i mid u next → u ≡ None → (turn a W ≡ fail) × Within start (work_cells a n k) cells next
    round_stops_at_pivot e next u wu f =
        let v = subst (λ (u : Option Unit). pivot_put i mid u next) f wu in
        let m = after_B i h now mid d o w e in
        let s = stop_pivot a (n + 1) b p q x y cells before_p before_q room_p room_q apart i mid m h v.0 in
        let c = adds_nothing a (column_at a cells n p) (column_at a cells n q) y (sym (λ j. adds a (listed_at p room_p j) y (listed_at q room_q j)) ∙ s) in (
          fails (round_second_none a W l r x y quotients_same ((λ j. adds_column a (pivot_same j) y (runner_same j)) ∙ c)),
          subst (λ (t : List C). Within start (work_cells a n k) cells t) (sym v.1) (inside (i + 1) i mid m (omega arith) (omega arith)),
        )

  -- the walk at its end
  module _ (now : List C) (d : Walk (n + 1) (n + 1) now) where
    abbrev half : List C
    half = d.half

    B_changed : Only b (n + 1) cells half
    B_changed = B_only a (n + 1) b p q x y cells before_p before_q room_p room_q apart (n + 1) (n + 1) now d (omega arith) (omega arith)

    same_length : length half ≡ length cells
    same_length = length_half a (n + 1) b p q x y cells before_p before_q room_p room_q apart (n + 1) (n + 1) now d (omega arith) (omega arith)

    came_B : CameAt a (adds_column a B_column x (column_at a cells n p)) n b cells (Ok tt) half
    came_B =
        let rb : b + (n + 1) ≤ length cells = omega (arith, before_p, room_p) in
        let lu = length_numbers_part a cells b (n + 1) rb in
        let lv = length_numbers_part a cells p (n + 1) room_p in
        combined_came a laws B_column (column_at a cells n p) x _ _ cells half n b (Ok tt) rb (listed_at b rb) (listed_at p room_p) lu lv (walked_combined a x _ _ cells half b (n + 1) lu lv d.B_walked)

    came_pivot : CameAt a (adds_column a (column_at a half n p) y (column_at a half n q)) n p half (Ok tt) now
    came_pivot =
        let m = same_length in
        let rp : p + (n + 1) ≤ length half = omega (arith, room_p) in
        let rq : q + (n + 1) ≤ length half = omega (arith, room_q) in
        let lu = length_numbers_part a half p (n + 1) rp in
        let lv = length_numbers_part a half q (n + 1) rq in
        let w = pivot_on_half a (n + 1) b p q x y cells before_p before_q room_p room_q apart (n + 1) (n + 1) now d (omega arith) (omega arith) in
        combined_came a laws (column_at a half n p) (column_at a half n q) y _ _ half now n p (Ok tt) rp (column_list a half n p (omega arith)) (column_list a half n q (omega arith)) lu lv
        (walked_combined a y _ _ half now p (n + 1) lu lv w)

    kept : (c : ℕ) → b + (n + 1) ≤ c → c + (n + 1) ≤ length cells → column_at a half n c ≡ column_at a cells n c
    kept c lo hi = column_other a n cells half b (n + 1) c B_changed (omega arith) hi (inr lo)

    ends : turn a W ≡ again (work_at a now n start k)
    ends =
        let m = same_length in
        let c = column_in l k (n + 1) at_round.pivot_below in
        let room = at_round.room in
        let at_p = at_round.pivot_place in
        let at_b = at_round.B_place in
        let d1 : adds_column a W.B x (at a W.columns l) ≡ Some (column_at a half n b) = (λ j. adds_column a (B_same j) x (pivot_same j)) ∙ came_B.0 in
        let d2 : adds_column a (at a W.columns l) y (at a W.columns r) ≡ Some (column_at a now n p)
        = (λ j. adds_column a ((pivot_same ∙ sym (kept p before_p room_p)) j) y ((runner_same ∙ sym (kept q before_q room_q)) j)) ∙ came_pivot.0 in
        let eb : column_at a half n b ≡ column_at a now n start
        = sym (column_other a n half now p (n + 1) b came_pivot.1 (omega (arith, room_p)) (omega (arith, before_p, room_p)) (inl before_p)) ∙ ap (column_at a now n) at_b in
        let only_p = subst (λ (i : ℕ). Only i (n + 1) half now) at_p came_pivot.1 in
        let ec : set W.columns l (column_at a now n p) ≡ columns_at a now n first k
        = (λ j. set (sym (columns_kept a n first k cells half (omega arith) b (n + 1) B_changed (omega arith) (inr (omega arith))) j) l (column_at a now n (at_p j)))
        ∙ sym (columns_set a n first k half now (omega arith) l at_round.pivot_below only_p) in
        at_round.goes_on
        ∙ ap (turned a) (round_came a W l r x y quotients_same (column_at a half n b) (column_at a now n p) d1 d2)
        ∙ (λ j. again (record { B = eb j; columns = ec j }))

  -- the last entry
  pub round_ends : (i : ℕ) (now : List C) → i ≡ n → Walk (i + 1) (i + 1) now → (turn a W ≡ again (work_at a now n start k)) × Within start (work_cells a n k) cells now
  round_ends i now e d = let v = subst (λ (j : ℕ). Walk (j + 1) (j + 1) now) e d in (ends now v, inside (n + 1) (n + 1) now v (omega arith) (omega arith))
