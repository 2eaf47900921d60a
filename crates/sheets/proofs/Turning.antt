-- Turns of the rounds, on the columns in cells.
use Rattle.std.proofs.Common.{◌≡◌, ℕ, zero, suc, ◌+◌, ◌<◌, Bool, true, false, cond, eqb, ltb, ◌≢◌, List, length, Some, None, Ok, Err, Option, sym, refl, ap, ◌∙◌, arith}
use Rattle.kinds.specs.Kind.{Arithmetic, Laws}
use Rattle.plans.specs.Posting.{Column, Work, Turn, stop, again, fail, larger, largest_of, size_at, pivot_of, runner_up_of, round, turned, turn_by, turn_at, turn, on, rounds, total_size}
use Rattle.plans.proofs.Bests.{best_some}
use Rattle.plans.proofs.Falling.{enough, turn_falls}
use Rattle.sheets.specs.Cells.{top_size}
use Rattle.sheets.specs.Work.{columns_at, work_at, work_cells, rounds_at, Ended, unless_zero}
use Rattle.sheets.specs.Combining.{Within}
use Rattle.sheets.proofs.Limits.{within_trans}
use Rattle.sheets.proofs.NextPivot.{next_pivot}
use Rattle.sheets.proofs.Rounding.{length_columns, column_of}

largest_same : (f g : ℕ → ℕ) (s n : ℕ) → ((j : ℕ) → j < n → f j ≡ g j) → largest_of f s n ≡ largest_of g s n
largest_same f g s zero h = refl
largest_same f g s (suc n) h =
    let i = largest_same f g s n (λ j b. h j (omega arith)) in
    let l : larger f n (largest_of f s n) ≡ larger g n (largest_of g s n) = ap (larger f n) i ∙ bigger (largest_of g s n) (best_below (largest_of g s n) refl) in
    λ k. cond (eqb n s) (i k) (l k)
  where
    best_below : (o : Option ℕ) → largest_of g s n ≡ o → (b : ℕ) → o ≡ Some b → b < n
    best_below o e b q = (best_some g s n b (e ∙ q)).0

    bigger : (o : Option ℕ) → ((b : ℕ) → o ≡ Some b → b < n) → larger f n o ≡ larger g n o
    bigger None w = refl
    bigger (Some b) w = let x = h b (let c = w b refl in omega arith) in let y = h n (omega arith) in λ k. Some (cond (ltb (x k) (y k)) n b)

module _ {N C : Type 0} (a : Arithmetic N C) (n p k : ℕ) (cs : List C) where
  abbrev T : List (Column N)
  T = columns_at a cs n (p + (n + 1)) k

  abbrev W : Work N
  W = work_at a cs n p k

  sizes : (j : ℕ) → j < k → size_at a T j ≡ top_size a cs (p + (n + 1)) n j
  sizes j h = ap (λ (c : Column N). a.size c.top) (column_of a n (p + (n + 1)) k cs j _ h)

  pub pivots : pivot_of a T ≡ largest_of (top_size a cs (p + (n + 1)) n) k k
  pivots = let l = length_columns a n (p + (n + 1)) k cs in (λ i. largest_of (size_at a T) (l i) (l i)) ∙ largest_same (size_at a T) (top_size a cs (p + (n + 1)) n) k k sizes

  runners : (l : ℕ) → runner_up_of a T l ≡ largest_of (top_size a cs (p + (n + 1)) n) l k
  runners l = let e = length_columns a n (p + (n + 1)) k cs in (λ i. largest_of (size_at a T) l (e i)) ∙ largest_same (size_at a T) (top_size a cs (p + (n + 1)) n) l k sizes

  module _ (l : ℕ) (el : pivot_of a T ≡ Some l) where
    pub pivot_below : l < k
    pivot_below = let b = (best_some (size_at a T) (length T) (length T) l el).0 in let e = length_columns a n (p + (n + 1)) k cs in omega arith

    turn_l : turn a W ≡ turn_by a W l (largest_of (top_size a cs (p + (n + 1)) n) l k)
    turn_l = ap (turn_at a W) el ∙ ap (turn_by a W l) (runners l)

    abbrev size : ℕ → ℕ
    size = top_size a cs (p + (n + 1)) n

    -- the runner-up, unless its top has size 0
    abbrev left : Option ℕ
    left = unless_zero size (largest_of size l k)

    abbrev turn_on : Option ℕ → Turn N
    turn_on None = stop l
    turn_on (Some r) = turned a (round a W l r)

    by_left : (o : Option ℕ) → largest_of size l k ≡ o → turn_by a W l o ≡ turn_on (unless_zero size o)
    by_left None e = refl
    by_left (Some r) e = ap (λ (s : ℕ). cond (eqb s 0) (stop l) (turned a (round a W l r))) (sizes r (best_some size l k r e).0) ∙ by (eqb (size r) 0)
      where
        by : (b : Bool) → cond b (stop l) (turned a (round a W l r)) ≡ turn_on (cond b None (Some r))
        by true = refl
        by false = refl

    pub turn_stop : left ≡ None → turn a W ≡ stop l
    turn_stop e = turn_l ∙ by_left (largest_of size l k) refl ∙ ap turn_on e

    module _ (r : ℕ) (er : left ≡ Some r) where
      pub turn_round : turn a W ≡ turned a (round a W l r)
      turn_round = turn_l ∙ by_left (largest_of size l k) refl ∙ ap turn_on er

      is_largest : largest_of size l k ≡ Some r
      is_largest = by (largest_of size l k) er
        where
          by_size : (b : Bool) (j : ℕ) → ◌≡◌ {A = Option ℕ} (cond b None (Some j)) (Some r) → ◌≡◌ {A = Option ℕ} (Some j) (Some r)
          by_size true j e = absurd cc
          by_size false j e = e

          by : (o : Option ℕ) → unless_zero size o ≡ Some r → o ≡ Some r
          by None e = e
          by (Some j) e = by_size (eqb (size j) 0) j e

      pub pivot_not_runner : l ≢ r
      pivot_not_runner e = (best_some size l k r is_largest).1 (sym e)

      pub next : (laws : Laws a) (ds : List C) → turn a W ≡ again (work_at a ds n p k) → pivot_of a (columns_at a ds n (p + (n + 1)) k) ≡ Some r
      next laws ds e = next_pivot a laws W (work_at a ds n p k) l r el (runners l ∙ is_largest) e

-- the rounds so far: what is left of them comes to the same
pub record SoFar {N C : Type 0} (a : Arithmetic N C) (n p k : ℕ) (start now : List C) : Type 0 where
  pub inside : Within p (work_cells a n k) start now
  pub same : rounds_at a now n p k ≡ rounds_at a start n p k

module _ {N C : Type 0} (a : Arithmetic N C) (laws : Laws a) (n p k : ℕ) where
  pub falls : (cs ds : List C) → turn a (work_at a cs n p k) ≡ again (work_at a ds n p k) → total_size a (columns_at a ds n (p + (n + 1)) k) < total_size a (columns_at a cs n (p + (n + 1)) k)
  falls cs ds e = turn_falls a laws (work_at a cs n p k) (work_at a ds n p k) e

  rounds_on : (cs ds : List C) → turn a (work_at a cs n p k) ≡ again (work_at a ds n p k) → rounds_at a cs n p k ≡ rounds_at a ds n p k
  rounds_on cs ds e =
      let w = work_at a cs n p k in
      let v = work_at a ds n p k in
      let t = total_size a w.columns in
      ap (on a (rounds a t) w) e ∙ enough a laws t (suc (total_size a v.columns)) v (falls cs ds e) (omega arith)

  pub so_far_more : (start cs ds : List C) → SoFar a n p k start cs → turn a (work_at a cs n p k) ≡ again (work_at a ds n p k) → Within p (work_cells a n k) cs ds → SoFar a n p k start ds
  so_far_more start cs ds f e w = record { inside = within_trans f.inside w; same = sym (rounds_on cs ds e) ∙ f.same }

  -- with no column there is no turn
  pub so_far_none : (start : List C) → pivot_of a (columns_at a start n (p + (n + 1)) k) ≡ None → rounds_at a start n p k ≡ None
  so_far_none start e = let w = work_at a start n p k in ap (λ (o : Option ℕ). on a (rounds a (total_size a w.columns)) w (turn_at a w o)) e

  pub so_far_fail : (start cs ds : List C) → SoFar a n p k start cs → turn a (work_at a cs n p k) ≡ fail → Within p (work_cells a n k) cs ds → Ended a n p k start (Err (record {})) ds
  so_far_fail start cs ds f e w = (sym f.same ∙ ap (on a (rounds a (total_size a (columns_at a cs n (p + (n + 1)) k))) (work_at a cs n p k)) e, within_trans f.inside w)

  pub so_far_stop : (start cs : List C) (l : ℕ) → SoFar a n p k start cs → l < k → turn a (work_at a cs n p k) ≡ stop l → Ended a n p k start (Ok l) cs
  so_far_stop start cs l f h e = (sym f.same ∙ ap (on a (rounds a (total_size a (columns_at a cs n (p + (n + 1)) k))) (work_at a cs n p k)) e, h, f.inside)
