-- The columns that a round changes, and those it leaves.
use Rattle.std.proofs.Common.{◌≡◌, ℕ, ◌+◌, ◌*◌, ◌<◌, ◌≤◌, ◌≢◌, ◌⊎◌, List, length, get_or, set, Some, None, Option, sym, refl, ap, ◌∙◌, inl, inr, ⊎_elim, arith}
use Rattle.std.proofs.lemmas.List.FromFn.{length-map-range_with_len, get_or-map-range_with_len}
use Rattle.std.proofs.lemmas.List.{length-set, get_or-set_same, get_or-set_other, ext_get_or}
use Rattle.std.proofs.lemmas.Bool.{cases_eq, cases_order}
use Rattle.kinds.specs.Kind.{Arithmetic}
use Rattle.plans.specs.Posting.{then, Column, Work, at, adds_column, round}
use Rattle.sheets.specs.Cells.{part, number, numbers, number_at}
use Rattle.sheets.specs.Work.{Only, column_at, columns_at, work_at, factors}
use Rattle.sheets.proofs.Places.{column_in}
use Rattle.sheets.proofs.Standing.{part_other}
use Rattle.sheets.proofs.Walks.{get_or_over}

module _ {N C : Type 0} (a : Arithmetic N C) (n : ℕ) where
  -- a change elsewhere leaves a column
  pub column_other : (cs ds : List C) (p h q : ℕ) → Only p h cs ds → p + h ≤ length cs → q + (n + 1) ≤ length cs → (q + (n + 1) ≤ p) ⊎ (p + h ≤ q) → column_at a ds n q ≡ column_at a cs n q
  column_other cs ds p h q (s, (l, e)) hp hq o =
      let z = a.to_cell a.zero in
      let t : number_at a ds q ≡ number_at a cs q = ap (number a) (ap (λ (x : List C). get_or x q z) e ∙ get_or_over cs s p q z (omega arith) (⊎_elim (λ b. inl (omega arith)) (λ b. inr (omega arith)) o)) in
      let u : numbers a (part (q + 1) n ds) ≡ numbers a (part (q + 1) n cs) = ap (numbers a) (ap (part (q + 1) n) e ∙ part_other z cs s p (q + 1) n (omega arith) (omega arith) (⊎_elim (λ b. inl (omega arith)) (λ b. inr (omega arith)) o)) in
      λ j. record { top = t j; low = u j }

  module _ (first k : ℕ) where
    pub length_columns : (cs : List C) → length (columns_at a cs n first k) ≡ k
    length_columns cs = length-map-range_with_len (λ j. column_at a cs n (first + j * (n + 1))) 0 k

    pub column_of : (cs : List C) (j : ℕ) (d : Column N) → j < k → get_or (columns_at a cs n first k) j d ≡ column_at a cs n (first + j * (n + 1))
    column_of cs j d h = get_or-map-range_with_len (λ j. column_at a cs n (first + j * (n + 1))) 0 k j j d h (omega arith)

    -- two columns do not meet
    pub columns_apart : (l r : ℕ) → l ≢ r → (first + l * (n + 1) + (n + 1) ≤ first + r * (n + 1)) ⊎ (first + r * (n + 1) + (n + 1) ≤ first + l * (n + 1))
    columns_apart l r ne =
        ⊎_elim (λ e. absurd (ne e)) (⊎_elim (λ b. let c = column_in l r (n + 1) b in inl (omega arith)) (λ b. let c = column_in r l (n + 1) b in inr (omega arith))) (cases_order l r)

    module _ (cs ds : List C) (room : first + k * (n + 1) ≤ length cs) where
      in_room : (j : ℕ) → j < k → first + j * (n + 1) + (n + 1) ≤ length cs
      in_room j h = let c = column_in j k (n + 1) h in omega arith

      -- and all columns
      pub columns_kept : (p h : ℕ) → Only p h cs ds → p + h ≤ length cs → (first + k * (n + 1) ≤ p) ⊎ (p + h ≤ first) → columns_at a ds n first k ≡ columns_at a cs n first k
      columns_kept p h o hp side =
          let d = column_at a cs n 0 in
          ext_get_or d (columns_at a ds n first k) (columns_at a cs n first k) (length_columns ds ∙ sym (length_columns cs))
          (λ j b.
          let jk : j < k = let l = length_columns ds in omega arith in
          let c = column_in j k (n + 1) jk in
          column_of ds j d jk ∙ column_other cs ds p h (first + j * (n + 1)) o hp (in_room j jk) (⊎_elim (λ b. inl (omega arith)) (λ b. inr (omega arith)) side) ∙ sym (column_of cs j d jk))

      -- a change of one column leaves the others
      pub columns_set : (l : ℕ) → l < k → Only (first + l * (n + 1)) (n + 1) cs ds → columns_at a ds n first k ≡ set (columns_at a cs n first k) l (column_at a ds n (first + l * (n + 1)))
      columns_set l h o =
          let d = column_at a cs n 0 in
          let c = column_at a ds n (first + l * (n + 1)) in
          let T = columns_at a cs n first k in
          ext_get_or d (columns_at a ds n first k) (set T l c) (length_columns ds ∙ sym (length-set T l c ∙ length_columns cs))
          (λ j b.
          let jk : j < k = let m = length_columns ds in omega arith in
          column_of ds j d jk
          ∙ ⊎_elim
          (λ e. ap (λ (i : ℕ). column_at a ds n (first + i * (n + 1))) e ∙ sym (ap (λ (i : ℕ). get_or (set T l c) i d) e ∙ get_or-set_same T l c d (let m = length_columns cs in omega arith)))
          (λ ne. column_other cs ds (first + l * (n + 1)) (n + 1) (first + j * (n + 1)) o (in_room l h) (in_room j jk) (columns_apart j l ne) ∙ sym (get_or-set_other T l j c d ne ∙ column_of cs j d jk))
          (cases_eq j l))

-- once the quotients of a round came, it adds twice
module _ {N C : Type 0} (a : Arithmetic N C) (w : Work N) (l r : ℕ) where
  abbrev B_by : N → Option (Column N)
  B_by x = adds_column a w.B x (at a w.columns l)

  abbrev pivot_by : N → Option (Column N)
  pivot_by y = adds_column a (at a w.columns l) y (at a w.columns r)

  abbrev both : Option (Column N) → Option (Column N) → Option (Work N)
  both o u = then o (λ b. then u (λ d. Some (record { B = b; columns = set w.columns l d })))

  abbrev quotients : Option (N × N)
  quotients = factors a w.B.top (at a w.columns l).top (at a w.columns r).top

  second_none : (o : Option (Column N)) → both o None ≡ None
  second_none None = refl
  second_none (Some b) = refl

  pub round_by : (x y : N) → quotients ≡ Some (x, y) → round a w l r ≡ both (B_by x) (pivot_by y)
  round_by x y e = by (a.quotient w.B.top (at a w.columns l).top) (a.quotient (at a w.columns l).top (at a w.columns r).top) e
    where
      by : (o u : Option N) → then {Y = N × N} o (λ q. then {Y = N × N} u (λ s. Some (a.negative q, a.negative s))) ≡ Some (x, y) → both (then o (λ q. B_by (a.negative q))) (then u (λ q. pivot_by (a.negative q))) ≡ both (B_by x) (pivot_by y)
      by None u e = absurd cc
      by (Some q) None e = absurd cc
      by (Some q) (Some s) e =
          let z : ◌≡◌ {A = N × N} (a.negative q, a.negative s) (x, y) = cc in
          λ j. both (B_by (z j).0) (pivot_by (z j).1)

  pub round_none : quotients ≡ None → round a w l r ≡ None
  round_none e = by (a.quotient w.B.top (at a w.columns l).top) (a.quotient (at a w.columns l).top (at a w.columns r).top) e
    where
      by : (o u : Option N) → then {Y = N × N} o (λ q. then {Y = N × N} u (λ s. Some (a.negative q, a.negative s))) ≡ None → both (then o (λ q. B_by (a.negative q))) (then u (λ q. pivot_by (a.negative q))) ≡ None
      by None u e = refl
      by (Some q) None e = second_none (B_by (a.negative q))
      by (Some q) (Some s) e = absurd cc

  module _ (x y : N) (e : quotients ≡ Some (x, y)) where
    pub round_first_none : B_by x ≡ None → round a w l r ≡ None
    round_first_none h = round_by x y e ∙ ap (λ (o : Option (Column N)). both o (pivot_by y)) h

    pub round_second_none : pivot_by y ≡ None → round a w l r ≡ None
    round_second_none h = round_by x y e ∙ ap (both (B_by x)) h ∙ second_none (B_by x)

    pub round_came : (b d : Column N) → B_by x ≡ Some b → pivot_by y ≡ Some d → round a w l r ≡ Some (record { B = b; columns = set w.columns l d })
    round_came b d h k = round_by x y e ∙ (λ j. both (h j) (k j))

-- with no quotients there is no round
pub no_round : {N C : Type 0} (a : Arithmetic N C) (n start k l r : ℕ) (cs : List C) → l < k → r < k
    → factors a (number_at a cs start) (number_at a cs (start + (n + 1) + l * (n + 1))) (number_at a cs (start + (n + 1) + r * (n + 1))) ≡ None
    → round a (work_at a cs n start k) l r ≡ None
no_round a n start k l r cs hl hr e =
    let p = column_of a n (start + (n + 1)) k cs l _ hl in
    let q = column_of a n (start + (n + 1)) k cs r _ hr in
    round_none a (work_at a cs n start k) l r ((λ j. factors a (number_at a cs start) (p j).top (q j).top) ∙ e)
