-- The end of a posting, on the columns in cells.
use Rattle.std.proofs.Common.{◌≡◌, ℕ, ◌+◌, ◌*◌, ◌<◌, ◌≤◌, true, false, cond, eqb, List, map, length, Some, None, sym, ap, ◌∙◌, arith}
use Rattle.std.proofs.lemmas.List.{length-map}
use Rattle.std.proofs.lemmas.Bool.{cond-true, cond-false}
use Rattle.kinds.specs.Kind.{Arithmetic, Laws}
use Rattle.lines.specs.Page.{over}
use Rattle.plans.specs.Posting.{Column, Work, taken, contradicted, overflow, adds, at, closed, settled, finish_by, finish, without}
use Rattle.plans.proofs.Stored.{adds_length}
use Rattle.sheets.specs.Cells.{part, numbers, held, number_at}
use Rattle.sheets.specs.Work.{Only, column_at, columns_at, work_at}
use Rattle.sheets.proofs.Numbers.{length_numbers_part}
use Rattle.sheets.proofs.Places.{column_in}
use Rattle.sheets.proofs.Rounding.{column_of}
use Rattle.sheets.proofs.Standing.{part_over, numbers_held}

-- operations on equal numbers
pub quotients : {N C : Type 0} (a : Arithmetic N C) {b b' d d' : N} → b ≡ b' → d ≡ d' → a.quotient b d ≡ a.quotient b' d'
quotients a e f = λ i. a.quotient (e i) (f i)

pub products : {N C : Type 0} (a : Arithmetic N C) {b b' q q' d d' : N} → b ≡ b' → q ≡ q' → d ≡ d' → a.add_product b q d ≡ a.add_product b' q' d'
products a e g f = λ i. a.add_product (e i) (g i) (f i)

module _ {N C : Type 0} (a : Arithmetic N C) (n p k l : ℕ) (cs : List C) (room : p + ((n + 1) + k * (n + 1)) ≤ length cs) (hl : l < k) where
  abbrev W : Work N
  W = work_at a cs n p k

  abbrev T : List (Column N)
  T = columns_at a cs n (p + (n + 1)) k

  abbrev P : Column N
  P = column_at a cs n (p + (n + 1) + l * (n + 1))

  pivot_column : at a T l ≡ P
  pivot_column = column_of a n (p + (n + 1)) k cs l _ hl

  pub finish_none : a.quotient (number_at a cs p) P.top ≡ None → finish a (Some (l, W)) ≡ overflow
  finish_none e = ap (finish_by a W l) (ap (λ (c : Column N). a.quotient (number_at a cs p) c.top) pivot_column ∙ e)

  module _ (q : N) (eq : a.quotient (number_at a cs p) P.top ≡ Some q) where
    finish_q : finish a (Some (l, W)) ≡ settled a W l q (a.add_product (number_at a cs p) (a.negative q) P.top)
    finish_q =
        ap (finish_by a W l) (ap (λ (c : Column N). a.quotient (number_at a cs p) c.top) pivot_column ∙ eq)
        ∙ ap (λ (c : Column N). settled a W l q (a.add_product (number_at a cs p) (a.negative q) c.top)) pivot_column

    pub finish_top_none : a.add_product (number_at a cs p) (a.negative q) P.top ≡ None → finish a (Some (l, W)) ≡ overflow
    finish_top_none e = finish_q ∙ ap (settled a W l q) e

    module _ (t : N) (et : a.add_product (number_at a cs p) (a.negative q) P.top ≡ Some t) where
      finish_t : finish a (Some (l, W)) ≡ cond (eqb (a.size t) 0) (closed a T l (adds a (numbers a (part (p + 1) n cs)) (a.negative q) P.low)) contradicted
      finish_t = finish_q ∙ ap (settled a W l q) et ∙ ap (λ (c : Column N). cond (eqb (a.size t) 0) (closed a T l (adds a (numbers a (part (p + 1) n cs)) (a.negative q) c.low)) contradicted) pivot_column

      pub finish_contradicted : eqb (a.size t) 0 ≡ false → finish a (Some (l, W)) ≡ contradicted
      finish_contradicted e = finish_t ∙ cond-false (eqb (a.size t) 0) _ contradicted e

      module _ (ez : eqb (a.size t) 0 ≡ true) where
        finish_z : finish a (Some (l, W)) ≡ closed a T l (adds a (numbers a (part (p + 1) n cs)) (a.negative q) P.low)
        finish_z = finish_t ∙ cond-true (eqb (a.size t) 0) (closed a T l (adds a (numbers a (part (p + 1) n cs)) (a.negative q) P.low)) contradicted ez

        pub finish_low_none : adds a (numbers a (part (p + 1) n cs)) (a.negative q) P.low ≡ None → finish a (Some (l, W)) ≡ overflow
        finish_low_none e = finish_z ∙ ap (closed a T l) e

        pub finish_taken : (laws : Laws a) (ys : List N) (ds : List C) → adds a (numbers a (part (p + 1) n cs)) (a.negative q) P.low ≡ Some ys → ds ≡ over cs (p + 1) (held a ys)
            → (finish a (Some (l, W)) ≡ taken (record { fixed = numbers a (part (p + 1) n ds); moves = map (λ c. c.low) (without T l) })) × Only (p + 1) n cs ds
        finish_taken laws ys ds e s =
            let c = column_in l k (n + 1) hl in
            let lu = length_numbers_part a cs (p + 1) n (omega arith) in
            let ly : length ys ≡ n = adds_length a laws (numbers a (part (p + 1) n cs)) (a.negative q) P.low ys e ∙ lu in
            let lh : length (held a ys) ≡ n = length-map ys a.to_cell ∙ ly in
            let f : numbers a (part (p + 1) n ds) ≡ ys = ap (λ (x : List C). numbers a (part (p + 1) n x)) s ∙ ap (numbers a) (part_over cs (held a ys) (p + 1) n (omega arith) lh) ∙ numbers_held a laws ys in (
              finish_z ∙ ap (closed a T l) e ∙ ap (λ (x : List N). taken (record { fixed = x; moves = map (λ c. c.low) (without T l) })) (sym f),
              (held a ys, (lh, s)),
            )
