-- The columns of a posting, laid below their tops.
use Rattle.std.proofs.Common.{◌≡◌, ℕ, ◌+◌, ◌*◌, ◌≤◌, ◌⊎◌, List, length, take, Some, None, Option, sym, ap, ◌∙◌, inl, inr, arith}
use Rattle.kinds.specs.Kind.{Arithmetic}
use Rattle.plans.specs.Posting.{then, running, topped, column_B}
use Rattle.sheets.specs.Cells.{part, numbers, moves_at}
use Rattle.sheets.specs.Combining.{Within}
use Rattle.sheets.specs.Work.{column_at, columns_at, Laid}
use Rattle.sheets.proofs.Laying.{part_before}
use Rattle.sheets.proofs.Limits.{only_within, within_wider, within_trans}
use Rattle.sheets.proofs.Rounding.{columns_kept}

module _ {N C : Type 0} (a : Arithmetic N C) (cs : List N) (right : N) (n p k : ℕ) (start : List C) (main : n + k * n ≤ p) (room : p + ((n + 1) + k * (n + 1)) ≤ length start) (ds : List C) (w : Within (p + (n + 1)) (k * (n + 1)) start ds) where
  wide : Within p ((n + 1) + k * (n + 1)) start ds
  wide = within_wider w (omega arith) (omega arith)

  pub tops_fail : topped a cs (moves_at a start n k) ≡ None → ((topped a cs (moves_at a start n k) ≡ None) ⊎ (column_B a cs right (numbers a (take n start)) ≡ None)) × Within p ((n + 1) + k * (n + 1)) start ds
  tops_fail e = (inl e, wide)

  fixed_same : numbers a (part 0 n ds) ≡ numbers a (take n start)
  fixed_same = ap (numbers a) (part_before (p + (n + 1)) (k * (n + 1)) 0 n start ds w (omega arith))

  pub B_fail : (s : N) → s ≡ a.negative right → running a s cs (numbers a (part 0 n ds)) ≡ None → ((topped a cs (moves_at a start n k) ≡ None) ⊎ (column_B a cs right (numbers a (take n start)) ≡ None)) × Within p ((n + 1) + k * (n + 1)) start ds
  B_fail s es e =
      (inr (ap (λ (o : Option N). then o (λ t. Some (record { top = t; low = numbers a (take n start) }))) (sym (λ i. running a (es i) cs (fixed_same i)) ∙ e)), wide)

  pub prepared : (es : List C) (s t : N) → topped a cs (moves_at a start n k) ≡ Some (columns_at a ds n (p + (n + 1)) k) → s ≡ a.negative right → running a s cs (numbers a (part 0 n ds)) ≡ Some t → Laid a n p t 0 ds es
      → (topped a cs (moves_at a start n k) ≡ Some (columns_at a es n (p + (n + 1)) k)) × (column_B a cs right (numbers a (take n start)) ≡ Some (column_at a es n p)) × Within p ((n + 1) + k * (n + 1)) start es
  prepared es s t et e1 e2 (c, o) =
      let le = w.len in
      let z = a.to_cell a.zero in
      let T : columns_at a es n (p + (n + 1)) k ≡ columns_at a ds n (p + (n + 1)) k = columns_kept a n (p + (n + 1)) k ds es (omega arith) p (n + 1) o (omega arith) (inr (omega arith)) in (
        et ∙ ap Some (sym T),
        ap (λ (x : Option N). then x (λ t. Some (record { top = t; low = numbers a (take n start) }))) (sym (λ i. running a (e1 i) cs (fixed_same i)) ∙ e2)
            ∙ ap Some (sym (c ∙ ap (λ (x : List N). record { top = t; low = x }) fixed_same)),
        within_trans wide (only_within z p (n + 1) p ((n + 1) + k * (n + 1)) ds es o (omega arith) (omega arith) (omega arith)),
      )
