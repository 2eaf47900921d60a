-- Which fixed plans and moves of two unknowns are the general solution, and which are not.
use Rattle.std.proofs.Common.{◌≡◌, ℕ, List, [], ◌∷◌, length, ℤ, pos, negsuc, refl, arith}
use Rattle.std.proofs.lemmas.Int.{ints}
use Rattle.kinds.specs.Equation.{Equation}
use Rattle.kinds.specs.Sames.{same_eq}
use Rattle.kinds.specs.Whole.{nearest, wholes}
use Rattle.kinds.specs.Wholes.{equal, whole_laws}
use Rattle.kinds.specs.Weekday.{day, weekdays}
use Rattle.kinds.specs.Weekdays.{weekday_laws}
use Rattle.plans.specs.Posting.{posted}
use Rattle.plans.specs.Promised.{Right}
use Rattle.plans.specs.Sheet.{new_sheet}
use Rattle.plans.specs.Solution.{SameLists, MeetsAll, plus, made, General}
use Rattle.plans.proofs.NewSheet.{new_general}
use Rattle.plans.proofs.Rightness.{posting_exact_lem}
use Rattle.plans.proofs.SameLists.{lists_eq, lists_head, lists_tail}
use Rattle.plans.specs.SampleSolutions.{pair, sum_one, SolutionSamples}

-- what one posting to a new sheet leaves
pub whole : General 0 2 (sum_one ∷ []) (pair (negsuc 2) (pos 2)) (pair (negsuc 4) (pos 3) ∷ [])
whole =
    let cs = nearest (pos 3) ∷ (nearest (pos 5) ∷ []) in
    let taken : Right wholes 2 [] sum_one (new_sheet wholes 2) (posted wholes (new_sheet wholes 2) cs (nearest (pos 1))) =
    posting_exact_lem wholes whole_laws 2 [] (new_sheet wholes 2) (new_general wholes whole_laws 2) sum_one refl cs (nearest (pos 1)) (lists_eq refl) (same_eq refl) in
    taken.holds.general

weekday : General 7 2 (sum_one ∷ []) (pair (pos 5) (pos 0)) (pair (pos 5) (pos 4) ∷ [])
weekday =
    let cs = day 3 ∷ (day 5 ∷ []) in
    let taken : Right weekdays 2 [] sum_one (new_sheet weekdays 2) (posted weekdays (new_sheet weekdays 2) cs (day 1)) =
    posting_exact_lem weekdays weekday_laws 2 [] (new_sheet weekdays 2) (new_general weekdays weekday_laws 2) sum_one refl cs (day 1) (lists_eq refl) (same_eq refl) in
    taken.holds.general

-- one move makes each plan that meets the equations, by some number
by_one : {m n : ℕ} {es : List Equation} {u v : List ℤ} → General m n es u (v ∷ []) → (plan : List ℤ) → length plan ≡ n → MeetsAll m es plan → (t : ℤ) × SameLists m plan (plus u t v)
by_one {m} {n} {es} {u} {v} g plan long meets = let r = (g.meets_iff_made plan long).0 meets in by r.0 r.1 r.2
  where
    by : (y : List ℤ) → length y ≡ 1 → SameLists m plan (made u (v ∷ []) y) → (t : ℤ) × SameLists m plan (plus u t v)
    by [] e s = absurd (omega arith)
    by (t ∷ y) e s = (t, s)

-- with no move only the fixed plan meets them
by_none : {m n : ℕ} {es : List Equation} {u : List ℤ} → General m n es u [] → (plan : List ℤ) → length plan ≡ n → MeetsAll m es plan → SameLists m plan u
by_none g plan long meets = ((g.meets_iff_made plan long).0 meets).2

-- a plan that a choice makes meets them
meets : {m n : ℕ} {es : List Equation} {u : List ℤ} {vs : List (List ℤ)} → General m n es u vs → (plan choice : List ℤ) → length plan ≡ n → length choice ≡ length vs → plan ≡ made u vs choice → MeetsAll m es plan
meets g plan choice long many e = (g.meets_iff_made plan long).1 (choice, many, lists_eq e)

pub no_double : ¬ General 0 2 (sum_one ∷ []) (pair (negsuc 2) (pos 2)) (pair (negsuc 9) (pos 6) ∷ [])
no_double g = let r = by_one g (pair (negsuc 7) (pos 5)) refl (same_eq refl, tt) in let e = equal (lists_head r.1) in omega (arith, ints)

pub not_pretended : ¬ General 0 2 (sum_one ∷ []) (pair (pos 0) (pos 0)) (pair (pos 1) (pos 0) ∷ (pair (pos 0) (pos 1) ∷ []))
not_pretended g = let e = equal (meets g (pair (pos 0) (pos 0)) (pair (pos 0) (pos 0)) refl refl refl).0 in omega (arith, ints)

pub not_one_kept : ¬ General 0 2 [] (pair (pos 0) (pos 0)) (pair (pos 1) (pos 0) ∷ [])
not_one_kept g = let r = by_one g (pair (pos 0) (pos 1)) refl tt in let e = equal (lists_head (lists_tail r.1)) in omega (arith, ints)

pub not_cleared : ¬ General 0 2 [] (pair (negsuc 2) (pos 2)) (pair (negsuc 4) (pos 3) ∷ [])
not_cleared g = let r = by_one g (pair (pos 0) (pos 0)) refl tt in let e = equal (lists_head r.1) in omega (arith, ints)

pub solutions : SolutionSamples
solutions = record {
  whole = whole;
  weekday = weekday;
  doubled = no_double;
  no_move = λ g. let e = equal (lists_head (by_none g (pair (negsuc 7) (pos 5)) refl (same_eq refl, tt))) in omega (arith, ints);
  pivot_kept = λ g. let e = equal (meets g (pair (negsuc 0) (pos 1)) (pos 1 ∷ []) refl refl refl).0 in omega (arith, ints);
  twice = λ g. let e = equal (lists_head (g.once (pair (pos 1) (pos 0)) (pair (pos 0) (pos 1)) refl refl (lists_eq refl))) in omega (arith, ints);
  other_plan = λ g. let e = equal (meets g (pair (negsuc 2) (pos 3)) (pos 0 ∷ []) refl refl refl).0 in omega (arith, ints);
  pretended = not_pretended;
  one_kept = not_one_kept;
  not_cleared = not_cleared;
  weekday_no_move = λ g. let s = lists_head (by_none g (pair (pos 3) (pos 4)) refl (record { times = pos 4; differ = refl }, tt)) in let e = s.differ in omega (arith, ints);
}
