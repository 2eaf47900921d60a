-- At most one answer to a call is right.
use Rattle.std.proofs.Common.{◌≡◌, ℕ, Bool, true, false, eqb, ltb, ◌+◌, List, length, ℤ, Ok, Err, sym, refl, ap, ◌∙◌}
use Rattle.std.proofs.lemmas.Bool.{eqb-true, eqb-false, ltb-true, ltb-false}
use Rattle.faults.specs.declared.NumberFault.TheVariants.{Lowest, Modulus, Unknowns, ListNumber, NotAdmitted}
use Rattle.faults.specs.declared.SheetFault.TheVariants.{Page, Line, Number, NoSheet, Count, FewCells, Overflow, Contradicted}
use Rattle.kinds.specs.Kind.{Arithmetic}
use Rattle.kinds.specs.Equation.{Equation}
use Rattle.lines.specs.Page.{Model as PageModel, HasRoom}
use Rattle.plans.specs.Sheet.{Contents}
use Rattle.plans.specs.Solution.{Judgement, is_taken, is_implied, is_contradicted, Verdict}
use Rattle.sheets.specs.Answers.{Answer, verdict_answer}
use Rattle.sheets.specs.Law.{GoesThrough, RightlyRefused, RightlyCleared, RightlyShown}
use Rattle.sheets.specs.Showing.{rows_length}
use Rattle.sheets.specs.OneAnswer.{OneAnswer}

-- an answer is one of the four refusals, or goes through
data Fate (r : Answer) : Type 0 where
  no_unknowns : r ≡ Err NoSheet → Fate r
  count : r ≡ Err Count → Fate r
  word : (i : ℕ) → r ≡ Err (Number (NotAdmitted i)) → Fate r
  overflows : r ≡ Err Overflow → Fate r
  through : GoesThrough r → Fate r

goes : (r : Answer) → ¬ (r ≡ Err NoSheet) → ¬ (r ≡ Err Count) → ((i : ℕ) → ¬ (r ≡ Err (Number (NotAdmitted i)))) → ¬ (r ≡ Err Overflow) → Fate r
goes r a b c d = through (record { has_unknowns = a; right_count = b; words_admitted = c; no_overflow = d })

fate : (r : Answer) → Fate r
fate (Err NoSheet) = no_unknowns refl
fate (Err Count) = count refl
fate (Err (Number (NotAdmitted i))) = word i refl
fate (Err Overflow) = overflows refl
fate (Ok success) = goes _ (λ e. absurd cc) (λ e. absurd cc) (λ i e. absurd cc) (λ e. absurd cc)
fate (Err (Page fault)) = goes _ (λ e. absurd cc) (λ e. absurd cc) (λ i e. absurd cc) (λ e. absurd cc)
fate (Err (Line fault)) = goes _ (λ e. absurd cc) (λ e. absurd cc) (λ i e. absurd cc) (λ e. absurd cc)
fate (Err FewCells) = goes _ (λ e. absurd cc) (λ e. absurd cc) (λ i e. absurd cc) (λ e. absurd cc)
fate (Err Contradicted) = goes _ (λ e. absurd cc) (λ e. absurd cc) (λ i e. absurd cc) (λ e. absurd cc)
fate (Err (Number Lowest)) = goes _ (λ e. absurd cc) (λ e. absurd cc) (λ i e. absurd cc) (λ e. absurd cc)
fate (Err (Number Modulus)) = goes _ (λ e. absurd cc) (λ e. absurd cc) (λ i e. absurd cc) (λ e. absurd cc)
fate (Err (Number Unknowns)) = goes _ (λ e. absurd cc) (λ e. absurd cc) (λ i e. absurd cc) (λ e. absurd cc)
fate (Err (Number ListNumber)) = goes _ (λ e. absurd cc) (λ e. absurd cc) (λ i e. absurd cc) (λ e. absurd cc)

-- two answers that are refused in the same cases are the same refusal, or both go through
refused_alike : {N C : Type 0} {a : Arithmetic N C} {n : ℕ} {ws : List ℤ} {Counted Lacking : Type 0} (r q : Answer) →
    RightlyRefused a n ws Counted Lacking r → RightlyRefused a n ws Counted Lacking q → (GoesThrough r → GoesThrough q → r ≡ q) → r ≡ q
refused_alike r q v w rest = by (fate r) (fate q)
  where
    by : Fate r → Fate q → r ≡ q
    by (no_unknowns e) _ = e ∙ sym (w.no_unknowns.1 (v.no_unknowns.0 e))
    by (count e) _ = e ∙ sym (w.count.1 (v.count.0 e))
    by (word i e) _ = e ∙ sym ((w.word i).1 ((v.word i).0 e))
    by (overflows e) _ = e ∙ sym (w.overflow.1 (v.overflow.0 e))
    by (through g) (no_unknowns e) = v.no_unknowns.1 (w.no_unknowns.0 e) ∙ sym e
    by (through g) (count e) = v.count.1 (w.count.0 e) ∙ sym e
    by (through g) (word i e) = (v.word i).1 ((w.word i).0 e) ∙ sym e
    by (through g) (overflows e) = v.overflow.1 (w.overflow.0 e) ∙ sym e
    by (through g) (through h) = rest g h

-- of the three verdicts only one is right
one_verdict : {m n : ℕ} {es : List Equation} {e : Equation} (j k : Judgement) → Verdict m n es e j → Verdict m n es e k → k ≡ j
one_verdict is_taken k v w = w.some_do.1 (v.some_do.0 refl)
one_verdict is_implied k v w = w.all_do.1 (v.all_do.0 refl)
one_verdict is_contradicted k v w = w.none_does.1 (v.none_does.0 refl)

one_cleared : {N C : Type 0} (a : Arithmetic N C) (n : ℕ) (r q : Answer) → RightlyCleared a n r → RightlyCleared a n q → r ≡ q
one_cleared a n r q v w = by (eqb n 0) refl
  where
    by : (b : Bool) → eqb n 0 ≡ b → r ≡ q
    by true e = let z = eqb-true n 0 e in v.no_unknowns.1 z ∙ sym (w.no_unknowns.1 z)
    by false e = let z = eqb-false n 0 e in v.done.1 z ∙ sym (w.done.1 z)

one_showed : {N C : Type 0} (a : Arithmetic N C) (n : ℕ) (s : Contents N) (lent : PageModel) (r q : Answer) (page other : PageModel) →
    RightlyShown a n s lent r page → RightlyShown a n s lent q other → r ≡ q
one_showed a n s lent r q page other v w = by lent.begun (eqb n 0) (ltb (length lent.bytes) (lent.end + rows_length (length s.moves) n)) refl refl refl
  where
    by : (begun none long : Bool) → lent.begun ≡ begun → eqb n 0 ≡ none → ltb (length lent.bytes) (lent.end + rows_length (length s.moves) n) ≡ long → r ≡ q
    by true none long p e l = v.line_begun.1 p ∙ sym (w.line_begun.1 p)
    by false true long p e l = let z = eqb-true n 0 e in v.no_unknowns.1 (p, z) ∙ sym (w.no_unknowns.1 (p, z))
    by false false true p e l =
        let z = eqb-false n 0 e in
        let k = ltb-true (length lent.bytes) (lent.end + rows_length (length s.moves) n) l in
        v.no_room.1 (p, z, k) ∙ sym (w.no_room.1 (p, z, k))
    by false false false p e l =
        let z = eqb-false n 0 e in
        let k : HasRoom lent (rows_length (length s.moves) n) =
        record { idle = p; room = ltb-false (length lent.bytes) (lent.end + rows_length (length s.moves) n) l } in
        v.done.1 (z, k) ∙ sym (w.done.1 (z, k))

pub one_right : {N C : Type 0} (a : Arithmetic N C) → OneAnswer a
one_right a = record {
  posted = λ n es s ws r q v w. refused_alike r q v.refused w.refused
      (λ g h. let j = v.verdict g in let k = w.verdict h in j.1 ∙ ap verdict_answer (sym (one_verdict j.0 k.0 j.2 k.2)) ∙ sym k.1);
  cleared = one_cleared a;
  picked = λ n es s choice lent r q plan other v w. refused_alike r q v.refused w.refused (λ g h. v.done g ∙ sym (w.done h));
  showed = one_showed a;
}
