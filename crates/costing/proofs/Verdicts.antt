-- What the answers mean.
use Rattle.std.proofs.Common.{◌≡◌, ℕ, ◌≤◌, Bool, true, false, cond, eqb, List, [], ◌∷◌, length, ℤ, pos, ◌+ℤ◌, neg_ℤ, nat_abs, Some, None, Ok, Err, Option, Result, sym, refl, ap, ◌∙◌, arith, lit≤}
use borrow.Author.Differences.{ints}
use Rattle.std.proofs.lemmas.Bool.{eqb-true, eqb-false}
use Rattle.kinds.specs.declared.whole.Whole.{Whole}
use Rattle.kinds.specs.Equation.{equation_of, dot}
use Rattle.kinds.specs.Sames.{same_eq}
use Rattle.kinds.specs.Wholes.{equal, abs_zero}
use Rattle.faults.specs.declared.NumberFault.{NumberFault}
use Rattle.faults.specs.declared.NumberFault.TheVariants.{Lowest, Modulus, Unknowns, ListNumber, NotAdmitted}
use Rattle.faults.specs.declared.LineFault.{LineFault}
use Rattle.faults.specs.declared.LineFault.TheVariants.{FewWords, Length, NoDigit, Size, Frame, Count as LineCount, Number}
use Rattle.faults.specs.Faults.{number_fault, line_fault}
use Rattle.lines.specs.Line.{numbers, refusal}
use Rattle.costing.specs.declared.Refusal.{Refusal}
use Rattle.costing.specs.declared.Refusal.TheVariants.{Equation as InEquation, Plan as InPlan, Count, Overflow}
use Rattle.costing.specs.Costing.{equation_frame, plan_frame, balance_of, counts_fit, is_balanced, judgement, unless, verdict, refusal_number, answer, LinesMeet, Means}
use Rattle.costing.proofs.Sums.{running_from}

unless_ok : (o : Option LineFault) (how : LineFault → Refusal) (rest : Result Bool Refusal) (b : Bool) → unless o how rest ≡ Ok b → rest ≡ Ok b
unless_ok None how rest b e = e
unless_ok (Some f) how rest b e = absurd cc

balanced_ok : (o : Option Whole) (b : Bool) → is_balanced o ≡ Ok b → (s : Whole) × ((o ≡ Some s) × (eqb (nat_abs s.value) 0 ≡ b))
balanced_ok None b e = absurd cc
balanced_ok (Some s) b e = (s, (refl, cc))

counted_ok : (t : Bool) (rest : Result Bool Refusal) (b : Bool) → cond t rest (Err Count) ≡ Ok b → rest ≡ Ok b
counted_ok true rest b e = e
counted_ok false rest b e = absurd cc

-- an answer that is no refusal comes from the exact sum
summed : (e p : List ℕ) (b : Bool) → verdict e p ≡ Ok b → (s : Whole) × ((s.value ≡ neg_ℤ (equation_of (length (numbers p)) (numbers e)).right +ℤ dot (equation_of (length (numbers p)) (numbers e)).coefficients (numbers p)) × (eqb (nat_abs s.value) 0 ≡ b))
summed e p b v =
    let q = equation_of (length (numbers p)) (numbers e) in
    let j : judgement (numbers e) (numbers p) ≡ Ok b = unless_ok (refusal (plan_frame ∷ []) p) InPlan (judgement (numbers e) (numbers p)) b (unless_ok (refusal (equation_frame ∷ []) e) InEquation (unless (refusal (plan_frame ∷ []) p) InPlan (judgement (numbers e) (numbers p))) b v) in
    let k = balanced_ok (balance_of q (numbers p)) b (counted_ok (counts_fit (length (numbers e)) (length (numbers p))) (is_balanced (balance_of q (numbers p))) b j) in
    (k.0, (running_from (neg_ℤ q.right) q.coefficients (numbers p) k.0 k.1.0, k.1.1))

met : (e p : List ℕ) → verdict e p ≡ Ok true → LinesMeet e p
met e p v =
    let q = equation_of (length (numbers p)) (numbers e) in
    let k = summed e p true v in
    let z : k.0.value ≡ pos 0 = abs_zero k.0.value (eqb-true _ _ k.1.1) in
    let y : neg_ℤ q.right +ℤ dot q.coefficients (numbers p) ≡ pos 0 = sym k.1.0 ∙ z in
    same_eq (zero_sum q.right (dot q.coefficients (numbers p)) y)
  where
    zero_sum : (a d : ℤ) → neg_ℤ a +ℤ d ≡ pos 0 → d ≡ a
    zero_sum a d h = omega (arith, ints)

unmet : (e p : List ℕ) → verdict e p ≡ Ok false → LinesMeet e p → ⊥
unmet e p v m =
    let q = equation_of (length (numbers p)) (numbers e) in
    let k = summed e p false v in
    let z : k.0.value ≡ pos 0 = k.1.0 ∙ sum_zero q.right (dot q.coefficients (numbers p)) (equal m) in
    eqb-false _ _ k.1.1 (ap nat_abs z)
  where
    sum_zero : (a d : ℤ) → d ≡ a → neg_ℤ a +ℤ d ≡ pos 0
    sum_zero a d h = omega (arith, ints)

-- a refusal's number is 2 or more
number_large : (f : NumberFault) → 2 ≤ number_fault f
number_large Lowest = lit≤ tt
number_large Modulus = lit≤ tt
number_large Unknowns = lit≤ tt
number_large ListNumber = lit≤ tt
number_large (NotAdmitted i) = lit≤ tt

line_large : (f : LineFault) → 2 ≤ line_fault f
line_large FewWords = lit≤ tt
line_large Length = lit≤ tt
line_large (NoDigit p) = lit≤ tt
line_large Size = lit≤ tt
line_large Frame = lit≤ tt
line_large LineCount = lit≤ tt
line_large (Number f p) = number_large f

refusal_large : (f : Refusal) → 2 ≤ refusal_number f
refusal_large (InEquation f) = line_large f
refusal_large (InPlan f) = line_large f
refusal_large Count = lit≤ tt
refusal_large Overflow = lit≤ tt

-- the number of an answer says which it is
answer_one : (o : Result Bool Refusal) → answer o ≡ pos 1 → o ≡ Ok true
answer_one (Ok true) e = refl
answer_one (Ok false) e = absurd cc
answer_one (Err f) e = let z : refusal_number f ≡ 1 = cc in let l = refusal_large f in absurd (omega arith)

answer_zero : (o : Result Bool Refusal) → answer o ≡ pos 0 → o ≡ Ok false
answer_zero (Ok false) e = refl
answer_zero (Ok true) e = absurd cc
answer_zero (Err f) e = let z : refusal_number f ≡ 0 = cc in let l = refusal_large f in absurd (omega arith)

pub means : (e p : List ℕ) (r : ℤ) → r ≡ answer (verdict e p) → Means r e p
means e p r a = record { yes_meets = λ h. met e p (answer_one (verdict e p) (sym a ∙ h)); no_meets = λ h. unmet e p (answer_zero (verdict e p) (sym a ∙ h)) }
