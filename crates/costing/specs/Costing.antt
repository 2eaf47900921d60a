-- The costing call: an equation line and a plan line, and whether the plan meets the equation. Assumes nothing.
use Rattle.std.specs.Prelude.{◌≡◌, ℕ, ◌+◌, Bool, true, false, cond, ◌&&◌, List, [], ◌∷◌, length, ℤ, pos, ◌+ℤ◌, ◌*ℤ◌, neg_ℤ, Some, None, Ok, Err, Option, Result, ◌==◌, nat_lt, unsigned_abs}
use Rattle.kinds.specs.declared.whole.Whole.{Whole}
use Rattle.kinds.specs.Equation.{Equation, equation_of, Meets}
use Rattle.kinds.specs.Whole.{fitted}
use Rattle.faults.specs.declared.LineFault.{LineFault}
use Rattle.faults.specs.Faults.{line_fault}
use Rattle.lines.specs.Line.{most_numbers, numbers, refusal}
use Rattle.costing.specs.declared.Refusal.{Refusal}
use Rattle.costing.specs.declared.Refusal.TheVariants.{Equation as InEquation, Plan as InPlan, Count, Overflow}

-- the frames of the two lines
abbrev pub equation_frame : ℕ
equation_frame = 2

abbrev pub plan_frame : ℕ
plan_frame = 130

-- the running sum from s of coefficient × entry; none as soon as it leaves the whole kind
abbrev pub running : Option Whole → List ℤ → List ℤ → Option Whole
running None cs xs = None
running (Some s) [] xs = Some s
running (Some s) (c ∷ cs) [] = Some s
running (Some s) (c ∷ cs) (x ∷ xs) = running (fitted (s.value +ℤ c *ℤ x)) cs xs

-- from minus the right side
abbrev pub balance_of : Equation → List ℤ → Option Whole
balance_of e plan = running (fitted (neg_ℤ e.right)) e.coefficients plan

-- the same by the numbers of the two lines
abbrev pub lines_balance : List ℤ → List ℤ → Option Whole
lines_balance ws plan = balance_of (equation_of (length plan) ws) plan

-- the plan has 1 to 24 numbers, n, and the equation one more, m, so that a line can have them
abbrev pub counts_fit : ℕ → ℕ → Bool
counts_fit m n = nat_lt 0 n && (nat_lt n most_numbers && m == n + 1)

-- whether the running sum comes to nothing
abbrev pub is_balanced : Option Whole → Result Bool Refusal
is_balanced None = Err Overflow
is_balanced (Some s) = Ok (unsigned_abs s.value == 0)

-- the answer by the numbers of the two lines
abbrev pub judgement : List ℤ → List ℤ → Result Bool Refusal
judgement ws plan = cond (counts_fit (length ws) (length plan)) (is_balanced (lines_balance ws plan)) (Err Count)

-- the rest, unless a line is refused
abbrev pub unless : Option LineFault → (LineFault → Refusal) → Result Bool Refusal → Result Bool Refusal
unless None how rest = rest
unless (Some fault) how rest = Err (how fault)

-- the answer by the bytes of the two lines
abbrev pub verdict : List ℕ → List ℕ → Result Bool Refusal
verdict equation plan =
    unless (refusal (equation_frame ∷ []) equation) InEquation
    (unless (refusal (plan_frame ∷ []) plan) InPlan (judgement (numbers equation) (numbers plan)))

abbrev pub refusal_number : Refusal → ℕ
refusal_number (InEquation fault) = line_fault fault
refusal_number (InPlan fault) = line_fault fault
refusal_number Count = 9
refusal_number Overflow = 15

-- the answer as one number
abbrev pub answer : Result Bool Refusal → ℤ
answer (Ok true) = pos 1
answer (Ok false) = pos 0
answer (Err refused) = pos (refusal_number refused)

-- the plan of the second line meets the equation of the first, in whole numbers of any size
abbrev pub LinesMeet : List ℕ → List ℕ → Type 0
LinesMeet equation plan = Meets 0 (equation_of (length (numbers plan)) (numbers equation)) (numbers plan)

-- what an answer of 1 means, and one of 0
pub record Means (r : ℤ) (equation plan : List ℕ) : Type 0 where
  pub yes_meets : r ≡ pos 1 → LinesMeet equation plan
  pub no_meets : r ≡ pos 0 → LinesMeet equation plan → ⊥
