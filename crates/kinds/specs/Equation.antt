-- Equations and plans, in whole numbers of any sign and size. Assumes nothing.
use Rattle.std.specs.Prelude.{ℕ, List, [], ◌∷◌, take, ℤ, pos, ◌+ℤ◌, ◌*ℤ◌, slice_index_or}
use Rattle.kinds.specs.Kind.{Same}

-- n coefficients and a right side
pub record Equation : Type 0 where
  pub coefficients : List ℤ
  pub right : ℤ

-- the equation that n + 1 numbers state: n coefficients, and then the right side
abbrev pub equation_of : ℕ → List ℤ → Equation
equation_of n ws = record { coefficients = take n ws; right = slice_index_or ws n (pos 0) }

-- the sum of coefficient × entry, the entries being those of a plan
abbrev pub dot : List ℤ → List ℤ → ℤ
dot [] plan = pos 0
dot (c ∷ cs) [] = pos 0
dot (c ∷ cs) (x ∷ plan) = c *ℤ x +ℤ dot cs plan

-- in the modulus m, the plan meets the equation
abbrev pub Meets : ℕ → Equation → List ℤ → Type 0
Meets m e plan = Same m (dot e.coefficients plan) e.right
