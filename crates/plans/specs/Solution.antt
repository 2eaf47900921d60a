-- What a sheet stands for: the general solution of equations, and the verdict on one equation more. Assumes nothing.
use Rattle.std.specs.Prelude.{◌≡◌, ℕ, ◌↔◌, List, [], ◌∷◌, map, length, ℤ, ◌+ℤ◌, ◌*ℤ◌}
use Rattle.std.specs.List.{AllByRecursion}
use Rattle.kinds.specs.Kind.{Arithmetic, Same}
use Rattle.kinds.specs.Equation.{Equation, Meets}
use Rattle.plans.specs.Sheet.{Contents}

-- u and v are the same in the modulus m, number by number
pub data SameLists (m : ℕ) : List ℤ → List ℤ → Type 0 where
  ended : SameLists m [] []
  also : {x y : ℤ} {u v : List ℤ} → Same m x y → SameLists m u v → SameLists m (x ∷ u) (y ∷ v)

-- the plan meets every equation
abbrev pub MeetsAll : ℕ → List Equation → List ℤ → Type 0
MeetsAll m es plan = AllByRecursion (λ e. Meets m e plan) es

-- a plan of n numbers that meets every equation
abbrev pub Plan : ℕ → ℕ → List Equation → Type 0
Plan m n es = (plan : List ℤ) × (length plan ≡ n) × MeetsAll m es plan

-- u plus y × the move v, number by number; both have n numbers wherever it is used
abbrev pub plus : List ℤ → ℤ → List ℤ → List ℤ
plus [] y v = []
plus (a ∷ u) y [] = a ∷ u
plus (a ∷ u) y (b ∷ v) = (a +ℤ y *ℤ b) ∷ plus u y v

-- the plan that a choice makes: the fixed plan u, and each of the moves vs × its number in the choice
abbrev pub made : List ℤ → List (List ℤ) → List ℤ → List ℤ
made u [] choice = u
made u (v ∷ vs) [] = u
made u (v ∷ vs) (y ∷ choice) = made (plus u y v) vs choice

-- in the modulus m, the choice makes the plan out of the fixed plan u and the moves vs, number by number
abbrev pub Makes : ℕ → List ℤ → List (List ℤ) → List ℤ → List ℤ → Type 0
Makes m u vs choice plan = SameLists m plan (made u vs choice)

-- the same out of what a sheet holds
abbrev pub MakesPlan : {N C : Type 0} → Arithmetic N C → Contents N → List ℤ → List ℤ → Type 0
MakesPlan a s choice plan = Makes a.modulus (map a.means s.fixed) (map (map a.means) s.moves) choice plan

-- the fixed plan u and the moves vs are the general solution of the equations, in n unknowns:
-- a plan meets every equation exactly when some choice makes it, and no two choices make the same plan
pub record General (m n : ℕ) (es : List Equation) (u : List ℤ) (vs : List (List ℤ)) : Type 0 where
  pub meets_iff_made : (plan : List ℤ) → length plan ≡ n →
      MeetsAll m es plan ↔ ((y : List ℤ) × (length y ≡ length vs) × Makes m u vs y plan)
  pub once : (y z : List ℤ) → length y ≡ length vs → length z ≡ length vs →
      Makes m u vs z (made u vs y) → SameLists m y z

-- what an equation more can be to a sheet
pub data Judgement : Type 0 where
  is_taken : Judgement
  is_implied : Judgement
  is_contradicted : Judgement

-- of the plans that meet the equations es, the judgement says which meet e too: all of them, some and not all, or none
pub record Verdict (m n : ℕ) (es : List Equation) (e : Equation) (j : Judgement) : Type 0 where
  pub all_do : (j ≡ is_implied) ↔ ((p : Plan m n es) → Meets m e p.0)
  pub some_do : (j ≡ is_taken) ↔ (((p : Plan m n es) × Meets m e p.0) × ((p : Plan m n es) × ¬ Meets m e p.0))
  pub none_does : (j ≡ is_contradicted) ↔ ((p : Plan m n es) → ¬ Meets m e p.0)

-- each of the lists has n numbers
abbrev pub Sized : {X : Type 0} → ℕ → List (List X) → Type 0
Sized n vs = AllByRecursion (λ v. length v ≡ n) vs

-- the sheet stands for the equations es in n unknowns: its lists have n numbers, and what they mean is the general
-- solution
pub record Holds {N C : Type 0} (a : Arithmetic N C) (n : ℕ) (es : List Equation) (s : Contents N) : Type 0 where
  pub fixed_length : length s.fixed ≡ n
  pub moves_length : Sized n s.moves
  pub general : General a.modulus n es (map a.means s.fixed) (map (map a.means) s.moves)
