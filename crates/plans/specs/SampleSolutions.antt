-- Samples over two unknowns of which fixed plans and moves are the general solution. Assumes nothing.
use Rattle.std.specs.Prelude.{List, [], ◌∷◌, ℤ, pos, negsuc}
use Rattle.kinds.specs.Equation.{Equation}
use Rattle.plans.specs.Solution.{General}

-- a number for each of two unknowns
abbrev pub pair : ℤ → ℤ → List ℤ
pair x y = x ∷ (y ∷ [])

-- 3 x + 5 y = 1
abbrev pub sum_one : Equation
sum_one = record { coefficients = pair (pos 3) (pos 5); right = pos 1 }

-- which fixed plans and moves are the general solution, of 3 x + 5 y = 1 and of no equation
pub record SolutionSamples : Type 0 where
  -- of whole numbers and of weekday numbers, as one posting to a new sheet leaves them
  pub whole : General 0 2 (sum_one ∷ []) (pair (negsuc 2) (pos 2)) (pair (negsuc 4) (pos 3) ∷ [])
  pub weekday : General 7 2 (sum_one ∷ []) (pair (pos 5) (pos 0)) (pair (pos 5) (pos 4) ∷ [])
  -- not with the move doubled
  pub doubled : ¬ General 0 2 (sum_one ∷ []) (pair (negsuc 2) (pos 2)) (pair (negsuc 9) (pos 6) ∷ [])
  -- with no move
  pub no_move : ¬ General 0 2 (sum_one ∷ []) (pair (negsuc 2) (pos 2)) []
  -- with the pivot's entries in place of the move
  pub pivot_kept : ¬ General 0 2 (sum_one ∷ []) (pair (negsuc 2) (pos 2)) (pair (pos 2) (negsuc 0) ∷ [])
  -- with the move twice, so that two choices make one plan
  pub twice : ¬ General 0 2 (sum_one ∷ []) (pair (negsuc 2) (pos 2))
      (pair (negsuc 4) (pos 3) ∷ (pair (negsuc 4) (pos 3) ∷ []))
  -- with another fixed plan
  pub other_plan : ¬ General 0 2 (sum_one ∷ []) (pair (negsuc 2) (pos 3)) (pair (negsuc 4) (pos 3) ∷ [])
  -- a new sheet does not stand for the equation, as after a posting that only pretends
  pub pretended : ¬ General 0 2 (sum_one ∷ []) (pair (pos 0) (pos 0))
      (pair (pos 1) (pos 0) ∷ (pair (pos 0) (pos 1) ∷ []))
  -- and one move of a new sheet is too few for no equation, as after a clearing that keeps one
  pub one_kept : ¬ General 0 2 [] (pair (pos 0) (pos 0)) (pair (pos 1) (pos 0) ∷ [])
  -- nor does the sheet of the equation stand for none, as after a clearing that only pretends
  pub not_cleared : ¬ General 0 2 [] (pair (negsuc 2) (pos 2)) (pair (negsuc 4) (pos 3) ∷ [])
  -- of weekday numbers: with no move
  pub weekday_no_move : ¬ General 7 2 (sum_one ∷ []) (pair (pos 5) (pos 0)) []
