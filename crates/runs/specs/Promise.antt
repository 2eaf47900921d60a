-- The promise of a run: which equations its calls put in force, what the sheet then stands for, and that each call is
-- rightly answered. Assumes nothing.
use Rattle.std.specs.Prelude.{◌≡◌, ℕ, List, [], ◌∷◌, ◌++◌, map}
use Rattle.kinds.specs.Kind.{Arithmetic}
use Rattle.kinds.specs.Equation.{Equation}
use Rattle.sheets.specs.Calls.{in_force_after}
use Rattle.sheets.specs.Law.{StandsFor, Sound, SpareZero, Rightly}
use Rattle.sheets.specs.Sheet.{Model, contents_of}
use Rattle.runs.specs.Run.{CallMade, sheet_left}

-- the equations in force after calls, the first call first, where es were in force before them
abbrev pub in_force_from : ℕ → List Equation → List CallMade → List Equation
in_force_from n es [] = es
in_force_from n es (c ∷ calls) = in_force_from n (in_force_after n c.call c.answer es) calls

-- and after calls from the opening on, at which none is
abbrev pub in_force : ℕ → List CallMade → List Equation
in_force n calls = in_force_from n [] calls

module _ {N C : Type 0} (a : Arithmetic N C) where
  -- the sheet behind these calls, opened as m
  abbrev pub sheet_behind : Model C → List CallMade → Model C
  sheet_behind m calls = sheet_left a m (map (λ c. c.call) calls)

  -- THE PROMISE, for the calls made on a sheet opened as m, and the sheet `after` that they left
  pub record Promise (m : Model C) (calls : List CallMade) (after : Model C) : Type 0 where
    -- the sheet keeps the unknowns and the list number that it was opened with
    pub unknowns : after.unknowns ≡ m.unknowns
    pub list : after.list ≡ m.list
    -- a plan meets every equation in force exactly when some choice makes it out of the fixed plan and the moves in the
    -- cells, and no two choices make the same plan
    pub general : StandsFor a after (in_force after.unknowns calls)
    -- every call, wherever it stands in the list, is rightly answered and rightly leaves its memory, by the equations
    -- in force before it and what the sheet then holds
    pub rightly : (before behind : List CallMade) (c : CallMade) → calls ≡ before ++ (c ∷ behind) →
        Rightly a after.unknowns (in_force after.unknowns before) (contents_of a (sheet_behind m before))
        c.call c.lent c.answer c.left
    -- every cell that the sheet needs passes its check, and the spare ones hold zero
    pub sound : Sound a after
    pub spare : SpareZero a after
