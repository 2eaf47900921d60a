-- That the promise leaves no choice between the plans of two sheets. Assumes nothing.
use Rattle.std.specs.Prelude.{◌≡◌, ◌↔◌, List, length, ℤ}
use Rattle.kinds.specs.Kind.{Arithmetic}
use Rattle.plans.specs.Solution.{MakesPlan}
use Rattle.sheets.specs.Sheet.{Model, contents_of}
use Rattle.runs.specs.Promise.{Promise}
use Rattle.runs.specs.Run.{CallMade}

module _ {N C : Type 0} (a : Arithmetic N C) where
  -- some choice makes the plan out of what the sheet holds
  abbrev pub SheetMakes : Model C → List ℤ → Type 0
  SheetMakes m plan =
      (choice : List ℤ) × (length choice ≡ length (contents_of a m).moves) × MakesPlan a (contents_of a m) choice plan

  -- two sheets that both keep the promise of the same calls make the same plans
  abbrev pub OneSolution : Type 0
  OneSolution =
      (m : Model C) (calls : List CallMade) (s t : Model C) → Promise a m calls s → Promise a m calls t →
      (plan : List ℤ) → length plan ≡ m.unknowns → SheetMakes s plan ↔ SheetMakes t plan
