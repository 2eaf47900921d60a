-- Two sheets that keep the promise of the same calls make the same plans.
use Rattle.std.proofs.Common.{◌≡◌, ℕ, List, map, length, ℤ, sym, ◌∙◌, subst}
use Rattle.std.proofs.lemmas.List.{length-map}
use Rattle.kinds.specs.Kind.{Arithmetic}
use Rattle.plans.specs.Solution.{MeetsAll}
use Rattle.sheets.specs.Sheet.{Model, contents_of}
use Rattle.runs.specs.OneSolution.{SheetMakes, OneSolution}
use Rattle.runs.specs.Promise.{in_force, Promise}
use Rattle.runs.specs.Run.{CallMade}

module _ {N C : Type 0} (a : Arithmetic N C) (m : Model C) (calls : List CallMade) where
  -- a plan that the first sheet makes meets the equations in force, so the second makes it
  makes_too : (s t : Model C) → Promise a m calls s → Promise a m calls t → (plan : List ℤ) → length plan ≡ m.unknowns → SheetMakes a s plan → SheetMakes a t plan
  makes_too s t p q plan long made =
      let moves = λ (x : Model C). (contents_of a x).moves in
      let meets = (p.general.general.meets_iff_made plan (long ∙ sym p.unknowns)).1 (made.0, made.1 ∙ sym (length-map (moves s) (map a.means)), made.2) in
      let too = (q.general.general.meets_iff_made plan (long ∙ sym q.unknowns)).0 (subst (λ (n : ℕ). MeetsAll a.modulus (in_force n calls) plan) (p.unknowns ∙ sym q.unknowns) meets) in
      (too.0, too.1 ∙ length-map (moves t) (map a.means), too.2)

pub one_solution_lem : {N C : Type 0} (a : Arithmetic N C) → OneSolution a
one_solution_lem a m calls s t p q plan long = (makes_too a m calls s t p q plan long, makes_too a m calls t s q p plan long)
