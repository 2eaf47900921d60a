-- What is promised of a new sheet and of a posting, in every kind of number. Assumes nothing.
use Rattle.std.specs.Prelude.{◌≡◌, ℕ, ◌+◌, List, [], ◌∷◌, map, length}
use Rattle.kinds.specs.Kind.{Arithmetic, Same}
use Rattle.kinds.specs.Equation.{Equation}
use Rattle.plans.specs.Sheet.{Contents, new_sheet}
use Rattle.plans.specs.Posting.{Outcome, taken, implied, contradicted, overflow, posted}
use Rattle.plans.specs.Solution.{SameLists, Verdict, is_taken, is_implied, is_contradicted, Holds}

module _ {N C : Type 0} (a : Arithmetic N C) where
  -- the equation e is rightly taken, and t holds what the sheet s then holds: it stands for e too, with one move fewer
  pub record Takes (n : ℕ) (es : List Equation) (e : Equation) (s t : Contents N) : Type 0 where
    pub verdict : Verdict a.modulus n es e is_taken
    pub holds : Holds a n (e ∷ es) t
    pub one_fewer : length t.moves + 1 ≡ length s.moves

  -- how the posting of e to the sheet s comes out is right; of an overflow nothing is said
  abbrev pub Right : ℕ → List Equation → Equation → Contents N → Outcome N → Type 0
  Right n es e s (taken t) = Takes n es e s t
  Right n es e s implied = Verdict a.modulus n es e is_implied
  Right n es e s contradicted = Verdict a.modulus n es e is_contradicted
  Right n es e s overflow = Unit {0}

  -- a new sheet stands for no equation: every plan is made
  abbrev pub NewGeneral : Type 0
  NewGeneral = (n : ℕ) → Holds a n [] (new_sheet a n)

  -- a posting to a sheet that stands for the equations es, of numbers that mean the same as those of e, comes out right
  abbrev pub PostingExact : Type 0
  PostingExact =
      (n : ℕ) (es : List Equation) (s : Contents N) → Holds a n es s → (e : Equation) → length e.coefficients ≡ n →
      (cs : List N) (right : N) →
      SameLists a.modulus (map a.means cs) e.coefficients → Same a.modulus (a.means right) e.right →
      Right n es e s (posted a s cs right)
