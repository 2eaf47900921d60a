-- That the laws of calls leave no choice between two answers. Assumes nothing.
use Rattle.std.specs.Prelude.{◌≡◌, ℕ, List, ℤ}
use Rattle.kinds.specs.Kind.{Arithmetic}
use Rattle.kinds.specs.Equation.{Equation}
use Rattle.lines.specs.Page.{Model as PageModel}
use Rattle.plans.specs.Sheet.{Contents}
use Rattle.sheets.specs.Answers.{Answer}
use Rattle.sheets.specs.Law.{RightlyPosted, RightlyCleared, RightlyPicked, RightlyShown}

-- of two answers to a call at most one is right, whatever the sheet, the equations in force and the words are
pub record OneAnswer {N C : Type 0} (a : Arithmetic N C) : Type 0 where
  pub posted : (n : ℕ) (es : List Equation) (s : Contents N) (ws : List ℤ) (r q : Answer) →
      RightlyPosted a n es s ws r → RightlyPosted a n es s ws q → r ≡ q
  pub cleared : (n : ℕ) (r q : Answer) → RightlyCleared a n r → RightlyCleared a n q → r ≡ q
  -- whatever plans the two pickings leave
  pub picked : (n : ℕ) (es : List Equation) (s : Contents N) (choice lent : List ℤ) (r q : Answer)
      (plan other : List ℤ) → RightlyPicked a n es s choice lent r plan → RightlyPicked a n es s choice lent q other →
      r ≡ q
  -- whatever pages the two showings leave
  pub showed : (n : ℕ) (s : Contents N) (lent : PageModel) (r q : Answer) (page other : PageModel) →
      RightlyShown a n s lent r page → RightlyShown a n s lent q other → r ≡ q
