-- The calls on a sheet: what each brings, what it is answered, what it leaves, and which equations are then in force.
-- Assumes nothing.
use Rattle.std.specs.Prelude.{ℕ, List, [], ◌∷◌, ℤ, Ok, Err}
use Rattle.kinds.specs.Equation.{Equation, equation_of}
use Rattle.kinds.specs.Kind.{Arithmetic}
use Rattle.lines.specs.Page.{Model as PageModel}
use Rattle.sheets.specs.declared.call.Call.{Call}
use Rattle.sheets.specs.declared.call.Call.TheVariants.{Post, Clear, Pick, Show}
use Rattle.sheets.specs.declared.call.Success.TheVariants.{Done, Implied}
use Rattle.sheets.specs.Answers.{Answer, plain_answer}
use Rattle.sheets.specs.Clearing.{clear_answer, clear_left}
use Rattle.sheets.specs.Picking.{pick_answer, pick_left}
use Rattle.sheets.specs.Sheet.{Model, post_answer, post_left}
use Rattle.sheets.specs.Showing.{show_answer, show_left}

-- a call with the numbers that it brings: an equation's coefficients and right side, or a choice
pub data SheetCall : Type 0 where
  posting : List ℤ → SheetCall
  clearing : SheetCall
  picking : List ℤ → SheetCall
  showing : SheetCall

abbrev pub sheet_call : Call → SheetCall
sheet_call (Post words) = posting words.now
sheet_call Clear = clearing
sheet_call (Pick choice) = picking choice.now
sheet_call Show = showing

-- the memory that is lent to a call: words for a picked plan, and a page for what is shown
pub record Memory : Type 0 where
  pub words : List ℤ
  pub page : PageModel

abbrev pub memory : List ℤ → PageModel → Memory
memory words page = record { words = words; page = page }

module _ {N C : Type 0} (a : Arithmetic N C) where
  -- the answer to a call on the sheet m
  abbrev pub answer_to : Model C → Memory → SheetCall → Answer
  answer_to m lent (posting ws) = post_answer a m ws
  answer_to m lent clearing = plain_answer (clear_answer m)
  answer_to m lent (picking choice) = plain_answer (pick_answer a m choice lent.words)
  answer_to m lent showing = plain_answer (show_answer m lent.page)

  -- the sheet afterwards
  abbrev pub sheet_after : Model C → SheetCall → Model C
  sheet_after m (posting ws) = post_left a m ws
  sheet_after m clearing = clear_left a m
  sheet_after m (picking choice) = m
  sheet_after m showing = m

  -- and the memory that was lent
  abbrev pub memory_after : Model C → Memory → SheetCall → Memory
  memory_after m lent (posting ws) = lent
  memory_after m lent clearing = lent
  memory_after m lent (picking choice) = memory (pick_left a m choice lent.words) lent.page
  memory_after m lent showing = memory lent.words (show_left a m lent.page)

-- a posting answered 0 puts its equation in force, a clearing answered 0 ends this for all equations,
-- and no other call, refused or not, changes which are in force
abbrev pub in_force_after : ℕ → SheetCall → Answer → List Equation → List Equation
in_force_after n (posting ws) (Ok Done) es = equation_of n ws ∷ es
in_force_after n (posting ws) (Ok Implied) es = es
in_force_after n (posting ws) (Err fault) es = es
in_force_after n clearing (Ok success) es = []
in_force_after n clearing (Err fault) es = es
in_force_after n (picking choice) r es = es
in_force_after n showing r es = es
