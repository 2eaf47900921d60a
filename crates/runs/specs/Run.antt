-- The calls of a run, each with the memory that it brings, and what they come to. Assumes nothing.
use Rattle.std.specs.Prelude.{ℕ, List, [], ◌∷◌, map}
use Rattle.kinds.specs.Kind.{Arithmetic}
use Rattle.lines.specs.Page.{model as page_model}
use Rattle.runs.specs.declared.step.Step.{Step}
use Rattle.sheets.specs.Answers.{Answer}
use Rattle.sheets.specs.Calls.{SheetCall, sheet_call, Memory, memory, answer_to, sheet_after, memory_after}
use Rattle.sheets.specs.Law.{CallLaw}
use Rattle.sheets.specs.Sheet.{Model}

-- the memory that a step brings
abbrev pub memory_of : Step → Memory
memory_of step = memory step.words.now (page_model step.page)

-- whose memory it is
abbrev pub memory_names : Step → ℕ × ℕ
memory_names step = (step.words.ghost_name, step.page.bytes.ghost_name)

-- the calls of steps, without and with the memory that is lent to each
abbrev pub calls_in : List Step → List SheetCall
calls_in = map (λ step. sheet_call step.call)

abbrev pub calls_lent : List Step → List (SheetCall × Memory)
calls_lent = map (λ step. (sheet_call step.call, memory_of step))

-- a call that was made: what was lent to it, what it was answered, and what it left of its memory
pub record CallMade : Type 0 where
  pub call : SheetCall
  pub lent : Memory
  pub answer : Answer
  pub left : Memory

-- the calls that were made of the steps `before` a run, these being the steps `after` it
abbrev pub calls_made : List Step → List Step → List CallMade
calls_made [] after = []
calls_made (s ∷ before) [] = []
calls_made (s ∷ before) (t ∷ after) =
    record { call = sheet_call s.call; lent = memory_of s; answer = t.answer; left = memory_of t }
    ∷ calls_made before after

module _ {N C : Type 0} (a : Arithmetic N C) where
  -- a call made on the sheet m
  abbrev pub made_on : Model C → SheetCall × Memory → CallMade
  made_on m lent_call = record {
    call = lent_call.0;
    lent = lent_call.1;
    answer = answer_to a m lent_call.1 lent_call.0;
    left = memory_after a m lent_call.1 lent_call.0;
  }

  -- calls made one after the other, from the sheet m on
  abbrev pub run_of : Model C → List (SheetCall × Memory) → List CallMade
  run_of m [] = []
  run_of m (lent_call ∷ lent_calls) = made_on m lent_call ∷ run_of (sheet_after a m lent_call.0) lent_calls

  -- the sheet that they leave
  abbrev pub sheet_left : Model C → List SheetCall → Model C
  sheet_left m [] = m
  sheet_left m (call ∷ calls) = sheet_left (sheet_after a m call) calls

  -- each call keeps to its law, on the sheet that those before it leave
  abbrev pub CallsLaw : Model C → List (SheetCall × Memory) → Type 0
  CallsLaw m [] = Unit {0}
  CallsLaw m (lent_call ∷ lent_calls) =
      CallLaw a m lent_call.0 lent_call.1 (answer_to a m lent_call.1 lent_call.0)
      (sheet_after a m lent_call.0) (memory_after a m lent_call.1 lent_call.0)
      × CallsLaw (sheet_after a m lent_call.0) lent_calls
