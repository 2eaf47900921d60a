-- A line that is begun on the page of a run's first call is begun after the run, and can then be ended.
use Rattle.std.proofs.Common.{◌≡◌, ℤ, Bool, Option, option_map, Ok, List, [], ◌∷◌, length, cond, true, Some, None, get_or, refl, sym, ap, subst, ◌∙◌, arith}
use Rattle.faults.specs.Refusing.{left_unless, done_unless}
use Rattle.faults.specs.declared.PageFault.{PageFault}
use Rattle.faults.specs.declared.PageFault.TheVariants.{NoLine}
use Rattle.kinds.specs.Kind.{Arithmetic}
use Rattle.lines.specs.Page.{Model as PageModel, empty_page, model as page_model, with_word, put_refusal, put_left, still_owed, end_answer}
use Rattle.lines.specs.declared.page.LineToken.{LineToken}
use Rattle.runs.specs.Run.{memory_of, CallMade, calls_made, calls_lent, run_of}
use Rattle.runs.specs.declared.step.Step.{Step}
use Rattle.sheets.specs.Calls.{SheetCall, posting, clearing, picking, showing, sheet_call, Memory, memory, memory_after}
use Rattle.sheets.specs.Sheet.{Model}
use Rattle.sheets.specs.Showing.{show_left}

-- the memory that the first call left
abbrev first_left : List CallMade → Memory
first_left [] = memory [] (empty_page [])
first_left (c ∷ calls) = c.left

module _ {N C : Type 0} (a : Arithmetic N C) (m : Model C) where
  -- no call ends a begun line
  call_keeps : (call : SheetCall) (lent : Memory) → lent.page.begun ≡ true → (memory_after a m lent call).page.begun ≡ true
  call_keeps (posting ws) lent b = b
  call_keeps clearing lent b = b
  call_keeps (picking choice) lent b = b
  call_keeps showing lent b =
      let p = lent.page in
      subst (λ (begun : Bool). (show_left a m (record { bytes = p.bytes; end = p.end; begun = begun; room = p.room; put = p.put })).begun ≡ true) (sym b) refl

  pub first_begun : (s : Step) (ss after : List Step) (d : Step) → (page_model s.page).begun ≡ true → calls_made (s ∷ ss) after ≡ run_of a m (calls_lent (s ∷ ss))
      → (page_model (get_or after 0 d).page).begun ≡ true
  first_begun s ss [] d b e = absurd (omega (arith, ap length e))
  first_begun s ss (t ∷ ts) d b e = ap (λ (cs : List CallMade). (first_left cs).page.begun) e ∙ call_keeps (sheet_call s.call) (memory_of s) b

-- nor does a number that is put, or refused
pub put_keeps : (p q : PageModel) (w : ℤ) → p.begun ≡ true → q ≡ put_left p w → q.begun ≡ true
put_keeps p q w b e = ap (λ (m : PageModel). m.begun) e ∙ by (put_refusal p) ∙ b
  where
    by : (o : Option PageFault) → (left_unless o p (with_word p w)).begun ≡ p.begun
    by (Some fault) = refl
    by None = refl

-- and where a line is begun, closing it is not refused
pub begun_closes : (p : PageModel) (token : LineToken) → p.begun ≡ true → end_answer p token ≡ Ok tt
begun_closes p token b = λ j. done_unless (option_map (still_owed token) (cond (b j) None (Some NoLine)))
