-- Sample runs over two unknowns: what the promise accepts and refuses. Assumes nothing.
use Rattle.std.specs.Prelude.{◌≡◌, ℕ, List, [], ◌∷◌, ◌++◌, replicate, ℤ, pos, negsuc, Ok, Err}
use Rattle.faults.specs.declared.PageFault.TheVariants.{NoRoom}
use Rattle.faults.specs.declared.SheetFault.TheVariants.{Page, Count, Overflow, Contradicted}
use Rattle.kinds.specs.Equation.{equation_of}
use Rattle.kinds.specs.Whole.{wholes}
use Rattle.kinds.specs.declared.whole.WholeCell.{WholeCell}
use Rattle.lines.specs.Line.{written_text}
use Rattle.lines.specs.Page.{Model as PageModel, empty_page, with_text}
use Rattle.plans.specs.SampleSolutions.{pair}
use Rattle.plans.specs.Solution.{MeetsAll}
use Rattle.sheets.specs.declared.call.Success.TheVariants.{Done, Implied}
use Rattle.sheets.specs.Answers.{Answer}
use Rattle.sheets.specs.Calls.{SheetCall, posting, clearing, picking, showing, memory}
use Rattle.sheets.specs.SampleCalls.{sheet_of, fresh, after_one, near_words, only_words, no_memory}
use Rattle.sheets.specs.SampleSheets.{row, one_words, far_words}
use Rattle.sheets.specs.Sheet.{Model}
use Rattle.runs.specs.Promise.{Promise}
use Rattle.runs.specs.Run.{CallMade}

-- a call that was made without memory
abbrev pub call_made : SheetCall → Answer → CallMade
call_made call r = record { call = call; lent = no_memory; answer = r; left = no_memory }

-- a picking from the words lent to it, and the words that it left
abbrev pub pick_made : List ℤ → List ℤ → Answer → List ℤ → CallMade
pick_made choice lent r left =
    record { call = picking choice; lent = only_words lent; answer = r; left = only_words left }

-- a showing on the page lent to it, and the page that it left
abbrev pub show_made : PageModel → Answer → PageModel → CallMade
show_made lent r left = record { call = showing; lent = memory [] lent; answer = r; left = memory [] left }

-- the posting of 3 x + 5 y = 1, answered r
abbrev pub one_call : Answer → List CallMade
one_call r = call_made (posting one_words) r ∷ []

-- four calls that are answered 0, 1, 16 and 0
abbrev pub four_calls : List CallMade
four_calls =
    call_made (posting one_words) (Ok Done)
    ∷ (call_made (posting (row (pos 6) (pos 10) (pos 2))) (Ok Implied)
    ∷ (call_made (posting (row (pos 6) (pos 10) (pos 3))) (Err Contradicted)
    ∷ (call_made clearing (Ok Done)
    ∷ [])))

-- the posting of x - 2147483647 y = 0, and then that of x + y = 0, refused by overflow
abbrev pub two_calls : List CallMade
two_calls = call_made (posting far_words) (Ok Done) ∷ (call_made (posting near_words) (Err Overflow) ∷ [])

-- the posting of 3 x + 5 y = 1, and then a picking into two words at zero
abbrev pub calls_picked : List ℤ → Answer → List ℤ → List CallMade
calls_picked choice r left =
    call_made (posting one_words) (Ok Done) ∷ (pick_made choice (pair (pos 0) (pos 0)) r left ∷ [])

-- the same with two pickings of the choice 2: one refused because one word alone is lent to it, and one done
abbrev pub two_picked : List CallMade
two_picked =
    call_made (posting one_words) (Ok Done)
    ∷ (pick_made (pos 2 ∷ []) (pos 0 ∷ []) (Err Count) (pos 0 ∷ [])
    ∷ (pick_made (pos 2 ∷ []) (pair (pos 0) (pos 0)) (Ok Done) (pair (negsuc 12) (pos 8))
    ∷ []))

-- what is then shown: the fixed plan and the move, of 42 bytes
abbrev pub shown_to : PageModel → PageModel
shown_to page =
    with_text page (written_text 131 (pair (negsuc 2) (pos 2)) ++ written_text 132 (pair (negsuc 4) (pos 3)))

-- a page of so many bytes, each at zero
abbrev pub zero_page : ℕ → PageModel
zero_page len = empty_page (replicate len 0)

-- the posting, and showings on pages of 42, of 41 and of 50 bytes, the last of which left `page`
abbrev pub calls_shown : PageModel → List CallMade
calls_shown page =
    call_made (posting one_words) (Ok Done)
    ∷ (show_made (zero_page 42) (Ok Done) (shown_to (zero_page 42))
    ∷ (show_made (zero_page 41) (Err (Page NoRoom)) (zero_page 41)
    ∷ (show_made (zero_page 50) (Ok Done) page
    ∷ [])))

-- what the promise accepts and refuses, of calls on a new sheet
pub record RunSamples : Type 0 where
  -- it is kept by the posting answered 0 with the sheet that this leaves, and by the four calls with theirs
  pub kept : Promise wholes fresh (one_call (Ok Done)) after_one
  pub four_kept : Promise wholes fresh four_calls fresh
  -- and by an overflow, after which the sheet is as it was, though a plan meets both equations
  pub overflow_kept : Promise wholes fresh two_calls
      (sheet_of 1 (pos 0 ∷ (pos 0 ∷ (negsuc 2147483646 ∷ (negsuc 0 ∷ [])))))
  pub plan_there : MeetsAll 0 (equation_of 2 near_words ∷ (equation_of 2 far_words ∷ [])) (pair (pos 0) (pos 0))
  -- no other answer to the posting keeps it, whatever sheet is left: not 1, nor 16, nor any other refusal
  pub one_answer : (r : Answer) (m : Model WholeCell) → Promise wholes fresh (one_call r) m → r ≡ Ok Done
  -- nor does 0 with the move doubled, with the sheet as it was, or with its unknowns lost
  pub doubled : ¬ Promise wholes fresh (one_call (Ok Done))
      (sheet_of 1 (negsuc 2 ∷ (pos 2 ∷ (negsuc 9 ∷ (pos 6 ∷ [])))))
  pub pretended : ¬ Promise wholes fresh (one_call (Ok Done)) fresh
  pub unknowns_lost : ¬ Promise wholes fresh (one_call (Ok Done))
      (record { cells = after_one.cells; unknowns = 0; moves = 0; list = 1 })
  -- a clearing may not keep one move
  pub one_kept : ¬ Promise wholes fresh (call_made clearing (Ok Done) ∷ [])
      (sheet_of 1 (pos 0 ∷ (pos 0 ∷ (pos 1 ∷ (pos 0 ∷ [])))))
  -- of pickings the plan that the choice makes keeps it, also behind a picking that is refused
  pub picked_kept : Promise wholes fresh (calls_picked (pos 2 ∷ []) (Ok Done) (pair (negsuc 12) (pos 8))) after_one
  pub two_kept : Promise wholes fresh two_picked after_one
  -- whatever sheet is left, the plan without its move does not, though it meets the equation; nor does one that does
  -- not meet it, nor a picking that is refused and changes its words
  pub move_skipped : (m : Model WholeCell) →
      ¬ Promise wholes fresh (calls_picked (pos 2 ∷ []) (Ok Done) (pair (negsuc 2) (pos 2))) m
  pub no_plan : (m : Model WholeCell) →
      ¬ Promise wholes fresh (calls_picked (pos 2 ∷ []) (Ok Done) (pair (pos 0) (pos 0))) m
  pub words_changed : (m : Model WholeCell) →
      ¬ Promise wholes fresh (calls_picked [] (Err Count) (pair (negsuc 2) (pos 2))) m
  -- of showings the lines on each page that has room for them do; not a page on which nothing is shown
  pub shown_kept : Promise wholes fresh (calls_shown (shown_to (zero_page 50))) after_one
  pub nothing_shown : (m : Model WholeCell) → ¬ Promise wholes fresh (calls_shown (zero_page 50)) m
