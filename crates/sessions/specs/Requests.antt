-- What comes of a request on a sheet: its call is made on memory that the session lends. Assumes nothing.
use Rattle.std.specs.Prelude.{ℕ, cond, List, [], take, replicate, ℤ, pos, Ok, Err, Result}
use Rattle.faults.specs.declared.SheetFault.{SheetFault}
use Rattle.faults.specs.declared.SheetFault.TheVariants.{NoSheet}
use Rattle.kinds.specs.Kind.{Arithmetic}
use Rattle.lines.specs.Line.{written_text}
use Rattle.lines.specs.Page.{empty_page}
use Rattle.sheets.specs.Answers.{Answer}
use Rattle.sheets.specs.Calls.{SheetCall, posting, clearing, picking, showing, Memory, memory, answer_to, sheet_after, memory_after}
use Rattle.sheets.specs.Sheet.{Model, stands, most_unknowns}
use Rattle.sheets.specs.Showing.{rows_length}
use Rattle.sessions.specs.Frames.{call_for, placed_result}
use Rattle.sessions.specs.declared.frame.Request.{Request}

-- how many bytes are kept for the lines behind an answer: those of the largest sheet
abbrev pub rest_length : ℕ
rest_length = rows_length most_unknowns most_unknowns

-- the memory that a session lends to a call: of 24 zero words one for each unknown, and a page for the lines behind
-- the answer
abbrev pub session_memory : {C : Type 0} → Model C → Memory
session_memory m = memory (take m.unknowns (replicate most_unknowns (pos 0))) (empty_page (replicate rest_length 0))

-- the frame of a picked plan: 82
abbrev pub picked_plan_frame : ℕ
picked_plan_frame = 130

-- the line of a picked plan
abbrev pub plan_text : List ℤ → List ℕ
plan_text ws = written_text picked_plan_frame ws

-- which stands behind the answer to a picking that is done
abbrev pub picked_text : Answer → List ℤ → List ℕ
picked_text (Ok success) ws = plan_text ws
picked_text (Err fault) ws = []

-- the lines that stand behind the answer to a call: that of a picked plan, or all that is shown
abbrev pub text_behind : SheetCall → Answer → Memory → List ℕ
text_behind (posting ws) r left = []
text_behind clearing r left = []
text_behind (picking choice) r left = picked_text r left.words
text_behind showing r left = take left.page.end left.page.bytes

module _ {N C : Type 0} (a : Arithmetic N C) where
  -- the answer to a call, or to its lack
  abbrev pub answer_by : Model C → Result SheetCall SheetFault → Answer
  answer_by m (Ok call) = answer_to a m (session_memory m) call
  answer_by m (Err fault) = Err fault

  abbrev pub sheet_by : Model C → Result SheetCall SheetFault → Model C
  sheet_by m (Ok call) = sheet_after a m call
  sheet_by m (Err fault) = m

  abbrev pub text_by : Model C → Result SheetCall SheetFault → List ℕ
  text_by m (Ok call) =
      text_behind call (answer_to a m (session_memory m) call) (memory_after a m (session_memory m) call)
  text_by m (Err fault) = []

  -- the answer to a request with the numbers ws
  abbrev pub unplaced_answer : Model C → Request → List ℤ → Answer
  unplaced_answer m request ws = cond (stands m) (answer_by m (call_for request ws)) (Err NoSheet)

  -- with the place of a fault in the line
  abbrev pub request_answer : Model C → Request → List ℤ → Answer
  request_answer m request ws = placed_result (unplaced_answer m request ws)

  -- the sheet afterwards
  abbrev pub request_left : Model C → Request → List ℤ → Model C
  request_left m request ws = cond (stands m) (sheet_by m (call_for request ws)) m

  -- and the lines behind the answer
  abbrev pub request_text : Model C → Request → List ℤ → List ℕ
  request_text m request ws = cond (stands m) (text_by m (call_for request ws)) []
