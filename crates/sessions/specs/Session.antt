-- A session, what a line asks of it, what it answers and what is then written. Assumes nothing.
use Rattle.std.specs.Prelude.{ℕ, ◌+◌, cond, List, [], ◌∷◌, ◌++◌, length, replicate, ℤ, pos, Some, None, Ok, Err, Option, Result, ◌==◌, nat_lt, slice_index_or}
use Rattle.faults.specs.Refusing.{ok_unless, left_unless}
use Rattle.faults.specs.declared.NumberFault.TheVariants.{Modulus}
use Rattle.faults.specs.declared.LineFault.{LineFault}
use Rattle.faults.specs.declared.LineFault.TheVariants.{FewWords, Count as LineCount, Number as LineNumber}
use Rattle.faults.specs.declared.PageFault.TheVariants.{NoRoom}
use Rattle.faults.specs.declared.SheetFault.{SheetFault}
use Rattle.faults.specs.declared.SheetFault.TheVariants.{Page, Line, NoSheet}
use Rattle.kinds.specs.Weekday.{weekdays}
use Rattle.kinds.specs.Whole.{wholes}
use Rattle.kinds.specs.declared.weekday.WeekdayCell.{WeekdayCell}
use Rattle.kinds.specs.declared.whole.WholeCell.{WholeCell}
use Rattle.lines.specs.Line.{most_numbers, written_length, written_text, frame_of, numbers, refusal}
use Rattle.lines.specs.Page.{over}
use Rattle.sheets.specs.Answers.{Answer, answer_number}
use Rattle.sheets.specs.Cells.{needed}
use Rattle.sheets.specs.Sheet.{Model, model_of, most_unknowns, checked, opened}
use Rattle.sheets.specs.declared.call.Success.TheVariants.{Done}
use Rattle.sessions.specs.Frames.{known, frame_kind, kind_of, modulus_place, placed_result, answer_place}
use Rattle.sessions.specs.Wiped.{wiped}
use Rattle.sessions.specs.Requests.{rest_length, request_answer, request_left, request_text}
use Rattle.sessions.specs.declared.frame.Chosen.{Chosen}
use Rattle.sessions.specs.declared.frame.Chosen.TheVariants.{Whole, Weekday}
use Rattle.sessions.specs.declared.frame.Frame.{Frame}
use Rattle.sessions.specs.declared.frame.Frame.TheVariants.{Open, Ask}
use Rattle.sessions.specs.declared.session.Session.{Session}
use Rattle.sessions.specs.declared.session.State.{State}
use Rattle.sessions.specs.declared.session.State.TheVariants.{NoSheet as WithoutSheet, OnWhole, OnWeekday}

-- a session: without a sheet, on a whole sheet or on a weekday sheet; with the cells of the kinds that it is not on
pub data View : Type 0 where
  without_sheet : List WholeCell → List WeekdayCell → View
  on_whole : Model WholeCell → List WeekdayCell → View
  on_weekday : List WholeCell → Model WeekdayCell → View

abbrev pub view_by : State → List WholeCell → List WeekdayCell → View
view_by WithoutSheet w d = without_sheet w d
view_by (OnWhole outline) w d = on_whole (model_of w outline) d
view_by (OnWeekday outline) w d = on_weekday w (model_of d outline)

abbrev pub view : Session → View
view s = view_by s.state s.whole s.weekday

-- as many cells as the largest sheet needs
abbrev pub session_cells : ℕ
session_cells = needed most_unknowns

-- without a sheet, all cells zero
abbrev pub new_session : View
new_session =
    without_sheet
    (replicate session_cells (record { value = pos 0 }))
    (replicate session_cells (record { value = 0 }))

-- all cells of a session
abbrev pub whole_cells : View → List WholeCell
whole_cells (without_sheet w d) = w
whole_cells (on_whole m d) = m.cells
whole_cells (on_weekday w m) = w

abbrev pub weekday_cells : View → List WeekdayCell
weekday_cells (without_sheet w d) = d
weekday_cells (on_whole m d) = d
weekday_cells (on_weekday w m) = m.cells

-- how many unknowns the sheet has that a session is on
abbrev pub unknowns_of : View → ℕ
unknowns_of (without_sheet w d) = 0
unknowns_of (on_whole m d) = m.unknowns
unknowns_of (on_weekday w m) = m.unknowns

-- and its list number
abbrev pub list_of : View → ℕ
list_of (without_sheet w d) = 0
list_of (on_whole m d) = m.list
list_of (on_weekday w m) = m.list

abbrev pub word : List ℤ → ℕ → ℤ
word ws i = slice_index_or ws i (pos 0)

abbrev pub chosen_unless : Chosen → Result Unit SheetFault → Result Chosen SheetFault
chosen_unless kind (Ok _) = Ok kind
chosen_unless kind (Err fault) = Err fault

-- whether a sheet of the chosen kind can be opened over so many cells of each kind
abbrev pub open_by : Option Chosen → ℤ → ℤ → ℕ → ℕ → Result Chosen SheetFault
open_by (Some Whole) n list w d = chosen_unless Whole (placed_result (checked n list w))
open_by (Some Weekday) n list w d = chosen_unless Weekday (placed_result (checked n list d))
open_by None n list w d = Err (Line (LineNumber Modulus modulus_place))

-- an opening: modulus, unknowns and list number
abbrev pub open_check : View → List ℤ → Result Chosen SheetFault
open_check v ws =
    cond (length ws == 3)
    (open_by (kind_of (word ws 0)) (word ws 1) (word ws 2) (length (whole_cells v)) (length (weekday_cells v)))
    (Err (Line LineCount))

abbrev pub open_answer : Result Chosen SheetFault → Answer
open_answer (Ok kind) = Ok Done
open_answer (Err fault) = Err fault

-- a refused opening keeps the session
abbrev pub open_left : View → Result Chosen SheetFault → List ℤ → View
open_left v (Ok Whole) ws = on_whole (opened wholes (word ws 1) (word ws 2) (whole_cells v)) (weekday_cells v)
open_left v (Ok Weekday) ws = on_weekday (whole_cells v) (opened weekdays (word ws 1) (word ws 2) (weekday_cells v))
open_left v (Err fault) ws = v

-- what comes of a frame with its numbers
abbrev pub frame_answer : View → Frame → List ℤ → Answer
frame_answer v Open ws = open_answer (open_check v ws)
frame_answer (without_sheet w d) (Ask request) ws = Err NoSheet
frame_answer (on_whole m d) (Ask request) ws = request_answer wholes m request ws
frame_answer (on_weekday w m) (Ask request) ws = request_answer weekdays m request ws

-- the session afterwards
abbrev pub frame_left : View → Frame → List ℤ → View
frame_left v Open ws = open_left v (open_check v ws) ws
frame_left (without_sheet w d) (Ask request) ws = without_sheet w d
frame_left (on_whole m d) (Ask request) ws = on_whole (request_left wholes m request ws) d
frame_left (on_weekday w m) (Ask request) ws = on_weekday w (request_left weekdays m request ws)

-- and the lines behind the answer
abbrev pub frame_text : View → Frame → List ℤ → List ℕ
frame_text v Open ws = []
frame_text (without_sheet w d) (Ask request) ws = []
frame_text (on_whole m d) (Ask request) ws = request_text wholes m request ws
frame_text (on_weekday w m) (Ask request) ws = request_text weekdays m request ws

-- what comes of a line: its reader's refusal first
abbrev pub answer_unless : Option LineFault → View → List ℕ → Answer
answer_unless (Some fault) v line = Err (Line fault)
answer_unless None v line = frame_answer v (frame_kind (frame_of line)) (numbers line)

abbrev pub line_answer : View → List ℕ → Answer
line_answer v line = answer_unless (refusal known line) v line

abbrev pub line_after : View → List ℕ → View
line_after v line = left_unless (refusal known line) v (frame_left v (frame_kind (frame_of line)) (numbers line))

abbrev pub line_text_behind : View → List ℕ → List ℕ
line_text_behind v line = left_unless (refusal known line) [] (frame_text v (frame_kind (frame_of line)) (numbers line))

-- the frame of an answer line: 81
abbrev pub answer_line_frame : ℕ
answer_line_frame = 129

-- the answer line: the line's number as it was given, the answer and its place
unfoldable pub answer_text : ℤ → Answer → List ℕ
answer_text number answer =
    written_text answer_line_frame (number ∷ (pos (answer_number answer) ∷ (answer_place answer ∷ [])))

-- how many bytes an answer line has
abbrev pub answer_length : ℕ
answer_length = written_length 3

-- all lines that a line is answered by: the answer, and what stands behind it
unfoldable pub reply : View → ℤ → List ℕ → List ℕ
reply v number line = answer_text number (line_answer v line) ++ line_text_behind v line

-- as much output as an answer line and the lines of the largest sheet have
abbrev pub output_length : ℕ
output_length = answer_length + rest_length

-- the output or the words that are lent are too small
abbrev pub lent_refusal : ℕ → ℕ → Option SheetFault
lent_refusal out words =
    cond (nat_lt out output_length) (Some (Page NoRoom)) (cond (nat_lt words most_numbers) (Some (Line FewWords)) None)

-- the same of this output and these words
abbrev pub memory_refusal : List ℕ → List ℤ → Option SheetFault
memory_refusal out words = lent_refusal (length out) (length words)

-- how many bytes a call writes that is lent them, and the line with its number
abbrev pub call_answer : View → ℤ → List ℕ → List ℕ → List ℤ → Result ℕ SheetFault
call_answer v number line out words = ok_unless (memory_refusal out words) (length (reply v number line))

-- and what it leaves in the output, in the words, and of the session
abbrev pub out_left : View → ℤ → List ℕ → List ℕ → List ℤ → List ℕ
out_left v number line out words = left_unless (memory_refusal out words) out (over out 0 (reply v number line))

abbrev pub words_left : List ℕ → List ℤ → List ℤ
words_left out words = left_unless (memory_refusal out words) words (wiped words)

abbrev pub view_left : View → List ℕ → List ℕ → List ℤ → View
view_left v line out words = left_unless (memory_refusal out words) v (line_after v line)
