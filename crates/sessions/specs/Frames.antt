-- What a line asks of a session, and where its refusals are placed. Assumes nothing.
use Rattle.std.specs.Prelude.{ℕ, ◌<◌, cond, List, [], ◌∷◌, length, ℤ, pos, negsuc, Some, None, Ok, Err, Option, Result, ok_or, ◌==◌}
use Rattle.faults.specs.Faults.{sheet_place, nowhere}
use Rattle.faults.specs.declared.NumberFault.{NumberFault}
use Rattle.faults.specs.declared.NumberFault.TheVariants.{Lowest, Modulus, Unknowns, ListNumber, NotAdmitted}
use Rattle.faults.specs.declared.LineFault.{LineFault}
use Rattle.faults.specs.declared.LineFault.TheVariants.{Frame as LineFrame, Count as LineCount, Number as LineNumber}
use Rattle.faults.specs.declared.SheetFault.{SheetFault}
use Rattle.faults.specs.declared.SheetFault.TheVariants.{Page, Line, Number, NoSheet, Count, FewCells, Overflow, Contradicted}
use Rattle.kinds.specs.Weekday.{weekdays}
use Rattle.kinds.specs.Whole.{wholes}
use Rattle.lines.specs.Line.{most_numbers, line_length, has}
use Rattle.sheets.specs.Answers.{Answer}
use Rattle.sheets.specs.declared.call.Call.{Call}
use Rattle.sheets.specs.Calls.{SheetCall, sheet_call, posting, clearing, picking, showing}
use Rattle.sessions.specs.declared.frame.Frame.{Frame}
use Rattle.sessions.specs.declared.frame.Frame.TheVariants.{Open, Ask}
use Rattle.sessions.specs.declared.frame.Request.{Request}
use Rattle.sessions.specs.declared.frame.Request.TheVariants.{Equation, Clear, Pick, Show}
use Rattle.sessions.specs.declared.frame.Chosen.{Chosen}
use Rattle.sessions.specs.declared.frame.Chosen.TheVariants.{Whole, Weekday}

-- the frames that a session knows: 01 opening, 02 equation, 03 clear, 04 pick, 05 show
abbrev pub known : List ℕ
known = 1 ∷ (2 ∷ (3 ∷ (4 ∷ (5 ∷ []))))

-- what a known frame asks for
abbrev pub frame_kind : ℕ → Frame
frame_kind frame =
    cond (frame == 1) Open
    (cond (frame == 2) (Ask Equation) (cond (frame == 3) (Ask Clear) (cond (frame == 4) (Ask Pick) (Ask Show))))

-- the same of any frame: one that is not known is refused
abbrev pub frame_named : ℕ → Result Frame LineFault
frame_named frame = cond (has frame known) (Ok (frame_kind frame)) (Err LineFrame)

-- a call that was found, as clauses see it
abbrev pub call_found : Result Call SheetFault → Result SheetCall SheetFault
call_found (Ok call) = Ok (sheet_call call)
call_found (Err fault) = Err fault

-- a call without numbers, where there are none
abbrev pub without_numbers : List ℤ → SheetCall → Result SheetCall SheetFault
without_numbers ws call = cond (length ws == 0) (Ok call) (Err Count)

-- the call that a request with the numbers ws asks for; a clearing and a showing have no numbers
abbrev pub call_for : Request → List ℤ → Result SheetCall SheetFault
call_for Equation ws = Ok (posting ws)
call_for Clear ws = without_numbers ws clearing
call_for Pick ws = Ok (picking ws)
call_for Show ws = without_numbers ws showing

-- the kind with this modulus
abbrev pub kind_of : ℤ → Option Chosen
kind_of (pos n) = cond (n == wholes.modulus) (Some Whole) (cond (n == weekdays.modulus) (Some Weekday) None)
kind_of (negsuc n) = None

-- the same, or that the number is no modulus
abbrev pub kind_named : ℤ → Result Chosen NumberFault
kind_named modulus = ok_or (kind_of modulus) Modulus

-- where the modulus, the unknowns and the list number of an opening begin
abbrev pub modulus_place : ℕ
modulus_place = line_length 0

abbrev pub unknowns_place : ℕ
unknowns_place = line_length 1

abbrev pub list_place : ℕ
list_place = line_length 2

-- a number's fault, with the place of its first digit where the number is one of a line
abbrev pub placed_number : NumberFault → SheetFault
placed_number Lowest = Number Lowest
placed_number Modulus = Number Modulus
placed_number Unknowns = Line (LineNumber Unknowns unknowns_place)
placed_number ListNumber = Line (LineNumber ListNumber list_place)
placed_number (NotAdmitted index) = Line (LineNumber (NotAdmitted index) (line_length index))

-- a direct call's fault, with its place in the line whose numbers were handed to the call
abbrev pub placed : SheetFault → SheetFault
placed (Page fault) = Page fault
placed (Line fault) = Line fault
placed (Number fault) = placed_number fault
placed NoSheet = NoSheet
placed Count = Line LineCount
placed FewCells = FewCells
placed Overflow = Overflow
placed Contradicted = Contradicted

-- a direct call's answer likewise
abbrev pub placed_result : {X : Type 0} → Result X SheetFault → Result X SheetFault
placed_result (Ok x) = Ok x
placed_result (Err fault) = Err (placed fault)

-- the index of a word that is not admitted is one of a line's numbers
abbrev pub PlaceableNumber : NumberFault → Type 0
PlaceableNumber Lowest = Unit {0}
PlaceableNumber Modulus = Unit {0}
PlaceableNumber Unknowns = Unit {0}
PlaceableNumber ListNumber = Unit {0}
PlaceableNumber (NotAdmitted index) = index < most_numbers

abbrev pub Placeable : SheetFault → Type 0
Placeable (Page fault) = Unit {0}
Placeable (Line fault) = Unit {0}
Placeable (Number fault) = PlaceableNumber fault
Placeable NoSheet = Unit {0}
Placeable Count = Unit {0}
Placeable FewCells = Unit {0}
Placeable Overflow = Unit {0}
Placeable Contradicted = Unit {0}

-- the place of an answer: the byte of the line at fault, or -1
abbrev pub answer_place : Answer → ℤ
answer_place (Ok success) = nowhere
answer_place (Err fault) = sheet_place fault
