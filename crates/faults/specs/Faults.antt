-- Each fault's number, 2 to 16, and its place: a byte of the line counted from 0, or -1. Assumes nothing.
use Rattle.std.specs.Prelude.{ℕ, ℤ, pos, negsuc}
use Rattle.faults.specs.declared.NumberFault.{NumberFault}
use Rattle.faults.specs.declared.NumberFault.TheVariants.{Lowest, Modulus, Unknowns, ListNumber, NotAdmitted}
use Rattle.faults.specs.declared.LineFault.{LineFault}
use Rattle.faults.specs.declared.LineFault.TheVariants.{FewWords, Length, NoDigit, Size, Frame, Count as LineCount, Number as LineNumber}
use Rattle.faults.specs.declared.PageFault.{PageFault}
use Rattle.faults.specs.declared.PageFault.TheVariants.{NoRoom, LineBegun, NoLine, TooMany}
use Rattle.faults.specs.declared.SheetFault.{SheetFault}
use Rattle.faults.specs.declared.SheetFault.TheVariants.{Page, Line, Number, NoSheet, Count, FewCells, Overflow, Contradicted}

-- -1, for a fault that is at no byte of a line
abbrev pub nowhere : ℤ
nowhere = negsuc 0

abbrev pub number_fault : NumberFault → ℕ
number_fault Lowest = 7
number_fault Modulus = 10
number_fault Unknowns = 11
number_fault ListNumber = 12
number_fault (NotAdmitted index) = 14

abbrev pub line_fault : LineFault → ℕ
line_fault FewWords = 2
line_fault Length = 3
line_fault (NoDigit place) = 4
line_fault Size = 5
line_fault Frame = 6
line_fault LineCount = 9
line_fault (LineNumber fault place) = number_fault fault

abbrev pub line_place : LineFault → ℤ
line_place FewWords = nowhere
line_place Length = nowhere
line_place (NoDigit place) = pos place
line_place Size = pos 2
line_place Frame = pos 0
line_place LineCount = pos 2
line_place (LineNumber fault place) = pos place

abbrev pub page_fault : PageFault → ℕ
page_fault NoRoom = 2
page_fault LineBegun = 2
page_fault NoLine = 2
page_fault TooMany = 9

abbrev pub sheet_fault : SheetFault → ℕ
sheet_fault (Page fault) = page_fault fault
sheet_fault (Line fault) = line_fault fault
sheet_fault (Number fault) = number_fault fault
sheet_fault NoSheet = 8
sheet_fault Count = 9
sheet_fault FewCells = 13
sheet_fault Overflow = 15
sheet_fault Contradicted = 16

-- only a fault of a line has a place
abbrev pub sheet_place : SheetFault → ℤ
sheet_place (Page fault) = nowhere
sheet_place (Line fault) = line_place fault
sheet_place (Number fault) = nowhere
sheet_place NoSheet = nowhere
sheet_place Count = nowhere
sheet_place FewCells = nowhere
sheet_place Overflow = nowhere
sheet_place Contradicted = nowhere
