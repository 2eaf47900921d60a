-- What each fault says in words. Assumes nothing.
use Rattle.std.specs.Prelude.{ℕ, List, ◌++◌, codes}
use Rattle.std.specs.Fmt.{decimal}
use Rattle.faults.specs.declared.NumberFault.{NumberFault}
use Rattle.faults.specs.declared.NumberFault.TheVariants.{Lowest, Modulus, Unknowns, ListNumber, NotAdmitted}
use Rattle.faults.specs.declared.LineFault.{LineFault}
use Rattle.faults.specs.declared.LineFault.TheVariants.{FewWords, Length, NoDigit, Size, Frame, Count as LineCount, Number as LineNumber}
use Rattle.faults.specs.declared.PageFault.{PageFault}
use Rattle.faults.specs.declared.PageFault.TheVariants.{NoRoom, LineBegun, NoLine, TooMany}
use Rattle.faults.specs.declared.SheetFault.{SheetFault}
use Rattle.faults.specs.declared.SheetFault.TheVariants.{Page, Line, Number, NoSheet, Count, FewCells, Overflow, Contradicted}

abbrev pub number_words : NumberFault → List ℕ
number_words Lowest = codes "no kind holds the number 80000000"
number_words Modulus = codes "no kind has this modulus"
number_words Unknowns = codes "the unknowns are not 1 to 24"
number_words ListNumber = codes "the list number is not 0 to 65535"
number_words (NotAdmitted index) = codes "the kind does not admit word " ++ decimal index ++ codes ", counted from 0"

-- these words go on from "the line"
abbrev pub line_words : LineFault → List ℕ
line_words FewWords = codes "has too few words lent for its numbers"
line_words Length = codes "is shorter than 4 or longer than 204 bytes"
line_words (NoDigit place) = codes "has a byte that is not one of 0 to 9 and A to F"
line_words Size = codes "is not as long as its count says"
line_words Frame = codes "has another frame"
line_words LineCount = codes "has another count"
line_words (LineNumber Lowest place) = codes "has the number 80000000"
line_words (LineNumber fault place) = codes "has a number at fault: " ++ number_words fault

abbrev pub page_words : PageFault → List ℕ
page_words NoRoom = codes "the page cannot take it"
page_words LineBegun = codes "a line is begun already"
page_words NoLine = codes "no line is begun"
page_words TooMany = codes "a line has no room for so many numbers"

abbrev pub sheet_words : SheetFault → List ℕ
sheet_words (Page fault) = page_words fault
sheet_words (Line fault) = codes "the line " ++ line_words fault
sheet_words (Number fault) = number_words fault
sheet_words NoSheet = codes "the sheet has no unknowns"
sheet_words Count = codes "a count is not the one needed"
sheet_words FewCells = codes "the cells are too few"
sheet_words Overflow = codes "a step gives a number that cannot be stored"
sheet_words Contradicted = codes "contradicted"
