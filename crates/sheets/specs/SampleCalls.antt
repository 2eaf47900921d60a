-- Samples over two unknowns of what the laws of single calls accept and refuse. Assumes nothing.
use Rattle.std.specs.Prelude.{◌≡◌, ℕ, ◌-◌, List, [], ◌∷◌, ◌++◌, map, length, replicate, ℤ, pos, negsuc, Ok, Err, Result}
use Rattle.std.proofs.Common.{lit≤}
use Rattle.faults.specs.declared.SheetFault.{SheetFault}
use Rattle.faults.specs.declared.SheetFault.TheVariants.{NoSheet, Count, Overflow, Contradicted}
use Rattle.kinds.specs.Equation.{equation_of}
use Rattle.kinds.specs.Whole.{wholes}
use Rattle.kinds.specs.declared.whole.WholeCell.{WholeCell}
use Rattle.lines.specs.Page.{Model as PageModel, empty_page}
use Rattle.plans.specs.SampleSolutions.{pair, sum_one}
use Rattle.sheets.specs.declared.call.Success.TheVariants.{Done, Implied}
use Rattle.sheets.specs.declared.shape.Outline.{Outline}
use Rattle.sheets.specs.Answers.{Answer, plain_answer, answer_number}
use Rattle.sheets.specs.Calls.{posting, clearing, picking, showing, Memory, memory}
use Rattle.sheets.specs.Cells.{zero_cells}
use Rattle.sheets.specs.Law.{StandsFor, Sound, SpareZero, RightlyPosted, CallLaw}
use Rattle.sheets.specs.SampleSheets.{row, two_unknowns, one_words, far_words}
use Rattle.sheets.specs.Sheet.{Model, checked, empty_sheet, resume_answer, resume_left, contents_of, post_left}

-- the number of an answer that is done or a refusal
abbrev pub plain_number : Result Unit SheetFault → ℕ
plain_number r = answer_number (plain_answer r)

-- these in cells of whole numbers, and zeros behind them until there are 15, as many as two unknowns need
abbrev pub cells_of : List ℤ → List WholeCell
cells_of zs = map (λ z. record { value = z }) zs ++ zero_cells wholes (15 - length zs)

-- a sheet of two unknowns, with k moves, whose cells begin with these
abbrev pub sheet_of : ℕ → List ℤ → Model WholeCell
sheet_of k zs = record { cells = cells_of zs; unknowns = 2; moves = k; list = 1 }

-- a new sheet of two unknowns
abbrev pub fresh : Model WholeCell
fresh = two_unknowns wholes

-- an outline of two unknowns and both moves
abbrev pub two_outline : Outline
two_outline = record { shape = record { unknowns = 2; moves = 2; small = lit≤ tt; few = lit≤ tt }; list = 1 }

-- the sheets that the postings of 3 x + 5 y = 1 (`sum_one`) and of x - 2147483647 y = 0 leave
abbrev pub after_one : Model WholeCell
after_one = post_left wholes fresh one_words

abbrev pub after_far : Model WholeCell
after_far = post_left wholes fresh far_words

-- x + y = 0
abbrev pub near_words : List ℤ
near_words = row (pos 1) (pos 1) (pos 0)

-- memory of these words, and of a page of no bytes
abbrev pub only_words : List ℤ → Memory
only_words ws = memory ws (empty_page [])

abbrev pub no_memory : Memory
no_memory = only_words []

-- the posting of 3 x + 5 y = 1 to the new sheet is rightly answered r
abbrev pub RightlyPostedOne : Answer → Type 0
RightlyPostedOne r = RightlyPosted wholes 2 [] (contents_of wholes fresh) one_words r

-- and so is the posting of x + y = 0 behind that of x - 2147483647 y = 0
abbrev pub RightlyPostedNear : Answer → Type 0
RightlyPostedNear r =
    RightlyPosted wholes 2 (equation_of 2 far_words ∷ []) (contents_of wholes after_far) near_words r

-- the law of the posting of 3 x + 5 y = 1 to the new sheet, answered r, with the sheet `after` left
abbrev pub PostingLaw : Answer → Model WholeCell → Type 0
PostingLaw r after = CallLaw wholes fresh (posting one_words) no_memory r after no_memory

-- the law of a clearing of the sheet m that is done, with the sheet `after` left
abbrev pub ClearingLaw : Model WholeCell → Model WholeCell → Type 0
ClearingLaw m after = CallLaw wholes m clearing no_memory (Ok Done) after no_memory

-- the law of a picking from the sheet of 3 x + 5 y = 1 into two words at zero, answered r, with the words `plan` left
abbrev pub PickingLaw : List ℤ → Answer → List ℤ → Type 0
PickingLaw choice r plan =
    CallLaw wholes after_one (picking choice) (only_words (pair (pos 0) (pos 0))) r after_one (only_words plan)

-- a page of 63 bytes, as many as the three lines of the new sheet have
abbrev pub room_page : PageModel
room_page = empty_page (replicate 63 0)

-- the law of a showing of the new sheet on that page, answered r, with the page `left`
abbrev pub ShowingLaw : Answer → PageModel → Type 0
ShowingLaw r left = CallLaw wholes fresh showing (memory [] room_page) r fresh (memory [] left)

-- what the check answers of no unknown, of 25, of a list number too high, of too few cells, and of enough
abbrev pub check_numbers : List ℕ
check_numbers = map plain_number (
    checked (pos 0) (pos 1) 15
    ∷ (checked (pos 25) (pos 65536) 0
    ∷ (checked (pos 2) (pos 65536) 0
    ∷ (checked (pos 2) (pos 65535) 14
    ∷ (checked (pos 2) (pos 65535) 15
    ∷ []))))
    )

-- what the laws of single calls accept and refuse
pub record CallSamples : Type 0 where
  -- a new sheet stands for no equation, and not for one
  pub stands : StandsFor wholes fresh []
  pub stands_not : ¬ StandsFor wholes fresh (sum_one ∷ [])
  -- each of its cells passes the check; one that holds -2147483648 does not, and 14 cells are too few
  pub sound : Sound wholes fresh
  pub bad_cell : ¬ Sound wholes (sheet_of 2 (negsuc 2147483647 ∷ []))
  pub few_cells : ¬ Sound wholes (record { cells = zero_cells wholes 14; unknowns = 2; moves = 2; list = 1 })
  -- its spare cells hold zero; not where the last of them holds 1
  pub spare : SpareZero wholes fresh
  pub spare_not : ¬ SpareZero wholes (sheet_of 2 (replicate 14 (pos 0) ++ (pos 1 ∷ [])))
  -- a posting is answered 0 with the sheet that it leaves, and not with the sheet as it was
  pub posted : PostingLaw (Ok Done) after_one
  pub pretended : ¬ PostingLaw (Ok Done) fresh
  -- it may not be answered 1 or 16, nor be refused by overflow, since each of its add-products gives a number
  pub called_implied : ¬ RightlyPostedOne (Ok Implied)
  pub called_contradicted : ¬ RightlyPostedOne (Err Contradicted)
  pub called_overflow : ¬ RightlyPostedOne (Err Overflow)
  -- where one gives none it is refused by overflow, and not answered 0 or 1, though some plan meets both equations
  pub overflow : RightlyPostedNear (Err Overflow)
  pub overflow_taken : ¬ RightlyPostedNear (Ok Done)
  pub overflow_implied : ¬ RightlyPostedNear (Ok Implied)
  -- a clearing leaves the new sheet; it may not keep one move, nor the sheet as it was
  pub cleared : ClearingLaw after_one fresh
  pub one_kept : ¬ ClearingLaw fresh (sheet_of 1 (pos 0 ∷ (pos 0 ∷ (pos 1 ∷ (pos 0 ∷ [])))))
  pub not_cleared : ¬ ClearingLaw after_one after_one
  -- a picking gives the plan that the choice makes; it may not skip the move, and writes nothing where it is refused
  pub picked : PickingLaw (pos 2 ∷ []) (Ok Done) (pair (negsuc 12) (pos 8))
  pub move_skipped : ¬ PickingLaw (pos 2 ∷ []) (Ok Done) (pair (negsuc 2) (pos 2))
  pub pick_refused : PickingLaw [] (Err Count) (pair (pos 0) (pos 0))
  pub refused_writes : ¬ PickingLaw [] (Err Count) (pair (negsuc 2) (pos 2))
  -- a showing that shows nothing is not done, and one that is refused keeps the page
  pub nothing_shown : ¬ ShowingLaw (Ok Done) room_page
  pub refused_shows : ¬ ShowingLaw (Err NoSheet) (empty_page (replicate 63 1))
  -- the check of an opening has each of its answers
  pub checks : check_numbers ≡ 11 ∷ (11 ∷ (12 ∷ (13 ∷ (0 ∷ []))))
  -- a sheet of two unknowns is not taken up again in 14 cells, and nothing changes; in the cells of the new sheet it is
  pub resume_few : plain_number (resume_answer (empty_sheet (zero_cells wholes 14)) two_outline) ≡ 13
  pub few_left : resume_left (empty_sheet (zero_cells wholes 14)) two_outline ≡ empty_sheet (zero_cells wholes 14)
  pub resume_enough : plain_number (resume_answer (empty_sheet fresh.cells) two_outline) ≡ 0
  pub fresh_again : resume_left (empty_sheet fresh.cells) two_outline ≡ fresh
