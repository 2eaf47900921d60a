-- What each call on a sheet keeps to, in the words of equations and plans. Assumes nothing.
use Rattle.std.specs.Prelude.{◌≡◌, ℕ, ◌+◌, ◌<◌, ◌≤◌, ◌↔◌, true, false, List, length, take, ℤ, pos, Some, Ok, Err, slice_index_or}
use Rattle.std.specs.List.{AllByRecursion}
use Rattle.faults.specs.declared.NumberFault.TheVariants.{NotAdmitted}
use Rattle.faults.specs.declared.PageFault.TheVariants.{LineBegun, NoRoom}
use Rattle.faults.specs.declared.SheetFault.TheVariants.{Page, Number, NoSheet, Count, Overflow}
use Rattle.kinds.specs.Kind.{Arithmetic, Admitted}
use Rattle.kinds.specs.Equation.{Equation, equation_of}
use Rattle.lines.specs.Page.{Model as PageModel, with_text, HasRoom}
use Rattle.plans.specs.Overflows.{LacksSum, Lacking}
use Rattle.plans.specs.Sheet.{Contents}
use Rattle.plans.specs.Solution.{MeetsAll, MakesPlan, Judgement, Verdict, Holds}
use Rattle.sheets.specs.declared.call.Success.TheVariants.{Done}
use Rattle.sheets.specs.Answers.{Answer, verdict_answer}
use Rattle.sheets.specs.Calls.{SheetCall, posting, clearing, picking, showing, Memory, in_force_after}
use Rattle.sheets.specs.Cells.{main_cells, spare_cells, needed, part, zero_cells}
use Rattle.sheets.specs.Picking.{entries}
use Rattle.sheets.specs.Sheet.{Model, contents_of}
use Rattle.sheets.specs.Showing.{rows_length, shown_text}
use Rattle.sheets.specs.Words.{number_of, numbers_of}

-- the answer is no refusal by lack of unknowns, count, word or overflow
pub record GoesThrough (r : Answer) : Type 0 where
  pub has_unknowns : ¬ (r ≡ Err NoSheet)
  pub right_count : ¬ (r ≡ Err Count)
  pub words_admitted : (i : ℕ) → ¬ (r ≡ Err (Number (NotAdmitted i)))
  pub no_overflow : ¬ (r ≡ Err Overflow)

module _ {N C : Type 0} (a : Arithmetic N C) where
  -- the sheet stands for the equations es
  abbrev pub StandsFor : Model C → List Equation → Type 0
  StandsFor m es = Holds a m.unknowns es (contents_of a m)

  -- the cell passes its check
  abbrev pub Passes : C → Type 0
  Passes cell = (x : N) × (a.from_cell cell ≡ Some x)

  -- each cell that a sheet with unknowns needs is there, and passes its check
  abbrev pub Sound : Model C → Type 0
  Sound m =
      ¬ (m.unknowns ≡ 0) →
      (needed m.unknowns ≤ length m.cells) × AllByRecursion Passes (take (needed m.unknowns) m.cells)

  -- the spare cells of a sheet that has unknowns hold zero
  abbrev pub SpareZero : Model C → Type 0
  SpareZero m =
      ¬ (m.unknowns ≡ 0) →
      part (main_cells m.unknowns) (spare_cells m.unknowns) m.cells ≡ zero_cells a (spare_cells m.unknowns)

  -- word i is the first that the kind does not admit
  abbrev pub FirstRefused : List ℤ → ℕ → Type 0
  FirstRefused ws i =
      (i < length ws) × (¬ Admitted a (slice_index_or ws i (pos 0))) × AllByRecursion (Admitted a) (take i ws)

  -- a call that brings the words ws to a sheet of n unknowns is refused in exactly these cases, Counted being that the
  -- counts are those needed, and Lacking that an add-product of its steps gives none
  pub record RightlyRefused (n : ℕ) (ws : List ℤ) (Counted Lacking : Type 0) (r : Answer) : Type 0 where
    -- the sheet has no unknowns
    pub no_unknowns : (r ≡ Err NoSheet) ↔ (n ≡ 0)
    -- it has, and a count is not the one needed
    pub count : (r ≡ Err Count) ↔ ((¬ (n ≡ 0)) × (¬ Counted))
    -- they are, and word i is the first that the kind does not admit
    pub word : (i : ℕ) → (r ≡ Err (Number (NotAdmitted i))) ↔ ((¬ (n ≡ 0)) × Counted × FirstRefused ws i)
    -- all are admitted, and a step gives a number that cannot be stored
    pub overflow : (r ≡ Err Overflow) ↔ ((¬ (n ≡ 0)) × Counted × AllByRecursion (Admitted a) ws × Lacking)

  -- an add-product of posting the words ws to what a sheet of n unknowns holds gives none
  abbrev pub PostingLacks : ℕ → Contents N → List ℤ → Type 0
  PostingLacks n s ws = Lacking a s (numbers_of a (take n ws)) (number_of a (slice_index_or ws n (pos 0)))

  -- the words ws, posted to a sheet of n unknowns that holds s, are refused in exactly these cases
  abbrev pub PostingRefused : ℕ → Contents N → List ℤ → Answer → Type 0
  PostingRefused n s ws r = RightlyRefused n ws (length ws ≡ n + 1) (PostingLacks n s ws) r

  -- the words ws, posted to a sheet of n unknowns that holds s, with the equations es in force, are rightly answered r
  pub record RightlyPosted (n : ℕ) (es : List Equation) (s : Contents N) (ws : List ℤ) (r : Answer) : Type 0 where
    pub refused : PostingRefused n s ws r
    -- any other answer says which of the plans that meet every equation in force meet the posted one too: all, some and
    -- not all, or none
    pub verdict : GoesThrough r → (j : Judgement) × (r ≡ verdict_answer j) × Verdict a.modulus n es (equation_of n ws) j

  -- a clearing of a sheet of n unknowns is rightly answered r
  pub record RightlyCleared (n : ℕ) (r : Answer) : Type 0 where
    pub no_unknowns : (r ≡ Err NoSheet) ↔ (n ≡ 0)
    pub done : (r ≡ Ok Done) ↔ (¬ (n ≡ 0))

  -- an add-product of the sum for one of the n unknowns gives none
  abbrev pub PickingLacks : ℕ → Contents N → List ℤ → Type 0
  PickingLacks n s choice =
      (i : ℕ) × (i < n) × LacksSum a (slice_index_or s.fixed i a.zero) (entries a s.moves i) (numbers_of a choice)

  -- a choice, picked from a sheet of n unknowns that holds s, with the equations es in force, into the words `lent`,
  -- is rightly answered r and rightly leaves the words `plan`
  pub record RightlyPicked (n : ℕ) (es : List Equation) (s : Contents N)
      (choice lent : List ℤ) (r : Answer) (plan : List ℤ) : Type 0 where
    pub refused : RightlyRefused n choice
        ((length choice ≡ length s.moves) × (length lent ≡ n)) (PickingLacks n s choice) r
    pub done : GoesThrough r → r ≡ Ok Done
    -- the plan has a number for each unknown, and meets every equation in force
    pub meets : r ≡ Ok Done → (length plan ≡ n) × MeetsAll a.modulus es plan
    -- and is the one that the choice makes
    pub is_made : r ≡ Ok Done → MakesPlan a s choice plan
    -- a refused picking writes nothing
    pub kept : ¬ (r ≡ Ok Done) → plan ≡ lent

  -- a sheet of n unknowns that holds s, shown on the page `lent`, is rightly answered r and rightly leaves the page
  pub record RightlyShown (n : ℕ) (s : Contents N) (lent : PageModel) (r : Answer) (page : PageModel) : Type 0 where
    -- it is refused where a line is begun on the page; where none is, and the sheet has no unknowns; and where it has,
    -- and the page has no room for its lines
    pub line_begun : (r ≡ Err (Page LineBegun)) ↔ (lent.begun ≡ true)
    pub no_unknowns : (r ≡ Err NoSheet) ↔ ((lent.begun ≡ false) × (n ≡ 0))
    pub no_room : (r ≡ Err (Page NoRoom)) ↔
        ((lent.begun ≡ false) × (¬ (n ≡ 0)) × (length lent.bytes < lent.end + rows_length (length s.moves) n))
    -- and else done
    pub done : (r ≡ Ok Done) ↔ ((¬ (n ≡ 0)) × HasRoom lent (rows_length (length s.moves) n))
    -- then its lines stand behind what stood on the page; refused, it keeps the page
    pub shown : r ≡ Ok Done → page ≡ with_text lent (shown_text a s)
    pub kept : ¬ (r ≡ Ok Done) → page ≡ lent

  -- a call on a sheet of n unknowns that holds s, with the equations es in force, is rightly answered r and rightly
  -- leaves the memory that was lent to it
  abbrev pub Rightly : ℕ → List Equation → Contents N → SheetCall → Memory → Answer → Memory → Type 0
  Rightly n es s (posting ws) lent r left = RightlyPosted n es s ws r × (left ≡ lent)
  Rightly n es s clearing lent r left = RightlyCleared n r × (left ≡ lent)
  Rightly n es s (picking choice) lent r left =
      RightlyPicked n es s choice lent.words r left.words × (left.page ≡ lent.page)
  Rightly n es s showing lent r left = RightlyShown n s lent.page r left.page × (left.words ≡ lent.words)

  -- a call on the sheet m that is answered r leaves the sheet `after`, and its memory `left`: whatever equations m
  -- stands for, `after` stands for those then in force, and the call is rightly answered
  pub record CallLaw (m : Model C) (call : SheetCall) (lent : Memory)
      (r : Answer) (after : Model C) (left : Memory) : Type 0 where
    pub unknowns : after.unknowns ≡ m.unknowns
    pub list : after.list ≡ m.list
    pub in_force : (es : List Equation) → StandsFor m es → StandsFor after (in_force_after m.unknowns call r es)
    pub rightly : (es : List Equation) → StandsFor m es → Rightly m.unknowns es (contents_of a m) call lent r left
    pub sound : Sound m → Sound after
    pub spare : SpareZero m → SpareZero after
