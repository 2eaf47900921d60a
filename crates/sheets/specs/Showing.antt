-- What a sheet shows: a line for its fixed plan, and one for each move. Assumes nothing.
use Rattle.std.specs.Prelude.{ℕ, ◌+◌, ◌*◌, cond, List, ◌++◌, map, length, Some, None, Option, Result, nat_lt}
use Rattle.std.specs.List.{flat_map}
use Rattle.faults.specs.Refusing.{done_unless, left_unless}
use Rattle.faults.specs.declared.PageFault.TheVariants.{LineBegun, NoRoom}
use Rattle.faults.specs.declared.SheetFault.{SheetFault}
use Rattle.faults.specs.declared.SheetFault.TheVariants.{Page, NoSheet}
use Rattle.kinds.specs.Kind.{Arithmetic}
use Rattle.lines.specs.Line.{written_length, written_text}
use Rattle.lines.specs.Page.{Model as PageModel, with_text}
use Rattle.plans.specs.Sheet.{Contents}
use Rattle.sheets.specs.Sheet.{Model, contents_of, stands}

-- the frames of a fixed plan and of a move: 83 and 84
abbrev pub fixed_plan_frame : ℕ
fixed_plan_frame = 131

abbrev pub move_frame : ℕ
move_frame = 132

-- how many bytes the lines of a fixed plan and of k moves have, in n unknowns
abbrev pub rows_length : ℕ → ℕ → ℕ
rows_length k n = (k + 1) * written_length n

-- how many the lines of a showing have
abbrev pub show_length : {C : Type 0} → Model C → ℕ
show_length m = rows_length m.moves m.unknowns

-- why a sheet cannot be shown on a page
abbrev pub show_refusal : {C : Type 0} → Model C → PageModel → Option SheetFault
show_refusal m p =
    cond p.begun (Some (Page LineBegun))
    (cond (stands m) (cond (nat_lt (length p.bytes) (p.end + show_length m)) (Some (Page NoRoom)) None) (Some NoSheet))

-- the answer to a showing
abbrev pub show_answer : {C : Type 0} → Model C → PageModel → Result Unit SheetFault
show_answer m p = done_unless (show_refusal m p)

module _ {N C : Type 0} (a : Arithmetic N C) where
  -- numbers as one line, with its line feed
  abbrev pub row_text : ℕ → List N → List ℕ
  row_text frame row = written_text frame (map a.write row)

  -- the fixed plan, and then the moves in order
  abbrev pub shown_text : Contents N → List ℕ
  shown_text s = row_text fixed_plan_frame s.fixed ++ flat_map (row_text move_frame) s.moves

  -- the page afterwards
  abbrev pub show_left : Model C → PageModel → PageModel
  show_left m p = left_unless (show_refusal m p) p (with_text p (shown_text (contents_of a m)))
