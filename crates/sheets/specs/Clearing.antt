-- What a clearing answers, and the sheet that it leaves. Assumes nothing.
use Rattle.std.specs.Prelude.{cond, Ok, Err, Result}
use Rattle.faults.specs.declared.SheetFault.{SheetFault}
use Rattle.faults.specs.declared.SheetFault.TheVariants.{NoSheet}
use Rattle.kinds.specs.Kind.{Arithmetic}
use Rattle.plans.specs.Sheet.{new_sheet}
use Rattle.sheets.specs.Cells.{sheet_cells}
use Rattle.sheets.specs.Sheet.{Model, stands}

-- the answer to a clearing
abbrev pub clear_answer : {C : Type 0} → Model C → Result Unit SheetFault
clear_answer m = cond (stands m) (Ok tt) (Err NoSheet)

module _ {N C : Type 0} (a : Arithmetic N C) where
  -- the new sheet again, in the same cells and of the same list of unknowns
  abbrev pub new_again : Model C → Model C
  new_again m = record {
    cells = sheet_cells a m.unknowns (new_sheet a m.unknowns) m.cells;
    unknowns = m.unknowns;
    moves = m.unknowns;
    list = m.list;
  }

  -- the sheet afterwards
  abbrev pub clear_left : Model C → Model C
  clear_left m = cond (stands m) (new_again m) m
