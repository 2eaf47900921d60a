-- `Sheet::clear`: its clauses hold where it returns.
use Rattle.std.proofs.Common.{◌≡◌, Ok, Result, refl, rules}
use Rattle.faults.specs.declared.SheetFault.{SheetFault}
use Rattle.sheets.specs.Clearing.{clear_answer, clear_left}
use Rattle.sheets.specs.Sheet.{Model, model}
use Rattle.sheets.proofs.ClearLaws.{clear_keeps}
use Rattle.sheets.proofs.sheet.Sheet.clear.Goals as goal

pub returns : goal.returns
returns g c =
    let a = g.K.Kind.arith in
    let m = model c.args.self.now in
    let r : Result Unit SheetFault = Ok tt in
    let after : Model g.row.K-Cell.Denot = record { cells = c.lay_sheet-self.new.cells; unknowns = c.lay_sheet-self.result.unknowns; moves = c.lay_sheet-self.result.moves; list = c.args.self.now.list } in
    let answer : r ≡ clear_answer m = search rules in
    let left : after ≡ clear_left a m = search rules in
    record { held = refl; answer = answer; left = left; law = clear_keeps a g.met.K.Kind.kept m c.args.self.now.cells_enough r after answer left }
