-- `Sheet::show`: its law holds where it returns.
use Rattle.std.proofs.Common.{◌≡◌, Ok, Result, rules}
use Rattle.faults.specs.declared.SheetFault.{SheetFault}
use Rattle.lines.specs.Page.{model as page_model}
use Rattle.sheets.specs.Sheet.{model}
use Rattle.sheets.specs.Showing.{show_answer, show_left}
use Rattle.sheets.proofs.ShowLaws.{show_keeps}
use Rattle.sheets.proofs.sheet.Sheet.show.Goals as goal

pub returns-in_err-check_show-clause-law : goal.returns-in_err-check_show-clause-law
returns-in_err-check_show-clause-law g c =
    let a = g.K.Kind.arith in
    let m = model c.args.self.now in
    let page = page_model c.args.page.now in
    let answer : c.from_residual.result ≡ show_answer m page = search rules in
    let left : page ≡ show_left a m page = search rules in
    show_keeps a m page c.from_residual.result page answer left

pub returns-clause-law : goal.returns-clause-law
returns-clause-law g c =
    let a = g.K.Kind.arith in
    let m = model c.args.self.now in
    let page = page_model c.args.page.now in
    let r : Result Unit SheetFault = Ok tt in
    let answer : r ≡ show_answer m page = search rules in
    let left : page_model c.write_rows.new.page ≡ show_left a m page = search rules in
    show_keeps a m page r (page_model c.write_rows.new.page) answer left
