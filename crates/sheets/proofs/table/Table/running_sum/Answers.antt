-- `Table::running_sum`: its loop keeps what holds at each turn and its clauses hold where it returns.
use Rattle.std.proofs.Common.{get_or, ap, rules, w32, SFits, length, pos, Some, None, sym, ◌∙◌, arith}
use Rattle.std.proofs.lemmas.Int.{to_z-of_z}
use Rattle.std.proofs.lemmas.List.{length-map, get_or-map}
use Rattle.sheets.specs.Cells.{part, numbers}
use Rattle.sheets.proofs.Numbers.{length_numbers_part, number_of_part, running_more}
use Rattle.sheets.specs.Words.{number_of, numbers_of}
use Rattle.sheets.proofs.table.Table.running_sum.Goals as goal

pub returns-in_err-sum : goal.returns-in_err-sum
returns-in_err-sum g c =
    let a = g.K.Kind.arith in
    let cs = numbers_of a c.args.coefficients.now in
    let cells = c.args.self.now.cells.now in
    let n = length c.args.coefficients.now in
    let xs = numbers a (part c.args.from n cells) in
    let i = c.loop-i.i in
    let k = length-map c.args.coefficients.now (number_of a) in
    let z = get_or c.args.coefficients.now i (pos 0) in
    let fits : SFits w32 z = search rules in
    let w = c.word_number.ensures ∙ ap (number_of a) (to_z-of_z w32 z fits) ∙ sym (get_or-map (number_of a) c.args.coefficients.now i (pos 0) c.word_number.result c.loop-i-test.true) in
    let l = length_numbers_part a cells c.args.from n c.requires in
    let x = c.number.ensures ∙ sym (number_of_part a cells c.args.from n i c.requires c.loop-i-test.true) in
    c.from_residual.ensures
    ∙ running_more a c.loop-i.sum cs xs i c.word_number.result c.number.result None (omega (arith, k, c.loop-i-test.true)) (omega arith) w x (sym c.in_err-sum.was ∙ c.add_product.ensures)
    ∙ c.loop-i.invariant

pub loop-i-preserved : goal.loop-i-preserved
loop-i-preserved g c =
    let a = g.K.Kind.arith in
    let cs = numbers_of a c.args.coefficients.now in
    let cells = c.args.self.now.cells.now in
    let n = length c.args.coefficients.now in
    let xs = numbers a (part c.args.from n cells) in
    let i = c.loop-i.i in
    let k = length-map c.args.coefficients.now (number_of a) in
    let z = get_or c.args.coefficients.now i (pos 0) in
    let fits : SFits w32 z = search rules in
    let w = c.word_number.ensures ∙ ap (number_of a) (to_z-of_z w32 z fits) ∙ sym (get_or-map (number_of a) c.args.coefficients.now i (pos 0) c.word_number.result c.loop-i-test.true) in
    let l = length_numbers_part a cells c.args.from n c.requires in
    let x = c.number.ensures ∙ sym (number_of_part a cells c.args.from n i c.requires c.loop-i-test.true) in
    running_more a c.loop-i.sum cs xs i c.word_number.result c.number.result (Some c.in_ok-sum.sum) (omega (arith, k, c.loop-i-test.true)) (omega arith) w x (sym c.in_ok-sum.was ∙ c.add_product.ensures)
    ∙ c.loop-i.invariant
