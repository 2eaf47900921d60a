-- `Sheet::picked`: its loop keeps what holds at each turn and its clauses hold where it returns.
use Rattle.std.proofs.Common.{get_or, ap, rules, w32, SFits, length, pos, Some, None, sym, ◌∙◌, arith}
use Rattle.std.proofs.lemmas.Int.{to_z-of_z}
use Rattle.std.proofs.lemmas.List.{length-map, get_or-map}
use Rattle.sheets.specs.Words.{number_of, numbers_of}
use Rattle.sheets.proofs.Places.{rows_in}
use Rattle.sheets.proofs.Plans.{pick_more, pick_end}
use Rattle.sheets.proofs.sheet.Sheet.picked.Goals as goal

pub returns-in_err-sum : goal.returns-in_err-sum
returns-in_err-sum g c =
    let a = g.K.Kind.arith in
    let s = c.args.self.now in
    let n = s.shape.unknowns in
    let choice = c.args.choice.now in
    let j = c.loop-j.j in
    let room = rows_in n s.shape.moves (length s.cells.now) s.shape.few c.requires.room in
    let z = get_or choice j (pos 0) in
    let fits : SFits w32 z = search rules in
    let x = c.word_number.ensures ∙ ap (number_of a) (to_z-of_z w32 z fits) ∙ sym (get_or-map (number_of a) choice j (pos 0) a.zero c.loop-j-test.true) in
    c.from_residual.ensures
    ∙ pick_more a s.cells.now n s.shape.moves c.args.i room c.requires.there (numbers_of a choice) (length-map choice (number_of a) ∙ c.requires.exact)
    j c.row.result c.loop-j.sum c.read-entry.result c.word_number.result None (omega (arith, c.loop-j-test.true, c.requires.exact)) c.row.ensures.value c.read-entry.ensures x (sym c.in_err-sum.was ∙ c.add_product.ensures) c.loop-j.invariant

pub loop-j-preserved : goal.loop-j-preserved
loop-j-preserved g c =
    let a = g.K.Kind.arith in
    let s = c.args.self.now in
    let n = s.shape.unknowns in
    let choice = c.args.choice.now in
    let j = c.loop-j.j in
    let room = rows_in n s.shape.moves (length s.cells.now) s.shape.few c.requires.room in
    let z = get_or choice j (pos 0) in
    let fits : SFits w32 z = search rules in
    let x = c.word_number.ensures ∙ ap (number_of a) (to_z-of_z w32 z fits) ∙ sym (get_or-map (number_of a) choice j (pos 0) a.zero c.loop-j-test.true) in
    pick_more a s.cells.now n s.shape.moves c.args.i room c.requires.there (numbers_of a choice) (length-map choice (number_of a) ∙ c.requires.exact)
    j c.row.result c.loop-j.sum c.read-entry.result c.word_number.result (Some c.in_ok-sum.sum) (omega (arith, c.loop-j-test.true, c.requires.exact)) c.row.ensures.value c.read-entry.ensures x (sym c.in_ok-sum.was ∙ c.add_product.ensures) c.loop-j.invariant

pub returns : goal.returns
returns g c =
    let a = g.K.Kind.arith in
    let s = c.args.self.now in
    let n = s.shape.unknowns in
    let choice = c.args.choice.now in
    let room = rows_in n s.shape.moves (length s.cells.now) s.shape.few c.requires.room in
    pick_end a s.cells.now n s.shape.moves c.args.i room c.requires.there (numbers_of a choice) (length-map choice (number_of a) ∙ c.requires.exact) c.loop-j.j c.loop-j.sum (omega (arith, c.requires.exact)) c.loop-j.invariant
