-- `scale_column`: its clauses hold where it returns.
use Rattle.std.proofs.Common.{◌+◌, map, ap, ◌∙◌, arith}
use Rattle.std.proofs.lemmas.List.{length-map}
use Rattle.plans.specs.Posting.{blank}
use Rattle.sheets.specs.Cells.{part, numbers}
use Rattle.sheets.specs.Work.{column_at}
use Rattle.sheets.proofs.Numbers.{length_numbers_part}
use Rattle.sheets.proofs.Standing.{column_list, combined_came}
use Rattle.sheets.proofs.columns.scale_column.Goals as goal

pub returns : goal.returns
returns g c =
    let a = g.K.Kind.arith in
    let cells = c.args.cells.now in
    let n = c.args.n in
    let at = c.args.at in
    let xs = numbers a (part at (n + 1) cells) in
    let l = length_numbers_part a cells at (n + 1) c.requires in
    let e = column_list a cells n at (omega (arith, c.requires)) in
    combined_came a g.met.K.Kind.kept (blank a (column_at a cells n at)) (column_at a cells n at) c.args.u (map (λ _. a.zero) xs) xs cells c.scale.new.cells n at c.scale.result
    c.requires (ap (map (λ _. a.zero)) e) e (length-map xs (λ _. a.zero) ∙ l) l c.scale.ensures
