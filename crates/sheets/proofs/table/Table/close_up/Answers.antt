-- `Table::close_up`: its clauses hold where it returns.
use Rattle.std.proofs.Common.{◌≡◌, ℕ, ◌+◌, List, map, length, refl, ap, ◌∙◌, subst, inr, arith}
use Rattle.std.proofs.lemmas.List.{length-map}
use Rattle.lines.specs.Page.{over}
use Rattle.plans.specs.Posting.{Column, without}
use Rattle.sheets.specs.Cells.{main_cells, part, numbers, held}
use Rattle.sheets.specs.Table.{first_of}
use Rattle.sheets.specs.Work.{columns_at}
use Rattle.sheets.proofs.Closing.{closed_up}
use Rattle.sheets.proofs.Numbers.{length_numbers_part}
use Rattle.sheets.proofs.Rounding.{columns_kept}
use Rattle.sheets.proofs.Tables.{square_in, work_in}
use Rattle.sheets.proofs.table.Table.close_up.Goals as goal

pub returns-clause-cells : goal.returns-clause-cells
returns-clause-cells g c =
    let a = g.K.Kind.arith in
    let s = c.args.self.now in
    let cs = s.cells.now in
    let n = s.shape.unknowns in
    let p = main_cells n in
    let k = s.shape.moves in
    let l = c.args.pivot in
    let F = numbers a (part (p + 1) n cs) in
    let room = work_in s in
    let lf : length (held a F) ≡ n = length-map F a.to_cell ∙ length_numbers_part a cs (p + 1) n (omega (arith, room)) in
    let e = subst (λ (x : ℕ). c.copy.new.cells ≡ over cs 0 (held a (numbers a (part (x + 1) n cs)))) c.spare.ensures.value c.copy.ensures in
    let t : columns_at a c.copy.new.cells n (first_of s) k ≡ columns_at a cs n (first_of s) k
    = ap (λ (x : List g.row.K-Cell.Denot). columns_at a x n (first_of s) k) e ∙ columns_kept a n (first_of s) k cs (over cs 0 (held a F)) (omega (arith, room)) 0 n (held a F, (lf, refl)) (omega (arith, room)) (inr (omega arith)) in
    closed_up a n p k l cs (square_in s) s.shape.few room c.requires c.copy.new.cells c.close_moves.new.self.cells.now c.wipe.new.cells e
    (ap (λ (x : List (Column g.row.K.Denot)). map (λ c. c.low) (without x l)) t) c.close_moves.ensures.cells c.wipe.ensures
