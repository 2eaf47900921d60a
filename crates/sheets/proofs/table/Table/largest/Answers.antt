-- `Table::largest`: its clauses hold where it returns.
use Rattle.std.proofs.Common.{◌≡◌, ◌<◌, IfSome, Option, ℕ, sym, ap, ◌∙◌, subst, arith}
use Rattle.plans.specs.Posting.{largest_of}
use Rattle.plans.proofs.Bests.{largest_under}
use Rattle.sheets.specs.Table.{skipped, size_of}
use Rattle.sheets.proofs.table.Table.largest.Goals as goal

pub returns-clause-within : goal.returns-clause-within
returns-clause-within g c =
    let s = c.args.self.now in
    let e : c.loop-j.j ≡ s.shape.moves = omega arith in
    let k = skipped c.args.skip s.shape.moves in
    let v = c.loop-j.invariant.value ∙ ap (largest_of (size_of s) k) e in
    subst (λ (o : Option ℕ). IfSome o (λ b. b < s.shape.moves)) (sym v) (largest_under (size_of s) k s.shape.moves)
