-- `Table::largest`: what holds at each turn of its loop.
use Rattle.std.proofs.Common.{◌≡◌, IfSome}
use Rattle.plans.specs.Posting.{largest_of}
use Rattle.sheets.specs.Table.{skipped, size_of, top_of}
use Rattle.sheets.proofs.table.Table.largest.Given as goal

abbrev pub invariant-loop-j : goal.invariant-loop-j
invariant-loop-j g l = record {
  value : l.best ≡ largest_of (size_of l.self) (skipped l.skip l.self.shape.moves) l.j;
  top : IfSome l.best (λ b. l.most ≡ top_of l.self b);
}
