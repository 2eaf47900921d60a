-- `balance`: what holds at each turn of its loop.
use Rattle.std.proofs.Common.{◌≡◌, false, Some}
use Rattle.std.specs.Iterator.Adapters.{zip_first, zip_second}
use Rattle.std.specs.List.{AllByRecursion}
use Rattle.std.specs.Slice.Iter.{iter_rest}
use Rattle.lines.specs.Line.{is_lowest}
use Rattle.costing.specs.Costing.{lines_balance, running}
use Rattle.costing.proofs.balance.Given as goal

abbrev pub invariant-loop-c : goal.invariant-loop-c
invariant-loop-c l =
    (goal.iterator-loop-c).can_next l.c-iterator
    × (goal.iterator-loop-c).is_finite l.c-iterator
    × AllByRecursion (λ w. is_lowest w ≡ false) (iter_rest (zip_first l.c-iterator))
    × AllByRecursion (λ w. is_lowest w ≡ false) (iter_rest (zip_second l.c-iterator))
    × (running (Some l.sum) (iter_rest (zip_first l.c-iterator)) (iter_rest (zip_second l.c-iterator))
    ≡ lines_balance l.equation.words.now l.plan.words.now)
