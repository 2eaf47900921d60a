-- `balance`: its loop keeps what holds at each turn and what it calls may be called.
use Rattle.std.proofs.Common.{◌≡◌, false, length, get_or, take, pos, ap, ◌∙◌, arith, w32, SFits, rules}
use Rattle.std.proofs.ByRecursion.{All-get_or, All-take}
use Rattle.std.proofs.lemmas.Int.{to_z-of_z}
use Rattle.std.specs.Iterator.Adapters.{zip_first, zip_second}
use Rattle.std.specs.Slice.Iter.{iter_rest}
use Rattle.lines.specs.Line.{is_lowest}
use Rattle.lines.proofs.Finding.{find_none}
use Rattle.costing.proofs.balance.Goals as goal

pub whole-requires : goal.whole-requires
whole-requires c =
    let ws = c.args.equation.now.words.now in
    let n = length c.args.plan.now.words.now in
    let f : SFits w32 (get_or ws n (pos 0)) = search rules in
    ap is_lowest (to_z-of_z w32 (get_or ws n (pos 0)) f) ∙ All-get_or (λ w. is_lowest w ≡ false) ws n (pos 0) (omega arith) (find_none is_lowest 0 ws c.args.equation.now.stored)

pub loop-c-init : goal.loop-c-init
loop-c-init c =
    let ws = c.args.equation.now.words.now in
    let xs = c.args.plan.now.words.now in
    let n = length xs in
    let cs = All-take (λ w. is_lowest w ≡ false) n ws (find_none is_lowest 0 ws c.args.equation.now.stored) in
    let first : iter_rest (zip_first c.into_iter-c-iterator.result) ≡ take n ws = search rules in
    let second : iter_rest (zip_second c.into_iter-c-iterator.result) ≡ xs = search rules in
    rw (first, second) ((tt, tt), tt, cs, find_none is_lowest 0 xs c.args.plan.now.stored, search rules)
