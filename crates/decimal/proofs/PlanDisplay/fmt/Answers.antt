-- Printing a plan: its loop keeps what holds at each turn.
use Rattle.std.proofs.Common.{◌+◌, pos, get_or, sym, rules}
use Rattle.std.proofs.Output.{has_written_append, has_written_of_eq}
use Rattle.std.specs.Fmt.{HasWritten}
use Rattle.decimal.specs.Decimal.{entry}
use Rattle.decimal.proofs.Each.{each_more}
use Rattle.decimal.proofs.PlanDisplay.fmt.Goals as goal

pub loop-i-preserved : goal.loop-i-preserved
loop-i-preserved g c =
    λ plain.
    let words = c.args.self.now.0.now in
    let i = c.loop-i.i in
    let one : HasWritten g.W.Write.write_str_gives c.loop-i.f (entry (i + 1) (get_or words i (pos 0))) c.write-in-loop-i.new.self = search rules in
    has_written_of_eq _ _ _ _ _ (sym (each_more entry words i (pos 0) c.loop-i-test.true)) (has_written_append _ _ _ _ _ _ (c.loop-i.invariant plain) one)
