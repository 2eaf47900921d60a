-- Printing a row: its loop keeps what holds at each turn.
use Rattle.std.proofs.Common.{ℕ, List, ◌∷◌, ◌+◌, pos, get_or, sym, ap, rules}
use Rattle.std.proofs.Output.{has_written_append, has_written_of_eq}
use Rattle.std.specs.Fmt.{HasWritten}
use Rattle.decimal.specs.Decimal.{member}
use Rattle.decimal.proofs.Each.{each_more}
use Rattle.decimal.proofs.RowDisplay.fmt.Goals as goal
use Rattle.decimal.proofs.RowDisplay.fmt.Goals.{then-i-gt0, else-i-gt0}

pub loop-i-preserved : goal.loop-i-preserved
loop-i-preserved g c =
    λ plain.
    let words = c.args.self.now.0.now in
    let i = c.loop-i.i in
    let one : HasWritten g.W.Write.write_str_gives c.loop-i.f (member (i + 1) (get_or words i (pos 0))) c.write-in-loop-i.new.self =
    elim c.if-i-gt0.branch [ then-i-gt0 w ↦ search rules | else-i-gt0 w ↦ search rules ] in
    has_written_of_eq _ _ _ _ _ (ap (λ (t : List ℕ). 40 ∷ t) (sym (each_more member words i (pos 0) c.loop-i-test.true))) (has_written_append _ _ _ _ _ _ (c.loop-i.invariant plain) one)
