-- Printing a line that could not be read: its clauses hold where it returns.
use Rattle.std.proofs.Common.{◌≡◌, ℕ, List, ◌++◌, cond, codes, length, map, nat_lt, take, ap, ◌∙◌, arith, rules}
use Rattle.std.proofs.Output.{has_written_append, has_written_of_eq}
use Rattle.std.proofs.lemmas.List.{take_all, take_min}
use Rattle.std.specs.Fmt.{HasWritten}
use Rattle.plancheck.specs.Unread.{most_shown, glyph}
use Rattle.plancheck.proofs.unread.UnreadDisplay.fmt.Goals as goal
use Rattle.plancheck.proofs.unread.UnreadDisplay.fmt.Goals.{then-self-gt-SHOWN, else-self-gt-SHOWN}

pub returns-clause-writes : goal.returns-clause-writes
returns-clause-writes g c =
    λ plain ok.
    let bytes = c.args.self.now.0.now in
    let shown : take c.loop-b.b-index (take c.min.result bytes) ≡ take most_shown bytes =
    take_all c.loop-b.b-index (take c.min.result bytes) c.loop-b-test.false ∙ ap (λ (n : ℕ). take n bytes) (omega arith) ∙ take_min most_shown bytes in
    let end : List ℕ = cond (nat_lt most_shown (length bytes)) (codes "...\"") (codes "\"") in
    let last : HasWritten g.W.Write.write_str_gives c.loop-b.f end c.write-2.new.self =
    elim c.if-self-gt-SHOWN.branch [ then-self-gt-SHOWN w ↦ search rules | else-self-gt-SHOWN w ↦ search rules ] in
    has_written_of_eq _ _ _ _ _ (ap (λ (t : List ℕ). codes "not read: \"" ++ map glyph t ++ end) shown) (has_written_append _ _ _ _ _ _ (c.loop-b.invariant plain) last)
