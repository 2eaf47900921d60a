-- `FullLine::number`: what it calls may be called.
use Rattle.std.proofs.Common.{◌+◌, ◌-◌, ◌*◌, ◌<◌, length, take, drop}
use Rattle.std.proofs.ByRecursion.{All-take, All-drop}
use Rattle.lines.specs.Hex.{hex_value}
use Rattle.lines.proofs.reading.FullLine.number.Goals as goal

pub word-requires-clause-hex : goal.word-requires-clause-hex
word-requires-clause-hex c =
    let bytes = c.args.self.now.digits.bytes.now in
    let at = 4 + 8 * c.args.k in
    All-take (λ b. hex_value b < 16) 8 (take (length bytes - at) (drop at bytes))
    (All-take (λ b. hex_value b < 16) (length bytes - at) (drop at bytes)
    (All-drop (λ b. hex_value b < 16) at bytes c.args.self.now.digits.hex))
