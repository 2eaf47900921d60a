-- `Cutter::keep`: its clauses hold where it returns.
use Rattle.std.proofs.Common.{◌≡◌, ℕ, List, ◌+◌, ◌-◌, ◌≤◌, ◌++◌, length, take, ap, ◌∙◌, arith, rules}
use Rattle.std.proofs.lemmas.Slice.{take-put_mid}
use Rattle.std.proofs.lemmas.List.{length-take-le}
use Rattle.input.proofs.Cuts.{kept}
use Rattle.input.proofs.Cutter.keep.Goals as goal

pub returns : goal.returns
returns c =
    let held = c.self.inside.held in
    let at = c.self.inside.len in
    let bytes = c.args.bytes.now in
    let room : at ≤ length held = search rules in
    let front : length (take at held) ≡ at = length-take-le at held room in
    let copied : c.copy_from_slice.new.self ≡ take c.min-n.result bytes = c.copy_from_slice.ensures.after in
    let end : at + c.min-n.result ≡ at + length c.copy_from_slice.new.self = omega (arith, ap length copied ∙ length-take-le c.min-n.result bytes (omega arith)) in
    take-put_mid at (at + c.min-n.result - at) held c.copy_from_slice.new.self (at + c.min-n.result) end room
    ∙ ap (λ (t : List ℕ). take at held ++ t) copied
    ∙ kept (take at held) bytes c.min-n.result 205 (omega arith) (omega arith)
    ∙ ap (λ (t : List ℕ). take 205 (t ++ bytes)) c.self.view_is
