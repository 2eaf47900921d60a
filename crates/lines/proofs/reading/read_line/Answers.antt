-- `read_line`: its clauses hold where it returns.
use Rattle.std.proofs.Common.{ℕ, sym, ap, ◌∙◌}
use Rattle.lines.specs.Line.{line_text, frame_of, numbers}
use Rattle.lines.proofs.Accepting.{accepted, written_again}
use Rattle.lines.proofs.reading.read_line.Goals as goal

pub returns-clause-again : goal.returns-clause-again
returns-clause-again c =
    let bytes = c.args.bytes.now in
    let full = c.in_ok-full.ensures in
    let w = accepted c.args.known.now bytes (sym full.fault) in
    ap (λ (n : ℕ). line_text n (numbers bytes)) (c.in_ok-full.full.frame ∙ ap frame_of full.bytes) ∙ written_again bytes w.hex w.sized
