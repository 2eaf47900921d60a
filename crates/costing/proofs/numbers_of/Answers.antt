-- `numbers_of`: what it makes keeps its invariant and its clauses hold where it returns.
use Rattle.std.proofs.Common.{◌≡◌, ℕ, ◌≤◌, List, [], ◌∷◌, length, take, ℤ, None, Ok, sym, ap, ◌∙◌, arith, rules}
use Rattle.std.proofs.lemmas.Result.{err_from_is_err_and}
use Rattle.lines.specs.Hex.{find}
use Rattle.lines.specs.Line.{most_numbers, is_lowest, numbers, refusal, read_refusal, read_of, words_left}
use Rattle.lines.specs.declared.reading.Line.{Line}
use Rattle.lines.proofs.Accepting.{accepted, read_ok, read_err, words_read}
use Rattle.costing.proofs.numbers_of.Goals as goal

-- the first words are the numbers of a line that was read
first_words : (known bytes : List ℕ) (old words : List ℤ) (line : Line) → most_numbers ≤ length old → Ok line ≡ read_of (length old) known bytes →
    words ≡ words_left (read_refusal (length old) known bytes) bytes old → (refusal known bytes ≡ None) × (take line.count words ≡ numbers bytes)
first_words known bytes old words line long e after =
    let a = read_ok (length old) known bytes line long (sym e) in (
      a.0,
      ap (λ (l : Line). take l.count words) (sym a.1) ∙ ap (take _) after ∙ words_read (length old) known bytes old long a.0,
    )

pub returns-in_err-line-clause-fault : goal.returns-in_err-line-clause-fault
returns-in_err-line-clause-fault c =
    let old = c.args.words.now in
    let long : length old ≡ most_numbers = search rules in
    let e = read_err (length old) (c.args.frame ∷ []) c.args.bytes.now _ (omega arith) (sym c.in_err-line.ensures.value) in
    let p = err_from_is_err_and c.from_residual.result c.from_residual.ensures.1 in
    rw (p.1, p.2) (sym e)

pub invariant_of-result : goal.invariant_of-result
invariant_of-result c =
    let old = c.args.words.now in
    let long : length old ≡ most_numbers = search rules in
    let r = first_words (c.args.frame ∷ []) c.args.bytes.now old _ c.in_ok-line.line (omega arith) c.in_ok-line.ensures.value c.in_ok-line.ensures.after in
    record { stored = ap (find is_lowest) r.1 ∙ (accepted (c.args.frame ∷ []) c.args.bytes.now r.0).none_lowest }

pub returns : goal.returns
returns c =
    let old = c.args.words.now in
    let long : length old ≡ most_numbers = search rules in
    let r = first_words (c.args.frame ∷ []) c.args.bytes.now old _ c.in_ok-line.line (omega arith) c.in_ok-line.ensures.value c.in_ok-line.ensures.after in
    record { fault = sym r.0; words = r.1 }
