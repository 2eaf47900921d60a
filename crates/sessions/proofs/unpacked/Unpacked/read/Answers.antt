-- `Unpacked::read`: what it makes keeps its invariant and its clauses hold where it returns.
use Rattle.std.proofs.Common.{◌≡◌, ℕ, true, ◌++◌, length, take, drop, Ok, Option, sym, refl, ap, ◌∙◌, arith}
use Rattle.std.proofs.lemmas.Result.{err_from_is_err_and}
use Rattle.std.proofs.lemmas.Bool.{cond-true}
use Rattle.faults.specs.declared.LineFault.{LineFault}
use Rattle.lines.specs.Line.{frame_of, has, numbers, count_of, words_left}
use Rattle.lines.specs.declared.reading.Line.{Line}
use Rattle.lines.proofs.Accepting.{accepted, enough, read_ok, read_err, words_read}
use Rattle.lines.proofs.Words.{length_words_of}
use Rattle.sessions.specs.Frames.{known, frame_kind, frame_named}
use Rattle.sessions.specs.Wiped.{wiped}
use Rattle.sessions.proofs.Wiping.{wiped_read}
use Rattle.sessions.proofs.unpacked.Unpacked.read.Goals as goal

-- a frame that is known is named
named : (frame : ℕ) → has frame known ≡ true → frame_named frame ≡ Ok (frame_kind frame)
named frame h = cond-true _ _ _ h

pub returns-in_err-read-clause-refused : goal.returns-in_err-read-clause-refused
returns-in_err-read-clause-refused c =
    let p = err_from_is_err_and c.from_residual.result c.from_residual.ensures.1 in
    let e = read_err (length c.args.self.now.words.now) known c.args.line.now c.in_err-read.field-0.0 c.requires (sym c.read_line.ensures.value ∙ c.in_err-read.was) in
    rw (p.1, p.2) e

pub invariant_of-self-2 : goal.invariant_of-self-2
invariant_of-self-2 c =
    let a = read_ok (length c.args.self.now.words.now) known c.args.line.now c.in_ok-read.read c.requires (sym c.read_line.ensures.value ∙ c.in_ok-read.was) in
    let w = accepted known c.args.line.now a.0 in
    let k = ap (λ (l : Line). l.count) a.1 in
    record { within = omega (arith, w.sized, w.short, k, c.requires, c.read_line.auto.words) }

pub returns-clause-accepted : goal.returns-clause-accepted
returns-clause-accepted c =
    let bytes = c.args.line.now in
    let old = c.args.self.now.words.now in
    let a = read_ok (length old) known bytes c.in_ok-read.read c.requires (sym c.read_line.ensures.value ∙ c.in_ok-read.was) in
    let w = accepted known bytes a.0 in
    let n : c.try_from.result ≡ Ok (frame_kind (frame_of bytes)) = c.try_from.ensures ∙ ap (λ (l : Line). frame_named l.frame) (sym a.1) ∙ named (frame_of bytes) w.known_frame in
    rw n a.0

pub returns-clause-frame : goal.returns-clause-frame
returns-clause-frame c =
    let bytes = c.args.line.now in
    let old = c.args.self.now.words.now in
    let a = read_ok (length old) known bytes c.in_ok-read.read c.requires (sym c.read_line.ensures.value ∙ c.in_ok-read.was) in
    let w = accepted known bytes a.0 in
    let n : c.try_from.result ≡ Ok (frame_kind (frame_of bytes)) = c.try_from.ensures ∙ ap (λ (l : Line). frame_named l.frame) (sym a.1) ∙ named (frame_of bytes) w.known_frame in
    rw n refl

pub returns-clause-few : goal.returns-clause-few
returns-clause-few c =
    let bytes = c.args.line.now in
    let old = c.args.self.now.words.now in
    let a = read_ok (length old) known bytes c.in_ok-read.read c.requires (sym c.read_line.ensures.value ∙ c.in_ok-read.was) in
    let w = accepted known bytes a.0 in
    let n : c.try_from.result ≡ Ok (frame_kind (frame_of bytes)) = c.try_from.ensures ∙ ap (λ (l : Line). frame_named l.frame) (sym a.1) ∙ named (frame_of bytes) w.known_frame in
    let k = ap (λ (l : Line). l.count) a.1 in
    rw n (omega (arith, w.sized, w.short, k))

pub returns-clause-numbers : goal.returns-clause-numbers
returns-clause-numbers c =
    let bytes = c.args.line.now in
    let old = c.args.self.now.words.now in
    let a = read_ok (length old) known bytes c.in_ok-read.read c.requires (sym c.read_line.ensures.value ∙ c.in_ok-read.was) in
    let w = accepted known bytes a.0 in
    let n : c.try_from.result ≡ Ok (frame_kind (frame_of bytes)) = c.try_from.ensures ∙ ap (λ (l : Line). frame_named l.frame) (sym a.1) ∙ named (frame_of bytes) w.known_frame in
    let k = ap (λ (l : Line). l.count) a.1 in
    rw n (ap (λ (m : ℕ). take m c.read_line.new.words) (sym k) ∙ ap (take (count_of bytes)) c.read_line.ensures.after ∙ words_read (length old) known bytes old c.requires a.0)

pub returns-clause-refused : goal.returns-clause-refused
returns-clause-refused c =
    let bytes = c.args.line.now in
    let old = c.args.self.now.words.now in
    let a = read_ok (length old) known bytes c.in_ok-read.read c.requires (sym c.read_line.ensures.value ∙ c.in_ok-read.was) in
    let w = accepted known bytes a.0 in
    let n : c.try_from.result ≡ Ok (frame_kind (frame_of bytes)) = c.try_from.ensures ∙ ap (λ (l : Line). frame_named l.frame) (sym a.1) ∙ named (frame_of bytes) w.known_frame in
    rw n tt

pub returns-clause-wiped : goal.returns-clause-wiped
returns-clause-wiped c =
    let bytes = c.args.line.now in
    let old = c.args.self.now.words.now in
    let a = read_ok (length old) known bytes c.in_ok-read.read c.requires (sym c.read_line.ensures.value ∙ c.in_ok-read.was) in
    let w = accepted known bytes a.0 in
    let left : c.read_line.new.words ≡ numbers bytes ++ drop (count_of bytes) old = c.read_line.ensures.after ∙ ap (λ (o : Option LineFault). words_left o bytes old) (enough (length old) known bytes c.requires ∙ a.0) in
    ap wiped left ∙ wiped_read (numbers bytes) old (count_of bytes) (length_words_of (count_of bytes) (drop 4 bytes)) (omega (arith, w.sized, w.short)) c.requires
