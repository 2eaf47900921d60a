-- `FullLine::unpack`: its loop keeps what holds at each turn and its clauses hold where it returns.
use Rattle.std.proofs.Common.{◌≡◌, ℕ, ◌<◌, ◌≤◌, List, [], ◌∷◌, ◌++◌, length, get_or, drop, ℤ, pos, sym, ap, ◌∙◌, arith, w32, to_z, of_z}
use Rattle.std.proofs.lemmas.List.{take_more_set, take_more, take_all, length-take-le}
use Rattle.std.proofs.lemmas.Int.{to_z-of_z}
use Rattle.lines.specs.Line.{words_of}
use Rattle.lines.proofs.Words.{number_at, length_words_of}
use Rattle.lines.proofs.reading.FullLine.unpack.Goals as goal

pub loop-k-preserved : goal.loop-k-preserved
loop-k-preserved c =
    let k = c.loop-k.k in
    let n = c.args.self.now.line.count in
    let ws = words_of n (drop 4 c.args.self.now.digits.bytes.now) in
    let e = length_words_of n (drop 4 c.args.self.now.digits.bytes.now) in
    let f = length-take-le n c.args.words.now c.requires.room in
    let h : k < n = omega arith in
    let v : to_z w32 (of_z w32 c.number.result) ≡ get_or ws k (pos 0)
    = to_z-of_z w32 c.number.result (record { sfits = c.number.type_inv }) ∙ c.number.ensures ∙ sym (number_at n c.args.self.now.digits.bytes.now k h (pos 0)) in
    take_more_set c.loop-k.word-items k (to_z w32 (of_z w32 c.number.result)) (omega (arith, c.loop-k.auto.word-items))
    ∙ (λ j. c.loop-k.invariant j ++ v j ∷ [])
    ∙ sym (take_more ws k (pos 0) (omega arith))

pub returns : goal.returns
returns c =
    let n = c.args.self.now.line.count in
    let k = c.loop-k.k in
    let ws = words_of n (drop 4 c.args.self.now.digits.bytes.now) in
    let items = c.loop-k.word-items in
    let e : length ws ≡ n = length_words_of n (drop 4 c.args.self.now.digits.bytes.now) in
    let f = length-take-le n c.args.words.now c.requires.room in
    let m : length items ≤ k = omega (arith, c.loop-k.auto.word-items, c.loop-k-test.false) in
    ap (λ (xs : List ℤ). xs ++ drop n c.args.words.now)
    (sym (take_all k items m)
    ∙ c.loop-k.invariant
    ∙ take_all k ws (omega (arith, c.loop-k-test.false))
    ∙ ap (λ (m : ℕ). words_of m (drop 4 c.args.self.now.digits.bytes.now)) c.args.self.now.count)
