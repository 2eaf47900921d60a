-- `FullLine::first_lowest`: its clauses hold where it returns.
use Rattle.std.proofs.Common.{rules, tests, ◌≡◌, ℕ, suc, ◌+◌, ◌*◌, ◌<◌, Bool, List, ◌∷◌, [], cond, length, get_or, drop, take, find, ℤ, pos, Some, None, Option, option_map, sym, refl, ap, ◌∙◌, add-zero, zero-add, arith}
use Rattle.std.proofs.lemmas.Iterator.{YieldsList-from_range}
use Rattle.std.proofs.lemmas.Iterator.Search.{find_from_yields_List}
use Rattle.std.specs.List.{range_with_len, position_from}
use Rattle.lines.specs.Hex.{word_of, find as find_at}
use Rattle.lines.specs.Line.{is_lowest, words_of}
use Rattle.lines.proofs.Words.{number_at, length_words_of}
use Rattle.lines.proofs.reading.FullLine.first_lowest.Goals as goal

map_same : {X : Type 0} (o : Option X) → option_map (λ x. x) o ≡ o
map_same None = refl
map_same (Some x) = refl

-- the first index of a range whose element passes
find_range : {X : Type 0} (test : X → Bool) (by : ℕ → X) (xs : List X) (d : X) (i : ℕ) → ((k : ℕ) → k < length xs → get_or xs k d ≡ by (i + k)) → find (λ k. test (by k)) (range_with_len i (length xs)) ≡ position_from test i xs
find_range test by [] d i h = refl
find_range {X} test by (x ∷ xs) d i h =
    let e : by i ≡ x = ap by (sym (add-zero i)) ∙ sym (h 0 (omega arith)) in
    let r = find_range test by xs d (i + 1) (λ k l. h (suc k) (omega arith) ∙ ap by (omega arith)) in
    (λ j. cond (test (e j)) (Some i) (r j))

pub returns-clause-value : goal.returns-clause-value
returns-clause-value c =
    let bytes = c.args.self.now.digits.bytes.now in
    let n = c.args.self.now.line.count in
    let ws = words_of n (drop 4 bytes) in
    let l : length ws ≡ n = length_words_of n (drop 4 bytes) in
    let w : ℕ → ℤ = λ k. word_of (take 8 (drop (4 + 8 * k) bytes)) in
    let e : option_map (λ x. x) c.find.result ≡ find (λ k. is_lowest (w k)) (range_with_len 0 n)
    = find_from_yields_List {v = λ x. x} (λ k. is_lowest (w k)) _ _ c.find.result c.find.ensures.ran (YieldsList-from_range 0 n n (cc) (omega arith)) (λ x b q k. search (rules, tests)) in
    sym (map_same c.find.result) ∙ e ∙ ap (λ m. find (λ k. is_lowest (w k)) (range_with_len 0 m)) (sym l)
    ∙ find_range is_lowest w ws (pos 0) 0 (λ k h. number_at n bytes k (omega arith) (pos 0) ∙ ap w (sym (zero-add k)))
    ∙ ap (λ (m : ℕ). find_at is_lowest (words_of m (drop 4 bytes))) c.args.self.now.count
