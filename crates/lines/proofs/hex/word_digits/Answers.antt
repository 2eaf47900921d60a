-- `word_digits`: its clauses hold where it returns.
use Rattle.std.proofs.Common.{rules, ◌≡◌, ℕ, ◌/◌, ◌%◌, ◌<◌, List, ◌++◌, [], ◌∷◌, get_or, ap, ◌∙◌, arith, lit<, w32, of_z, to_z}
use Rattle.std.proofs.lemmas.Int.{to_z-of_z}
use Rattle.std.specs.Int.{to_be_bytes}
use Rattle.lines.specs.Hex.{hex_code, text}
use Rattle.lines.proofs.hex.word_digits.Goals as goal

-- the digits of four bytes, highest first
four_bytes : (n : ℕ) → text 2 (n / 16777216 % 256) ++ (text 2 (n / 65536 % 256) ++ (text 2 (n / 256 % 256) ++ text 2 (n % 256))) ≡ text 8 n
four_bytes n =
    let a : n / 16777216 % 256 / 16 % 16 ≡ n / 16 / 16 / 16 / 16 / 16 / 16 / 16 % 16 = omega arith in
    let b : n / 16777216 % 256 % 16 ≡ n / 16 / 16 / 16 / 16 / 16 / 16 % 16 = omega arith in
    let c : n / 65536 % 256 / 16 % 16 ≡ n / 16 / 16 / 16 / 16 / 16 % 16 = omega arith in
    let d : n / 65536 % 256 % 16 ≡ n / 16 / 16 / 16 / 16 % 16 = omega arith in
    let e : n / 256 % 256 / 16 % 16 ≡ n / 16 / 16 / 16 % 16 = omega arith in
    let f : n / 256 % 256 % 16 ≡ n / 16 / 16 % 16 = omega arith in
    let g : n % 256 / 16 % 16 ≡ n / 16 % 16 = omega arith in
    let h : n % 256 % 16 ≡ n % 16 = omega arith in
    λ j. hex_code (a j) ∷ hex_code (b j) ∷ hex_code (c j) ∷ hex_code (d j) ∷ hex_code (e j) ∷ hex_code (f j) ∷ hex_code (g j) ∷ hex_code (h j) ∷ []

pub returns : goal.returns
returns c =
    let n = of_z w32 c.args.word in
    let w : to_z w32 n ≡ c.args.word = to_z-of_z w32 c.args.word c.ranges.word in
    let b : c.to_be_bytes.result ≡ to_be_bytes w32 n = c.to_be_bytes.ensures ∙ ap (λ x. to_be_bytes w32 (of_z w32 x)) w in
    let h : (k : ℕ) → k < 4 → get_or c.map.result k [] ≡ text 2 (get_or c.to_be_bytes.result k 0) = λ k l. let m = c.map.ensures.items.at k 0 [] l in search (rules, m) in
    let q : (k : ℕ) → k < 4 → get_or c.map.result k [] ≡ text 2 (get_or (to_be_bytes w32 n) k 0) = λ k l. h k l ∙ ap (λ (bs : List ℕ). text 2 (get_or bs k 0)) b in
    let s = q 0 (lit< tt) in
    let t = q 1 (lit< tt) in
    let u = q 2 (lit< tt) in
    let v = q 3 (lit< tt) in
    (λ j. get_or (s j) 0 0 ∷ get_or (s j) 1 0 ∷ get_or (t j) 0 0 ∷ get_or (t j) 1 0 ∷ get_or (u j) 0 0 ∷ get_or (u j) 1 0 ∷ get_or (v j) 0 0 ∷ get_or (v j) 1 0 ∷ [])
    ∙ four_bytes n
