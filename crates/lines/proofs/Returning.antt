-- A line that was written reads back.
use Rattle.std.proofs.Common.{◌≡◌, ℕ, ◌+◌, ◌*◌, ◌<◌, ◌≤◌, true, false, ◌||◌, eqb, ltb, List, [], ◌∷◌, ◌++◌, length, ℤ, Some, None, option_map, refl, ap, ◌∙◌, arith, w32, SFits, of_z}
use Rattle.std.specs.Option.{option_or}
use Rattle.std.specs.List.{flat_map, AllByRecursion}
use Rattle.std.proofs.ByRecursion.{All-append, All-weaker}
use Rattle.std.proofs.lemmas.Bool.{le-ltb, eq-eqb, or_from, cond-true, cond-false}
use Rattle.faults.specs.declared.LineFault.TheVariants.{Length, NoDigit, Size, Frame, Number}
use Rattle.faults.specs.declared.NumberFault.TheVariants.{Lowest}
use Rattle.lines.specs.Hex.{Hex, hex_value, no_digit, text, word_text, find}
use Rattle.lines.specs.Line.{line_text, frame_of, count_of, words_of, numbers, is_lowest, has, length_refusal, digit_refusal, size_refusal, frame_refusal, number_refusal, refusal, ReadsBack}
use Rattle.lines.proofs.Digits.{hex_text, number_text, word_word_text}
use Rattle.lines.proofs.Filling.{length_joined}
use Rattle.lines.proofs.Finding.{none_find}

words_joined : (ws : List ℤ) → AllByRecursion (SFits w32) ws → words_of (length ws) (flat_map word_text ws) ≡ ws
words_joined [] f = refl
words_joined (w ∷ ws) f = let a = word_word_text w f.0 in let b = words_joined ws f.1 in λ j. a j ∷ b j

hex_joined : (ws : List ℤ) → Hex (flat_map word_text ws)
hex_joined [] = tt
hex_joined (w ∷ ws) = All-append (λ c. hex_value c < 16) (word_text w) (flat_map word_text ws) (hex_text 8 (of_z w32 w)) (hex_joined ws)

module _ (frame : ℕ) (ws : List ℤ) (small : frame < 256) (few : length ws ≤ 25) (fits : AllByRecursion (SFits w32) ws) where
  length_line : length (line_text frame ws) ≡ 4 + 8 * length ws
  length_line = let e = length_joined ws in omega arith

  frame_back : frame_of (line_text frame ws) ≡ frame
  frame_back = number_text 2 frame small

  count_back : count_of (line_text frame ws) ≡ length ws
  count_back = number_text 2 (length ws) (omega arith)

  numbers_back : numbers (line_text frame ws) ≡ ws
  numbers_back = ap (λ (n : ℕ). words_of n (flat_map word_text ws)) count_back ∙ words_joined ws fits

  hex_line : Hex (line_text frame ws)
  hex_line =
      All-append (λ c. hex_value c < 16) (text 2 frame) (text 2 (length ws) ++ flat_map word_text ws) (hex_text 2 frame)
      (All-append (λ c. hex_value c < 16) (text 2 (length ws)) (flat_map word_text ws) (hex_text 2 (length ws)) (hex_joined ws))

  no_fault : (known : List ℕ) → has frame known ≡ true → find is_lowest ws ≡ None → refusal known (line_text frame ws) ≡ None
  no_fault known k l =
      let T = line_text frame ws in
      let e1 : length_refusal T ≡ None = cond-false (ltb (length T) 4 || ltb 204 (length T)) (Some Length) None (let n = length_line in or_from (ltb (length T) 4) (ltb 204 (length T)) (le-ltb (length T) 4 (omega arith)) (le-ltb 204 (length T) (omega arith))) in
      let d : find no_digit T ≡ None = none_find no_digit 0 T (All-weaker (λ c. hex_value c < 16) (λ c. no_digit c ≡ false) (λ c h. le-ltb 15 (hex_value c) (omega arith)) T hex_line) in
      let e2 : digit_refusal T ≡ None = ap (option_map NoDigit) d in
      let e3 : size_refusal T ≡ None = cond-true (eqb (length T) (4 + 8 * count_of T)) None (Some Size) (let n = length_line in let m = count_back in eq-eqb (length T) (4 + 8 * count_of T) (omega arith)) in
      let e4 : frame_refusal known T ≡ None = cond-true (has (frame_of T) known) None (Some Frame) (ap (λ (f : ℕ). has f known) frame_back ∙ k) in
      let e5 : number_refusal T ≡ None = ap (option_map (λ k. Number Lowest (4 + 8 * k))) (ap (find is_lowest) numbers_back ∙ l) in
      λ j. option_or (e1 j) (option_or (e2 j) (option_or (e3 j) (option_or (e4 j) (e5 j))))

  pub reads_back : ReadsBack frame ws
  reads_back known k l = (no_fault known k l, frame_back, numbers_back)
