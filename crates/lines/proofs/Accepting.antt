-- What is known of a line that is accepted, and that it would be written again byte for byte.
use Rattle.std.proofs.Common.{◌≡◌, ℕ, zero, suc, ◌+◌, ◌*◌, ◌<◌, ◌≤◌, Bool, true, false, cond, ◌||◌, eqb, ltb, List, [], ◌∷◌, ◌++◌, length, take, drop, ℤ, Some, None, Ok, Err, Option, option_map, sym, refl, ap, ◌∙◌, arith}
use Rattle.std.specs.Option.{option_or}
use Rattle.std.specs.List.{flat_map}
use Rattle.std.proofs.ByRecursion.{All-take, All-drop, All-weaker}
use Rattle.std.proofs.lemmas.List.{length-take-le, length-drop, take-append-drop, take_at, drop-drop}
use Rattle.std.proofs.lemmas.Bool.{ltb-false, le-ltb, eqb-true, or_parts, cond-false}
use Rattle.faults.specs.declared.LineFault.{LineFault}
use Rattle.faults.specs.declared.LineFault.TheVariants.{FewWords}
use Rattle.faults.proofs.Refusing.{ok_not_refused, err_refused}
use Rattle.lines.specs.declared.reading.Line.{Line}
use Rattle.lines.specs.Hex.{Hex, hex_value, no_digit, text, word_text, find}
use Rattle.lines.specs.Line.{most_numbers, shortest_line, longest_line, line_length, line_text, frame_of, count_of, words_of, numbers, is_lowest, has, length_refusal, digit_refusal, size_refusal, frame_refusal, number_refusal, refusal, read_refusal, read_of, line_of, words_left}
use Rattle.lines.proofs.Digits.{text_number, word_text_word}
use Rattle.lines.proofs.Finding.{find_none}
use Rattle.lines.proofs.Words.{length_words_of}

-- no byte but digits
pub hex_from_find : (bytes : List ℕ) → find no_digit bytes ≡ None → Hex bytes
hex_from_find bytes e = All-weaker (λ c. no_digit c ≡ false) (λ c. hex_value c < 16) (λ c h. let l = ltb-false 15 (hex_value c) h in omega arith) bytes (find_none no_digit 0 bytes e)

pub or_none : (a b : Option LineFault) → option_or a b ≡ None → (a ≡ None) × (b ≡ None)
or_none None b e = (refl, e)
or_none (Some f) b e = absurd cc

map_none : (f : ℕ → LineFault) (o : Option ℕ) → option_map f o ≡ None → o ≡ None
map_none f None e = refl
map_none f (Some k) e = absurd cc

passed : (t : Bool) (f : LineFault) → cond t None (Some f) ≡ None → t ≡ true
passed true f e = refl
passed false f e = absurd cc

pub not_taken : (t : Bool) (f : LineFault) → cond t (Some f) None ≡ None → t ≡ false
not_taken false f e = refl
not_taken true f e = absurd cc

pub record Accepted (known bytes : List ℕ) : Type 0 where
  pub short : length bytes ≤ longest_line
  pub hex : Hex bytes
  pub sized : length bytes ≡ line_length (count_of bytes)
  pub known_frame : has (frame_of bytes) known ≡ true
  pub none_lowest : find is_lowest (numbers bytes) ≡ None

pub accepted : (known bytes : List ℕ) → refusal known bytes ≡ None → Accepted known bytes
accepted known bytes e =
    let a = or_none (length_refusal bytes) (option_or (digit_refusal bytes) (option_or (size_refusal bytes) (option_or (frame_refusal known bytes) (number_refusal bytes)))) e in
    let b = or_none (digit_refusal bytes) (option_or (size_refusal bytes) (option_or (frame_refusal known bytes) (number_refusal bytes))) a.1 in
    let c = or_none (size_refusal bytes) (option_or (frame_refusal known bytes) (number_refusal bytes)) b.1 in
    let d = or_none (frame_refusal known bytes) (number_refusal bytes) c.1 in
    let l = or_parts (ltb (length bytes) shortest_line) (ltb longest_line (length bytes)) (not_taken (ltb (length bytes) shortest_line || ltb longest_line (length bytes)) _ a.0) in
    record {
      short = ltb-false longest_line (length bytes) l.1;
      hex = hex_from_find bytes (map_none _ (find no_digit bytes) b.0);
      sized = eqb-true _ _ (passed (eqb (length bytes) (line_length (count_of bytes))) _ c.0);
      known_frame = passed (has (frame_of bytes) known) _ d.0;
      none_lowest = map_none _ (find is_lowest (numbers bytes)) d.1;
    }

-- enough words
pub enough : (lent : ℕ) (known bytes : List ℕ) → most_numbers ≤ lent → read_refusal lent known bytes ≡ refusal known bytes
enough lent known bytes h = ap (λ o. option_or o (refusal known bytes)) (cond-false (ltb lent most_numbers) (Some FewWords) None (le-ltb lent most_numbers h))

-- what an answer of reading says of the line
pub read_ok : (lent : ℕ) (known bytes : List ℕ) (line : Line) → most_numbers ≤ lent → read_of lent known bytes ≡ Ok line → (refusal known bytes ≡ None) × (line_of bytes ≡ line)
read_ok lent known bytes line h e = let a = ok_not_refused (read_refusal lent known bytes) (line_of bytes) line e in (sym (enough lent known bytes h) ∙ a.0, a.1)

pub read_err : (lent : ℕ) (known bytes : List ℕ) (f : LineFault) → most_numbers ≤ lent → read_of lent known bytes ≡ Err f → refusal known bytes ≡ Some f
read_err lent known bytes f h e = sym (enough lent known bytes h) ∙ err_refused (read_refusal lent known bytes) (line_of bytes) f e

-- the first words after a line was accepted
pub words_read : (lent : ℕ) (known bytes : List ℕ) (old : List ℤ) → most_numbers ≤ lent → refusal known bytes ≡ None → take (count_of bytes) (words_left (read_refusal lent known bytes) bytes old) ≡ numbers bytes
words_read lent known bytes old h e =
    ap (λ (o : Option LineFault). take (count_of bytes) (words_left o bytes old)) (enough lent known bytes h ∙ e)
    ∙ take_at (numbers bytes) (drop (count_of bytes) old) (count_of bytes) (length_words_of (count_of bytes) (drop 4 bytes))

-- words that were read are written again
joined_words : (n : ℕ) (ds : List ℕ) → length ds ≡ 8 * n → Hex ds → flat_map word_text (words_of n ds) ≡ ds
joined_words zero [] l h = refl
joined_words zero (d ∷ ds) l h = absurd (omega arith)
joined_words (suc n) ds l h =
    let a = word_text_word (take 8 ds) (length-take-le 8 ds (omega arith)) (All-take (λ c. hex_value c < 16) 8 ds h) in
    let b = joined_words n (drop 8 ds) (length-drop 8 ds ∙ omega arith) (All-drop (λ c. hex_value c < 16) 8 ds h) in
    (λ j. a j ++ b j) ∙ take-append-drop 8 ds

pub written_again : (bytes : List ℕ) → Hex bytes → length bytes ≡ line_length (count_of bytes) → line_text (frame_of bytes) (numbers bytes) ≡ bytes
written_again bytes h l =
    let rest = drop 2 bytes in
    let hr = All-drop (λ c. hex_value c < 16) 2 bytes h in
    let lr : length rest ≡ 2 + 8 * count_of bytes = length-drop 2 bytes ∙ omega arith in
    let f = text_number 2 (take 2 bytes) (length-take-le 2 bytes (omega arith)) (All-take (λ c. hex_value c < 16) 2 bytes h) in
    let k = ap (text 2) (length_words_of (count_of bytes) (drop 4 bytes)) ∙ text_number 2 (take 2 rest) (length-take-le 2 rest (omega arith)) (All-take (λ c. hex_value c < 16) 2 rest hr) in
    let w : flat_map word_text (numbers bytes) ≡ drop 2 rest = joined_words (count_of bytes) (drop 4 bytes) (length-drop 4 bytes ∙ omega arith) (All-drop (λ c. hex_value c < 16) 4 bytes h) ∙ sym (drop-drop 2 2 bytes) in
    (λ j. f j ++ (k j ++ w j)) ∙ ap (λ (x : List ℕ). take 2 bytes ++ x) (take-append-drop 2 rest) ∙ take-append-drop 2 bytes
