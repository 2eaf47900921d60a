-- Lines: a frame, a count and the numbers, in digits, and what reading one answers. Assumes nothing.
use Rattle.std.specs.Prelude.{◌≡◌, ℕ, zero, suc, ◌+◌, ◌*◌, Bool, true, false, cond, ◌||◌, List, [], ◌∷◌, ◌++◌, length, take, drop, ℤ, pos, negsuc, Some, None, Option, Result, option_map, ◌==◌, nat_lt}
use Rattle.std.specs.List.{flat_map, list_any}
use Rattle.std.specs.Option.{option_or}
use Rattle.faults.specs.declared.NumberFault.TheVariants.{Lowest}
use Rattle.faults.specs.declared.LineFault.{LineFault}
use Rattle.faults.specs.declared.LineFault.TheVariants.{FewWords, Length, NoDigit, Size, Frame, Number}
use Rattle.faults.specs.Refusing.{ok_unless, left_unless}
use Rattle.lines.specs.declared.reading.Line.{Line}
use Rattle.lines.specs.Hex.{number_of, word_of, text, word_text, no_digit, find}

-- as many numbers as a line may have
abbrev pub most_numbers : ℕ
most_numbers = 25

-- the byte that ends a line, and is no part of it
abbrev pub line_feed : ℕ
line_feed = 10

-- how many bytes the shortest line has, which is a frame and a count
abbrev pub shortest_line : ℕ
shortest_line = 4

-- how many bytes a line of n numbers has, which is also where a further number would begin
abbrev pub line_length : ℕ → ℕ
line_length n = shortest_line + 8 * n

abbrev pub longest_line : ℕ
longest_line = line_length most_numbers

-- how many bytes it has with its line feed
abbrev pub written_length : ℕ → ℕ
written_length n = 5 + 8 * n

-- a line, without the line feed that ends it
abbrev pub line_text : ℕ → List ℤ → List ℕ
line_text frame ws = text 2 frame ++ (text 2 (length ws) ++ flat_map word_text ws)

-- a line as it stands on a page, with its line feed
abbrev pub written_text : ℕ → List ℤ → List ℕ
written_text frame ws = line_text frame ws ++ line_feed ∷ []

-- the frame, the count and the numbers that a line has by its digits
abbrev pub frame_of : List ℕ → ℕ
frame_of bytes = number_of (take 2 bytes)

abbrev pub count_of : List ℕ → ℕ
count_of bytes = number_of (take 2 (drop 2 bytes))

-- n words of eight digits each
abbrev pub words_of : ℕ → List ℕ → List ℤ
words_of zero digits = []
words_of (suc n) digits = word_of (take 8 digits) ∷ words_of n (drop 8 digits)

abbrev pub numbers : List ℕ → List ℤ
numbers bytes = words_of (count_of bytes) (drop shortest_line bytes)

-- -2147483648, which no line may have
abbrev pub is_lowest : ℤ → Bool
is_lowest (pos n) = false
is_lowest (negsuc n) = n == 2147483647

abbrev pub has : ℕ → List ℕ → Bool
has frame known = list_any (λ k. k == frame) known

abbrev pub length_refusal : List ℕ → Option LineFault
length_refusal bytes =
    cond (nat_lt (length bytes) shortest_line || nat_lt longest_line (length bytes)) (Some Length) None

abbrev pub digit_refusal : List ℕ → Option LineFault
digit_refusal bytes = option_map NoDigit (find no_digit bytes)

abbrev pub size_refusal : List ℕ → Option LineFault
size_refusal bytes = cond (length bytes == line_length (count_of bytes)) None (Some Size)

abbrev pub frame_refusal : List ℕ → List ℕ → Option LineFault
frame_refusal known bytes = cond (has (frame_of bytes) known) None (Some Frame)

abbrev pub number_refusal : List ℕ → Option LineFault
number_refusal bytes = option_map (λ k. Number Lowest (line_length k)) (find is_lowest (numbers bytes))

-- why a caller who knows certain frames refuses the line, in the order of checking
abbrev pub refusal : List ℕ → List ℕ → Option LineFault
refusal known bytes =
    option_or (length_refusal bytes)
    (option_or (digit_refusal bytes)
    (option_or (size_refusal bytes) (option_or (frame_refusal known bytes) (number_refusal bytes))))

abbrev pub line_of : List ℕ → Line
line_of bytes = record { frame = frame_of bytes; count = count_of bytes }

-- why reading into a number of lent words is refused
abbrev pub read_refusal : ℕ → List ℕ → List ℕ → Option LineFault
read_refusal lent known bytes = option_or (cond (nat_lt lent most_numbers) (Some FewWords) None) (refusal known bytes)

-- what reading into a number of lent words answers
abbrev pub read_of : ℕ → List ℕ → List ℕ → Result Line LineFault
read_of lent known bytes = ok_unless (read_refusal lent known bytes) (line_of bytes)

-- the lent words afterwards: the line's numbers and then what they held; all that they held where the line is refused
abbrev pub words_left : Option LineFault → List ℕ → List ℤ → List ℤ
words_left why bytes words = left_unless why words (numbers bytes ++ drop (count_of bytes) words)

-- what reading leaves in the lent words
abbrev pub read_left : List ℕ → List ℕ → List ℤ → List ℤ
read_left known bytes words = words_left (read_refusal (length words) known bytes) bytes words

-- a line that was written is accepted by whoever knows its frame, with the same frame and the same numbers, if none of
-- them is -2147483648
abbrev pub ReadsBack : ℕ → List ℤ → Type 0
ReadsBack frame ws =
    (known : List ℕ) → has frame known ≡ true → find is_lowest ws ≡ None →
    (refusal known (line_text frame ws) ≡ None)
    × (frame_of (line_text frame ws) ≡ frame)
    × (numbers (line_text frame ws) ≡ ws)
