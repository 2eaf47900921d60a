-- Hexadecimal digits, bytes of two digits and words of eight. Assumes nothing.
use Rattle.std.specs.Prelude.{ℕ, zero, suc, ◌+◌, ◌-◌, ◌/◌, ◌%◌, ◌<◌, Bool, cond, List, [], ◌∷◌, ◌++◌, map, ℤ, Some, None, Option, nat_lt}
use Rattle.std.proofs.Common.{to_z, of_z}
use Rattle.std.specs.Int.{w32}
use Rattle.std.specs.Int.Digits.{number_from_digits}
use Rattle.std.specs.List.{AllByRecursion, position_from}

-- the value of a character's code: 0 to 9 and A to F, and 16 for any other
abbrev pub hex_value : ℕ → ℕ
hex_value c =
    cond (nat_lt c 48) 16
    (cond (nat_lt c 58) (c - 48) (cond (nat_lt c 65) 16 (cond (nat_lt c 71) (c - 55) 16)))

abbrev pub no_digit : ℕ → Bool
no_digit c = nat_lt 15 (hex_value c)

abbrev pub digit_of : ℕ → Option ℕ
digit_of c = cond (no_digit c) None (Some (hex_value c))

-- the code of a digit's value
abbrev pub hex_code : ℕ → ℕ
hex_code v = cond (nat_lt v 10) (48 + v) (55 + v)

-- each byte is a digit
abbrev pub Hex : List ℕ → Type 0
Hex bytes = AllByRecursion (λ c. hex_value c < 16) bytes

-- the place of the first element that passes the test
abbrev pub find : {A : Type 0} → (A → Bool) → List A → Option ℕ
find test xs = position_from test 0 xs

-- the number that digits write, highest first
abbrev pub number_of : List ℕ → ℕ
number_of digits = number_from_digits 16 (map hex_value digits)

-- the signed word that eight digits write, by two's complement
abbrev pub word_of : List ℕ → ℤ
word_of digits = to_z w32 (number_of digits)

-- the values of the k lowest digits of n, highest first
abbrev pub digits : ℕ → ℕ → List ℕ
digits zero n = []
digits (suc k) n = digits k (n / 16) ++ (n % 16 ∷ [])

-- n written in k digits
abbrev pub text : ℕ → ℕ → List ℕ
text k n = map hex_code (digits k n)

-- a word written in eight digits
abbrev pub word_text : ℤ → List ℕ
word_text w = text 8 (of_z w32 w)
