-- The texts of numbers of a sheet in decimal. Assumes nothing.
use Rattle.std.specs.Prelude.{ℕ, ◌+◌, ℤ, pos, negsuc, cond, nat_lt, List, [], ◌∷◌, ◌++◌, codes, length, take, slice_index_or}
use Rattle.std.specs.Fmt.{decimal, signed_decimal}

-- the texts of a list's numbers, one after another; each is given its place, and the first one's is given
abbrev pub each : (ℕ → ℤ → List ℕ) → ℕ → List ℤ → List ℕ
each text place [] = []
each text place (number ∷ numbers) = text place number ++ each text (place + 1) numbers

-- a coefficient with its unknown: from the second on, its sign joins it to those before
abbrev pub term : ℕ → ℤ → List ℕ
term unknown (pos n) = cond (nat_lt 1 unknown) (codes " + ") [] ++ decimal n ++ codes " x" ++ decimal unknown
term unknown (negsuc n) =
    cond (nat_lt 1 unknown) (codes " - ") (codes "-") ++ decimal (n + 1) ++ codes " x" ++ decimal unknown

-- the coefficients of an equation
abbrev pub side : List ℤ → List ℕ
side [] = codes "0"
side (number ∷ numbers) = each term 1 (number ∷ numbers)

-- the coefficients and then the right side
abbrev pub equation : List ℤ → List ℕ
equation [] = codes "no numbers"
equation (number ∷ numbers) =
    side (take (length numbers) (number ∷ numbers))
    ++ codes " = "
    ++ signed_decimal (slice_index_or (number ∷ numbers) (length numbers) (pos 0))

-- a comma from the second place on
abbrev pub comma : ℕ → List ℕ
comma place = cond (nat_lt 1 place) (codes ", ") []

-- an unknown with its number
abbrev pub entry : ℕ → ℤ → List ℕ
entry unknown number = comma unknown ++ codes "x" ++ decimal unknown ++ codes " = " ++ signed_decimal number

-- a number for each unknown
abbrev pub plan : List ℤ → List ℕ
plan [] = codes "no numbers"
plan (number ∷ numbers) = each entry 1 (number ∷ numbers)

-- a number with the comma before it
abbrev pub member : ℕ → ℤ → List ℕ
member place number = comma place ++ signed_decimal number

-- numbers alone
abbrev pub row : List ℤ → List ℕ
row numbers = codes "(" ++ each member 1 numbers ++ codes ")"
