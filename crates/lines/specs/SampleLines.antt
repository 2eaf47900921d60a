-- Sample lines: what reading them is answered by, and what is read. Assumes nothing.
use Rattle.std.specs.Prelude.{◌≡◌, ℕ, List, [], ◌∷◌, ◌++◌, map, replicate, codes, ℤ, pos, negsuc, Ok, Err, Result}
use Rattle.faults.specs.declared.LineFault.{LineFault}
use Rattle.faults.specs.Faults.{nowhere, line_fault, line_place}
use Rattle.lines.specs.Line.{numbers, read_of, ReadsBack}
use Rattle.lines.specs.declared.reading.Line.{Line}

-- the answer of a reading and its place; 0 for a line that is accepted
abbrev pub told : Result Line LineFault → ℕ × ℤ
told (Ok line) = (0, nowhere)
told (Err fault) = (line_fault fault, line_place fault)

-- a line, how many words are lent, and what its reading should come to for a caller who knows the frames 01 and 02
pub record Reading : Type 0 where
  pub line : List ℕ
  pub lent : ℕ
  pub answer : ℕ
  pub place : ℤ

-- n bytes that are the digit 0
abbrev pub zeroes : ℕ → List ℕ
zeroes n = replicate n 48

-- where two reasons apply to a row, the first is given
abbrev pub readings : List Reading
readings =
    record { line = codes "0203000000030000000500000001"; lent = 25; answer = 0; place = nowhere }
    ∷ (record { line = codes "020180000001"; lent = 25; answer = 0; place = nowhere }
    ∷ (record { line = codes "0119" ++ zeroes 200; lent = 25; answer = 0; place = nowhere }
    ∷ (record { line = codes "020"; lent = 24; answer = 2; place = nowhere }
    ∷ (record { line = codes "02a"; lent = 25; answer = 3; place = nowhere }
    ∷ (record { line = zeroes 205; lent = 25; answer = 3; place = nowhere }
    ∷ (record { line = codes "020z"; lent = 25; answer = 4; place = pos 3 }
    ∷ (record { line = codes "02020000000100000a01"; lent = 25; answer = 4; place = pos 17 }
    ∷ (record { line = codes "0302"; lent = 25; answer = 5; place = pos 2 }
    ∷ (record { line = codes "030180000000"; lent = 25; answer = 6; place = pos 0 }
    ∷ (record { line = codes "02020000000180000000"; lent = 25; answer = 7; place = pos 12 }
    ∷ []))))))))))

abbrev pub Readings : Type 0
Readings = map (λ s. told (read_of s.lent (1 ∷ (2 ∷ [])) s.line)) readings ≡ map (λ s. (s.answer, s.place)) readings

-- the numbers of a line: 3, 5, 1, -3 and -2147483647
abbrev pub NumbersRead : Type 0
NumbersRead =
    numbers (codes "0205000000030000000500000001FFFFFFFD80000001")
    ≡ pos 3 ∷ (pos 5 ∷ (pos 1 ∷ (negsuc 2 ∷ (negsuc 2147483646 ∷ []))))

-- a line of 26 numbers would not read back
abbrev pub TooLong : Type 0
TooLong = ¬ ReadsBack 2 (replicate 26 (pos 0))
