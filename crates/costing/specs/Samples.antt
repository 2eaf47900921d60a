-- Sample lines: what the costing call is answered by. Assumes nothing.
use Rattle.std.specs.Prelude.{◌≡◌, ℕ, List, [], ◌∷◌, ◌++◌, map, codes, ℤ, pos}
use Rattle.lines.specs.SampleLines.{zeroes}
use Rattle.costing.specs.Costing.{verdict, answer, Means}

-- an equation's line and a plan's, and the answer
pub record Asked : Type 0 where
  pub equation : List ℕ
  pub plan : List ℕ
  pub answer : ℤ

-- 3 x1 + 5 x2 = 1
abbrev pub sum_one : List ℕ
sum_one = codes "0203000000030000000500000001"

-- a plan that meets it, -3 and 2, and one that does not, 1 and 1
abbrev pub meeting : List ℕ
meeting = codes "8202FFFFFFFD00000002"

abbrev pub failing : List ℕ
failing = codes "82020000000100000001"

-- the equation's line is refused before the plan's, and each of them before the counts
abbrev pub asked : List Asked
asked =
    record { equation = sum_one; plan = meeting; answer = pos 1 }
    ∷ (record { equation = codes "0219" ++ zeroes 200; plan = codes "8218" ++ zeroes 192; answer = pos 1 }
    ∷ (record { equation = sum_one; plan = failing; answer = pos 0 }
    ∷ (record { equation = codes "020"; plan = codes "8202FFFFFFFD0000000z"; answer = pos 3 }
    ∷ (record { equation = sum_one; plan = codes "8202FFFFFFFD0000000z"; answer = pos 4 }
    ∷ (record { equation = sum_one; plan = codes "8203FFFFFFFD00000002"; answer = pos 5 }
    ∷ (record { equation = sum_one; plan = sum_one; answer = pos 6 }
    ∷ (record { equation = codes "020180000000"; plan = codes "82"; answer = pos 7 }
    ∷ (record { equation = codes "020100000001"; plan = codes "8200"; answer = pos 9 }
    ∷ (record { equation = sum_one; plan = codes "820100000001"; answer = pos 9 }
    ∷ (record { equation = codes "0219" ++ zeroes 200; plan = codes "8219" ++ zeroes 200; answer = pos 9 }
    ∷ (record { equation = codes "020300000002FFFFFFFE00000000"; plan = codes "82027FFFFFFF7FFFFFFF"; answer = pos 15 }
    ∷ [])))))))))))

abbrev pub Verdicts : Type 0
Verdicts = map (λ s. answer (verdict s.equation s.plan)) asked ≡ map (λ s. s.answer) asked

-- of a plan that meets the equation 0 does not mean what it should, and of one that fails it 1 does not
pub record NoWrong : Type 0 where
  pub met : ¬ Means (pos 0) sum_one meeting
  pub unmet : ¬ Means (pos 1) sum_one failing
