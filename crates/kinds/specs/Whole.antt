-- The whole kind: -2147483647 to 2147483647, with modulus 0. Assumes nothing.
use Rattle.std.specs.Prelude.{ℕ, suc, ◌/◌, min, cond, ℤ, pos, negsuc, ◌+ℤ◌, ◌*ℤ◌, neg_ℤ, Some, None, Option, ◌==◌, nat_le, unsigned_abs}
use Rattle.std.proofs.Common.{arith}
use Rattle.kinds.specs.declared.whole.Whole.{Whole}
use Rattle.kinds.specs.declared.whole.WholeCell.{WholeCell}
use Rattle.kinds.specs.Kind.{Arithmetic}

-- z, or the nearest number that is stored
abbrev pub nearest : ℤ → Whole
nearest (pos n) = record { value = pos (min n 2147483647); ok = omega arith }
nearest (negsuc n) = record { value = negsuc (min n 2147483646); ok = omega arith }

-- the number z, if it is stored
abbrev pub fitted : ℤ → Option Whole
fitted z = cond (nat_le (unsigned_abs z) 2147483647) (Some (nearest z)) None

-- z / n rounded down
abbrev pub down_by : ℤ → ℕ → ℤ
down_by (pos a) n = pos (a / n)
down_by (negsuc a) n = negsuc (a / n)

-- c / d rounded down
abbrev pub floor : ℤ → ℤ → ℤ
floor c (pos b) = down_by c b
floor c (negsuc b) = down_by (neg_ℤ c) (suc b)

-- -1 for a negative number, otherwise 1
abbrev pub sign : ℤ → Whole
sign (pos n) = nearest (pos 1)
sign (negsuc n) = nearest (negsuc 0)

abbrev pub wholes : Arithmetic Whole WholeCell
wholes = record {
  modulus = 0;
  means = λ n. n.value;
  read = fitted;
  write = λ n. n.value;
  to_cell = λ n. record { value = n.value };
  from_cell = λ c. fitted c.value;
  zero = nearest (pos 0);
  one = nearest (pos 1);
  negative = λ n. nearest (neg_ℤ n.value);
  add_product = λ c q d. fitted (c.value +ℤ q.value *ℤ d.value);
  size = λ n. unsigned_abs n.value;
  quotient = λ c d. cond (unsigned_abs d.value == 0) None (Some (nearest (floor c.value d.value)));
  unit = λ n. sign n.value;
}
