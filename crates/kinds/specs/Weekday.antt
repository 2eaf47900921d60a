-- The weekday kind: the numbers 0 to 6, with modulus 7. Assumes nothing.
use Rattle.std.specs.Prelude.{ℕ, ◌+◌, ◌-◌, ◌*◌, ◌%◌, ◌^◌, cond, ℤ, pos, negsuc, Some, None, Option, ◌==◌, nat_lt}
use Rattle.std.proofs.Common.{mod-lt, lit<}
use Rattle.kinds.specs.declared.weekday.Weekday.{Weekday}
use Rattle.kinds.specs.declared.weekday.WeekdayCell.{WeekdayCell}
use Rattle.kinds.specs.Kind.{Arithmetic}

-- the remainder of n by 7
abbrev pub day : ℕ → Weekday
day n = record { value = n % 7; ok = mod-lt n (lit< tt) }

-- the number n, if it is a day
abbrev pub day_of : ℕ → Option Weekday
day_of n = cond (nat_lt n 7) (Some (day n)) None

-- the word w, if it is a day
abbrev pub day_at : ℤ → Option Weekday
day_at (pos n) = day_of n
day_at (negsuc n) = None

-- the size: 0 for 0, otherwise 1
abbrev pub size_of : ℕ → ℕ
size_of v = cond (v == 0) 0 1

abbrev pub weekdays : Arithmetic Weekday WeekdayCell
weekdays = record {
  modulus = 7;
  means = λ d. pos d.value;
  read = day_at;
  write = λ d. pos d.value;
  to_cell = λ d. record { value = d.value };
  from_cell = λ c. day_of c.value;
  zero = day 0;
  one = day 1;
  negative = λ d. day (7 - d.value);
  add_product = λ c q d. Some (day (c.value + q.value * d.value));
  size = λ d. size_of d.value;
  quotient = λ c d. cond (d.value == 0) None (Some (day (c.value * d.value ^ 5)));
  unit = λ d. cond (d.value == 0) (day 1) (day (d.value ^ 5));
}
