-- What the laws of a kind refuse: every modulus that is neither 0 nor a prime number, and sample records of functions.
-- Assumes nothing.
use Rattle.std.specs.Prelude.{◌≡◌, ℕ, ◌*◌, ◌<◌, None}
use Rattle.kinds.specs.Kind.{Arithmetic, Laws}
use Rattle.kinds.specs.Weekday.{weekdays}
use Rattle.kinds.specs.declared.weekday.Weekday.{Weekday}
use Rattle.kinds.specs.declared.weekday.WeekdayCell.{WeekdayCell}

-- the modulus is 0 or a prime number: it is not 1, and no product of two numbers above 1
pub record PrimeModulus {N C : Type 0} (a : Arithmetic N C) : Type 0 where
  pub not_one : ¬ (a.modulus ≡ 1)
  pub no_product : (p q : ℕ) → 1 < p → 1 < q → ¬ (a.modulus ≡ p * q)

-- the functions of the weekday kind with another modulus
abbrev pub with_modulus : ℕ → Arithmetic Weekday WeekdayCell
with_modulus m = record weekdays { modulus = m }

-- the functions of the weekday kind, but an add-product that gives none
abbrev pub never_adds : Arithmetic Weekday WeekdayCell
never_adds = record weekdays { add_product = λ c q d. None }

-- these are no kinds
pub record KindSamples : Type 0 where
  -- everything is the same as 0
  pub all_zero : ¬ Laws (with_modulus 1)
  -- 2 times 3 is the same as 0
  pub six : ¬ Laws (with_modulus 6)
  -- a sum that can be stored is refused
  pub refuses : ¬ Laws never_adds
