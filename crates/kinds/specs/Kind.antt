-- What a kind of number is: its functions, and the laws that they keep. Assumes nothing.
use Rattle.std.specs.Prelude.{◌≡◌, ℕ, ◌^◌, ◌<◌, ◌≤◌, ◌⊎◌, ℤ, pos, ◌+ℤ◌, ◌-ℤ◌, ◌*ℤ◌, neg_ℤ, Some, None, Option, FitsSigned}
use Rattle.std.specs.Int.{w32}

-- the functions of a kind, over its stored numbers N and its cells C
pub record Arithmetic (N C : Type 0) : Type 0 where
  pub modulus : ℕ
  -- the whole number that a stored number means
  pub means : N → ℤ
  -- the number of a signed 32-bit word, none where the kind does not admit the word
  pub read : ℤ → Option N
  pub write : N → ℤ
  pub to_cell : N → C
  -- the number in a cell, none where the cell does not pass the check
  pub from_cell : C → Option N
  pub zero : N
  pub one : N
  pub negative : N → N
  -- c + q × d, none where that cannot be stored
  pub add_product : N → N → N → Option N
  pub size : N → ℕ
  pub quotient : N → N → Option N
  -- what a column is multiplied by to normalise it
  pub unit : N → N

-- a and b differ by a multiple of the modulus m; with m = 0 they are equal
pub record Same (m : ℕ) (a b : ℤ) : Type 0 where
  pub times : ℤ
  pub differ : a ≡ b +ℤ times *ℤ pos m

module _ {N C : Type 0} (a : Arithmetic N C) where
  -- the whole numbers x and y are the same in the kind
  abbrev pub Alike : ℤ → ℤ → Type 0
  Alike x y = Same a.modulus x y

  -- some stored number means the same as z
  abbrev pub Stored : ℤ → Type 0
  Stored z = (n : N) × Alike (a.means n) z

  -- the kind admits the word w: reading it gives a number
  abbrev pub Admitted : ℤ → Type 0
  Admitted w = (n : N) × (a.read w ≡ Some n)

  -- what whoever adds a kind shows
  pub record Laws : Type 0 where
    pub modulus_fits : a.modulus < 2 ^ 32
    -- an admitted word means itself, so reading gives a number that means the same
    pub read_means : (w : ℤ) (n : N) → FitsSigned w32 w → a.read w ≡ Some n → Alike (a.means n) w
    -- every stored number is written as an admitted word that means the same
    pub write_word : (n : N) → FitsSigned w32 (a.write n)
    pub write_admitted : (n : N) → Admitted (a.write n)
    pub write_means : (n : N) → Alike (a.write n) (a.means n)
    -- a number put into a cell and made from it again is the very same
    pub cell_keeps : (n : N) → a.from_cell (a.to_cell n) ≡ Some n
    -- 0 and 1 are stored and not the same
    pub zero_means : Alike (a.means a.zero) (pos 0)
    pub one_means : Alike (a.means a.one) (pos 1)
    pub zero_not_one : Alike (pos 0) (pos 1) → ⊥
    -- a product of any two whole numbers is the same as 0 only if a factor is
    pub no_divisors : (x y : ℤ) → Alike (x *ℤ y) (pos 0) → Alike x (pos 0) ⊎ Alike y (pos 0)
    -- the negative of a stored number is stored
    pub negative_means : (n : N) → Alike (a.means (a.negative n)) (neg_ℤ (a.means n))
    -- add-product gives a stored number the same as c + q × d, and none exactly where that cannot be stored
    pub add_product_means : (c q d r : N) → a.add_product c q d ≡ Some r →
        Alike (a.means r) (a.means c +ℤ a.means q *ℤ a.means d)
    pub add_product_none : (c q d : N) → a.add_product c q d ≡ None → Stored (a.means c +ℤ a.means q *ℤ a.means d) → ⊥
    -- the size is alike for same numbers and 0 exactly for those the same as 0
    pub size_same : (x y : N) → Alike (a.means x) (a.means y) → a.size x ≡ a.size y
    pub size_zero : (x : N) → Alike (a.means x) (pos 0) → a.size x ≡ 0
    pub zero_size : (x : N) → a.size x ≡ 0 → Alike (a.means x) (pos 0)
    -- a multiple of d that is not the same as 0 has at least the size of d
    pub size_multiple : (d x : N) (k : ℤ) → Alike (a.means x) (k *ℤ a.means d) → (Alike (a.means x) (pos 0) → ⊥) →
        a.size d ≤ a.size x
    -- the quotient q of c by d leaves c − q × d stored and smaller than d, and there is none exactly where d is the
    -- same as 0
    pub rest_stored : (c d q : N) → a.quotient c d ≡ Some q → Stored (a.means c -ℤ a.means q *ℤ a.means d)
    pub rest_smaller : (c d q r : N) → a.quotient c d ≡ Some q →
        Alike (a.means r) (a.means c -ℤ a.means q *ℤ a.means d) → a.size r < a.size d
    pub quotient_none : (c d : N) → a.quotient c d ≡ None → Alike (a.means d) (pos 0)
    pub none_quotient : (c d : N) → Alike (a.means d) (pos 0) → a.quotient c d ≡ None
    -- the unit of a number has a stored inverse
    pub unit_inverse : (n : N) → (i : N) × Alike (a.means (a.unit n) *ℤ a.means i) (pos 1)
