-- The numbers of words, and the words that have none. Assumes nothing.
use Rattle.std.specs.Prelude.{Bool, not, List, map, ℤ, is_some}
use Rattle.kinds.specs.Kind.{Arithmetic}
use Rattle.sheets.specs.Cells.{or_zero}

module _ {N C : Type 0} (a : Arithmetic N C) where
  -- the number of a word; a word that the kind does not admit counts as zero
  abbrev pub number_of : ℤ → N
  number_of word = or_zero a (a.read word)

  abbrev pub numbers_of : List ℤ → List N
  numbers_of = map number_of

  -- whether the kind does not admit a word
  abbrev pub is_refused : ℤ → Bool
  is_refused word = not (is_some (a.read word))
