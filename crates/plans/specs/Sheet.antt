-- What a sheet holds: a fixed plan and moves, each with a stored number for every unknown. Assumes nothing.
use Rattle.std.specs.Prelude.{ℕ, zero, suc, List, [], ◌∷◌, map, replicate, ℤ}
use Rattle.kinds.specs.Kind.{Arithmetic}

pub record Contents (N : Type 0) : Type 0 where
  pub fixed : List N
  pub moves : List (List N)

module _ {N C : Type 0} (a : Arithmetic N C) where
  -- n moves: move j is 1 at unknown j and 0 elsewhere
  abbrev pub unit_moves : ℕ → List (List N)
  unit_moves zero = []
  unit_moves (suc n) = (a.one ∷ replicate n a.zero) ∷ map (λ move. a.zero ∷ move) (unit_moves n)

  -- the new sheet of n unknowns: every plan is made
  abbrev pub new_sheet : ℕ → Contents N
  new_sheet n = record { fixed = replicate n a.zero; moves = unit_moves n }

  -- what is shown: the fixed plan and then the moves, as words
  abbrev pub shown : Contents N → List (List ℤ)
  shown s = map (map a.write) (s.fixed ∷ s.moves)
