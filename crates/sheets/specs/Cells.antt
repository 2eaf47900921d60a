-- The cells of a sheet: what they hold, and where. Assumes nothing.
use Rattle.std.specs.Prelude.{◌≡◌, ℕ, ◌≤◌, ◌+◌, ◌-◌, ◌*◌, List, ◌++◌, map, length, take, drop, replicate, slice_index_or}
use Rattle.std.specs.Prelude.{Some, None, Option}
use Rattle.std.specs.List.{range_with_len, flat_map}
use Rattle.kinds.specs.Kind.{Arithmetic}
use Rattle.plans.specs.Sheet.{Contents}

-- how many cells a sheet of n unknowns needs: those for the fixed plan and the moves, and the spare ones
abbrev pub main_cells : ℕ → ℕ
main_cells n = n * (n + 1)

abbrev pub spare_cells : ℕ → ℕ
spare_cells n = (n + 1) * (n + 1)

abbrev pub needed : ℕ → ℕ
needed n = main_cells n + spare_cells n

-- a sheet of n unknowns, if it has any, has the cells that it needs
abbrev pub HasCells : {C : Type 0} → ℕ → List C → Type 0
HasCells n cells = ¬ (n ≡ 0) → needed n ≤ length cells

-- n elements from place `from` on
abbrev pub part : {X : Type 0} → ℕ → ℕ → List X → List X
part from n xs = take n (drop from xs)

module _ {N C : Type 0} (a : Arithmetic N C) where
  abbrev pub or_zero : Option N → N
  or_zero (Some x) = x
  or_zero None = a.zero

  -- the number in a cell; a cell that fails its check counts as zero
  abbrev pub number : C → N
  number cell = or_zero (a.from_cell cell)

  abbrev pub numbers : List C → List N
  numbers = map number

  -- cells that hold numbers
  abbrev pub held : List N → List C
  held = map a.to_cell

  abbrev pub zero_cells : ℕ → List C
  zero_cells n = replicate n (a.to_cell a.zero)

  abbrev pub number_at : List C → ℕ → N
  number_at cells i = number (slice_index_or cells i (a.to_cell a.zero))

  -- the size of the top of column j, of n entries each, the first having its top in cell `first`
  abbrev pub top_size : List C → ℕ → ℕ → ℕ → ℕ
  top_size cells first n j = a.size (number_at cells (first + j * (n + 1)))

  -- move j of a sheet of n unknowns: its cells stand behind the fixed plan and the moves before it
  abbrev pub move_at : List C → ℕ → ℕ → List N
  move_at cells n j = numbers (part (n + j * n) n cells)

  abbrev pub moves_at : List C → ℕ → ℕ → List (List N)
  moves_at cells n k = map (move_at cells n) (range_with_len 0 k)

  -- what the cells of a sheet of n unknowns and k moves hold: the fixed plan, and then the moves in order
  abbrev pub contents_in : ℕ → ℕ → List C → Contents N
  contents_in n k cells = record { fixed = numbers (take n cells); moves = moves_at cells n k }

  -- the main cells of a sheet of n unknowns that holds s: what is left of those for the moves holds zero
  abbrev pub main_of : ℕ → Contents N → List C
  main_of n s = held (s.fixed ++ flat_map (λ move. move) s.moves) ++ zero_cells ((n - length s.moves) * n)

  -- all cells of a sheet of n unknowns that holds s: the spare ones hold zero, and those beyond what they held
  abbrev pub sheet_cells : ℕ → Contents N → List C → List C
  sheet_cells n s cells = main_of n s ++ (zero_cells (spare_cells n) ++ drop (needed n) cells)
