-- A new sheet, and one that is opened: what it stands for, its cells' checks, and its spare cells.
use Rattle.std.proofs.Common.{◌≡◌, ℕ, zero, suc, ◌-◌, ◌*◌, ◌≤◌, Bool, true, false, cond, ltb, List, [], ◌∷◌, ◌++◌, length, take, drop, ℤ, Ok, Err, Result, sym, refl, ap, ◌∙◌, subst, arith}
use Rattle.std.specs.List.{flat_map, AllByRecursion}
use Rattle.std.proofs.ByRecursion.{All-append}
use Rattle.std.proofs.lemmas.List.{append_assoc, length-append, length-replicate, length-drop, take_at, drop_at}
use Rattle.std.proofs.lemmas.Bool.{ltb-false}
use Rattle.faults.specs.declared.NumberFault.TheVariants.{Unknowns, ListNumber}
use Rattle.faults.specs.declared.SheetFault.{SheetFault}
use Rattle.faults.specs.declared.SheetFault.TheVariants.{Number, FewCells}
use Rattle.kinds.specs.Kind.{Arithmetic, Laws}
use Rattle.plans.specs.Sheet.{Contents, new_sheet}
use Rattle.plans.specs.Solution.{Holds}
use Rattle.plans.proofs.NewSheet.{new_general, units_many}
use Rattle.plans.proofs.Sizes.{Measured}
use Rattle.sheets.specs.Cells.{main_cells, spare_cells, needed, part, held, zero_cells, contents_in, main_of, sheet_cells}
use Rattle.sheets.specs.Law.{StandsFor, Passes, Sound, SpareZero}
use Rattle.sheets.specs.Sheet.{in_range, natural, most_unknowns, last_list, asked, opened_by, opened}
use Rattle.sheets.proofs.Reading.{length_main, reads_back}

-- a sheet's cells: the main ones, the spare ones at zero, and those beyond
module _ {N C : Type 0} (a : Arithmetic N C) (n : ℕ) (M cells : List C) (lm : length M ≡ main_cells n) (room : needed n ≤ length cells) where
  abbrev Z : List C
  Z = zero_cells a (spare_cells n)

  abbrev all_laid : List C
  all_laid = M ++ (Z ++ drop (needed n) cells)

  length_Z : length Z ≡ spare_cells n
  length_Z = length-replicate (spare_cells n) (a.to_cell a.zero)

  laid_needed : take (needed n) all_laid ≡ M ++ Z
  laid_needed =
      let l : length (M ++ Z) ≡ needed n = let z = length_Z in length-append M Z ∙ omega arith in
      ap (take (needed n)) (sym (append_assoc M Z (drop (needed n) cells))) ∙ take_at (M ++ Z) (drop (needed n) cells) (needed n) l

  pub laid_length : length all_laid ≡ length cells
  laid_length =
      let z = length_Z in
      let p = length-append M (Z ++ drop (needed n) cells) in
      let q = length-append Z (drop (needed n) cells) in
      let d = length-drop (needed n) cells in
      omega arith

  pub laid_room : needed n ≤ length all_laid
  laid_room = let l = laid_length in omega arith

  pub laid_spare : part (main_cells n) (spare_cells n) all_laid ≡ Z
  laid_spare = ap (take (spare_cells n)) (drop_at M (Z ++ drop (needed n) cells) (main_cells n) lm) ∙ take_at Z (drop (needed n) cells) (spare_cells n) length_Z

module _ {N C : Type 0} (a : Arithmetic N C) (laws : Laws a) where
  zeros_pass : (n : ℕ) → AllByRecursion (Passes a) (zero_cells a n)
  zeros_pass zero = tt
  zeros_pass (suc n) = ((a.zero, laws.cell_keeps a.zero), zeros_pass n)

  held_pass : (xs : List N) → AllByRecursion (Passes a) (held a xs)
  held_pass [] = tt
  held_pass (x ∷ xs) = ((x, laws.cell_keeps x), held_pass xs)

  pub main_passes : (n : ℕ) (s : Contents N) → AllByRecursion (Passes a) (main_of a n s)
  main_passes n s = All-append (Passes a) (held a (s.fixed ++ flat_map (λ m. m) s.moves)) (zero_cells a ((n - length s.moves) * n)) (held_pass (s.fixed ++ flat_map (λ m. m) s.moves)) (zeros_pass ((n - length s.moves) * n))

  pub laid_passes : (n : ℕ) (M cells : List C) → length M ≡ main_cells n → needed n ≤ length cells → AllByRecursion (Passes a) M → AllByRecursion (Passes a) (take (needed n) (M ++ (zero_cells a (spare_cells n) ++ drop (needed n) cells)))
  laid_passes n M cells lm room h = subst (AllByRecursion (Passes a)) (sym (laid_needed a n M cells lm room)) (All-append (Passes a) M (zero_cells a (spare_cells n)) h (zeros_pass (spare_cells n)))

  -- the new sheet of n unknowns
  module _ (n : ℕ) where
    new_measured : Measured n n (new_sheet a n)
    new_measured = let g = new_general a laws n in record { fixed_length = g.fixed_length; moves_length = g.moves_length; many = units_many a n }

    pub new_stands : (cells : List C) → Holds a n [] (contents_in a n n (sheet_cells a n (new_sheet a n) cells))
    new_stands cells = subst (Holds a n []) (sym (reads_back a n n (new_sheet a n) new_measured (omega arith) laws cells)) (new_general a laws n)

    pub length_new : length (main_of a n (new_sheet a n)) ≡ main_cells n
    length_new = length_main a n n (new_sheet a n) new_measured (omega arith)

    pub new_sound : (cells : List C) → needed n ≤ length cells → (needed n ≤ length (sheet_cells a n (new_sheet a n) cells)) × AllByRecursion (Passes a) (take (needed n) (sheet_cells a n (new_sheet a n) cells))
    new_sound cells room = let M = main_of a n (new_sheet a n) in (laid_room a n M cells length_new room, laid_passes n M cells length_new room (main_passes n (new_sheet a n)))

    pub new_spare : (cells : List C) → needed n ≤ length cells → part (main_cells n) (spare_cells n) (sheet_cells a n (new_sheet a n) cells) ≡ zero_cells a (spare_cells n)
    new_spare cells room = laid_spare a n (main_of a n (new_sheet a n)) cells length_new room

  -- an opening that is not refused has the cells that it needs
  asked_room : (u l : ℤ) (len : ℕ) (n list : ℕ) → asked u l len ≡ Ok (n, list) → needed n ≤ len
  asked_room u l len n list e = by (in_range 1 most_unknowns u) (in_range 0 last_list l) (ltb len (needed (natural u))) refl e
    where
      by : (x y z : Bool) → ltb len (needed (natural u)) ≡ z → cond {A = Result (ℕ × ℕ) SheetFault} x (cond {A = Result (ℕ × ℕ) SheetFault} y (cond {A = Result (ℕ × ℕ) SheetFault} z (Err FewCells) (Ok (natural u, natural l))) (Err (Number ListNumber))) (Err (Number Unknowns)) ≡ Ok (n, list) → needed n ≤ len
      by false y z h e = absurd cc
      by true false z h e = absurd cc
      by true true true h e = absurd cc
      by true true false h e = let t : ◌≡◌ {A = ℕ × ℕ} (natural u, natural l) (n, list) = cc in let q : natural u ≡ n = ap (λ (x : ℕ × ℕ). x.0) t in subst (λ (i : ℕ). needed i ≤ len) q (ltb-false len (needed (natural u)) h)

  -- an opening
  module _ (unknowns list : ℤ) (cells : List C) where
    pub open_law : StandsFor a (opened a unknowns list cells) []
    open_law = by (asked unknowns list (length cells))
      where
        by : (o : Result (ℕ × ℕ) SheetFault) → StandsFor a (opened_by a o cells) []
        by (Ok (n, l)) = new_stands n cells
        by (Err fault) = new_general a laws 0

    pub open_sound : Sound a (opened a unknowns list cells)
    open_sound = by (asked unknowns list (length cells)) refl
      where
        by : (o : Result (ℕ × ℕ) SheetFault) → asked unknowns list (length cells) ≡ o → Sound a (opened_by a o cells)
        by (Ok (n, l)) e = λ _. new_sound n cells (asked_room unknowns list (length cells) n l e)
        by (Err fault) e = λ no. absurd (no refl)

    pub open_spare : SpareZero a (opened a unknowns list cells)
    open_spare = by (asked unknowns list (length cells)) refl
      where
        by : (o : Result (ℕ × ℕ) SheetFault) → asked unknowns list (length cells) ≡ o → SpareZero a (opened_by a o cells)
        by (Ok (n, l)) e = λ _. new_spare n cells (asked_room unknowns list (length cells) n l e)
        by (Err fault) e = λ no. absurd (no refl)
