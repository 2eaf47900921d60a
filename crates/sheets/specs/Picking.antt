-- The plan of a choice: what a picking answers, and the words that it leaves. Assumes nothing.
use Rattle.std.specs.Prelude.{◌≡◌, ℕ, ◌&&◌, List, [], ◌∷◌, map, length, get_or, take, ℤ, Some, None, Ok, Err, Option, Result, ◌==◌, slice_index_or}
use Rattle.std.specs.List.{range_with_len}
use Rattle.faults.specs.declared.SheetFault.{SheetFault}
use Rattle.faults.specs.declared.SheetFault.TheVariants.{Overflow}
use Rattle.kinds.specs.Kind.{Arithmetic}
use Rattle.plans.specs.Posting.{then, running}
use Rattle.plans.specs.Sheet.{Contents}
use Rattle.sheets.specs.Sheet.{Model, contents_of, words_refusal}
use Rattle.sheets.specs.Words.{numbers_of}

-- all that came, if each did
abbrev pub collected : {X : Type 0} → List (Option X) → Option (List X)
collected [] = Some []
collected (o ∷ os) = then o (λ x. then (collected os) (λ xs. Some (x ∷ xs)))

module _ {N C : Type 0} (a : Arithmetic N C) where
  -- what each move has for unknown i
  abbrev pub entries : List (List N) → ℕ → List N
  entries moves i = map (λ move. get_or move i a.zero) moves

  -- the number for unknown i: the running sum from the fixed plan's of move entry × its number in the choice
  abbrev pub picked : Contents N → List N → ℕ → Option N
  picked s choice i = running a (slice_index_or s.fixed i a.zero) (entries s.moves i) choice

  -- the plan of a choice, unknown by unknown
  abbrev pub plan_of : ℕ → Contents N → List N → Option (List N)
  plan_of n s choice = collected (map (picked s choice) (range_with_len 0 n))

  -- why no plan can be picked, before any sum is made: `len` words are lent for it
  abbrev pub pick_refusal : Model C → List ℤ → ℕ → Option SheetFault
  pick_refusal m choice len = words_refusal a m ((length choice == m.moves) && (len == m.unknowns)) choice

  -- the plan that a choice picks from a sheet
  abbrev pub plan_in : Model C → List ℤ → Option (List N)
  plan_in m choice = plan_of m.unknowns (contents_of a m) (numbers_of a choice)

  abbrev pub pick_unless : Option SheetFault → Option (List N) → Result Unit SheetFault
  pick_unless (Some fault) plan = Err fault
  pick_unless None (Some xs) = Ok tt
  pick_unless None None = Err Overflow

  abbrev pub words_unless : Option SheetFault → Option (List N) → List ℤ → List ℤ
  words_unless (Some fault) plan words = words
  words_unless None (Some xs) words = map a.write xs
  words_unless None None words = words

  -- the answer to a picking, and the words lent for the plan afterwards
  abbrev pub pick_answer : Model C → List ℤ → List ℤ → Result Unit SheetFault
  pick_answer m choice words = pick_unless (pick_refusal m choice (length words)) (plan_in m choice)

  abbrev pub pick_left : Model C → List ℤ → List ℤ → List ℤ
  pick_left m choice words = words_unless (pick_refusal m choice (length words)) (plan_in m choice) words

  -- the first n words are those of the plan, or there is none
  abbrev pub Planned : Option (List N) → ℕ → Option (List ℤ) → Type 0
  Planned plan n (Some words) = (xs : List N) × ((plan ≡ Some xs) × (take n words ≡ map a.write xs))
  Planned plan n None = plan ≡ None
