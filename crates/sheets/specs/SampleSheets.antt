-- Sample sheets of two unknowns: what a posting is answered, and what the sheet then shows. Assumes nothing.
use Rattle.std.specs.Prelude.{◌≡◌, ℕ, List, [], ◌∷◌, map, ℤ, pos, negsuc}
use Rattle.kinds.specs.Kind.{Arithmetic}
use Rattle.kinds.specs.Weekday.{weekdays}
use Rattle.kinds.specs.Whole.{wholes}
use Rattle.plans.specs.SampleSolutions.{pair}
use Rattle.plans.specs.Sheet.{shown}
use Rattle.sheets.specs.Answers.{answer_number}
use Rattle.sheets.specs.Cells.{needed, zero_cells}
use Rattle.sheets.specs.Sheet.{Model, opened, contents_of, post_answer, post_left}

-- c1 x + c2 y = right as words
abbrev pub row : ℤ → ℤ → ℤ → List ℤ
row c1 c2 right = c1 ∷ (c2 ∷ (right ∷ []))

module _ {N C : Type 0} (a : Arithmetic N C) where
  -- a new sheet of two unknowns, in as many cells as it needs
  abbrev pub two_unknowns : Model C
  two_unknowns = opened a (pos 2) (pos 1) (zero_cells a (needed 2))

  -- the sheet that postings leave, one after another
  abbrev pub sheet_after_rows : Model C → List (List ℤ) → Model C
  sheet_after_rows m [] = m
  sheet_after_rows m (ws ∷ rows) = sheet_after_rows (post_left a m ws) rows

  -- the number that a posting is answered, and the lists that the sheet then shows: the fixed plan and the moves
  abbrev pub answer_and_lists : Model C → List ℤ → ℕ × List (List ℤ)
  answer_and_lists m ws = (answer_number (post_answer a m ws), shown a (contents_of a (post_left a m ws)))

  -- the same of the posting `last`, behind those of `rows` to a new sheet
  abbrev pub came_of : List (List ℤ) → List ℤ → ℕ × List (List ℤ)
  came_of rows last = answer_and_lists (sheet_after_rows two_unknowns rows) last

-- a sample: what came of it, and what should have
pub record Sample : Type 0 where
  pub came : ℕ × List (List ℤ)
  pub answer : ℕ
  pub lists : List (List ℤ)

-- of each kind: the postings before the last, the last one, its answer, and the lists then shown
abbrev pub of_wholes : List (List ℤ) → List ℤ → ℕ → List (List ℤ) → Sample
of_wholes rows last answer lists = record { came = came_of wholes rows last; answer = answer; lists = lists }

abbrev pub of_weekdays : List (List ℤ) → List ℤ → ℕ → List (List ℤ) → Sample
of_weekdays rows last answer lists = record { came = came_of weekdays rows last; answer = answer; lists = lists }

-- 3 x + 5 y = 1, and what is shown once it is taken, of whole numbers and of weekday numbers
abbrev pub one_words : List ℤ
one_words = row (pos 3) (pos 5) (pos 1)

abbrev pub whole_lists : List (List ℤ)
whole_lists = pair (negsuc 2) (pos 2) ∷ (pair (negsuc 4) (pos 3) ∷ [])

abbrev pub weekday_lists : List (List ℤ)
weekday_lists = pair (pos 5) (pos 0) ∷ (pair (pos 5) (pos 4) ∷ [])

-- x - 2147483647 y = 0, and what is shown once it is taken
abbrev pub far_words : List ℤ
far_words = row (pos 1) (negsuc 2147483646) (pos 0)

abbrev pub far_lists : List (List ℤ)
far_lists = pair (pos 0) (pos 0) ∷ (pair (negsuc 2147483646) (negsuc 0) ∷ [])

-- what a new sheet shows
abbrev pub new_lists : List (List ℤ)
new_lists = pair (pos 0) (pos 0) ∷ (pair (pos 1) (pos 0) ∷ (pair (pos 0) (pos 1) ∷ []))

-- the sample behind 7 x + 2 y = 2147483646 is contradicted by its top, though an entry below could not be stored
abbrev pub table : List Sample
table =
    of_wholes [] one_words 0 whole_lists
    ∷ (of_wholes (one_words ∷ []) (row (pos 1) (pos 1) (pos 3)) 0 (pair (pos 7) (negsuc 3) ∷ [])
    ∷ (of_wholes (one_words ∷ []) (row (pos 1) (pos 1) (pos 4)) 16 whole_lists
    ∷ (of_wholes (one_words ∷ []) (row (pos 6) (pos 10) (pos 2)) 1 whole_lists
    ∷ (of_wholes (one_words ∷ []) (row (pos 6) (pos 10) (pos 3)) 16 whole_lists
    ∷ (of_wholes [] (row (pos 2) (pos 4) (pos 3)) 16 new_lists
    ∷ (of_wholes [] (row (pos 0) (pos 0) (pos 0)) 1 new_lists
    ∷ (of_wholes (row (pos 1) (pos 1) (pos 0) ∷ []) (row (pos 1) (negsuc 0) (pos 1)) 16
    (pair (pos 0) (pos 0) ∷ (pair (pos 1) (negsuc 0) ∷ []))
    ∷ (of_wholes [] far_words 0 far_lists
    ∷ (of_wholes (far_words ∷ []) (row (pos 1) (pos 0) (pos 0)) 0 (pair (pos 0) (pos 0) ∷ [])
    ∷ (of_wholes (far_words ∷ []) (row (pos 1) (pos 1) (pos 0)) 15 far_lists
    ∷ (of_wholes (row (pos 1) (negsuc 1999999999) (pos 0) ∷ []) (row (pos 3) (pos 0) (pos 0)) 15
    (pair (pos 0) (pos 0) ∷ (pair (negsuc 1999999999) (negsuc 0) ∷ []))
    ∷ (of_wholes (row (pos 7) (pos 2) (pos 2147483646) ∷ []) (row (pos 5) (pos 1) (pos 2)) 16
    (pair (pos 306783378) (pos 0) ∷ (pair (negsuc 1) (pos 7) ∷ []))
    ∷ (of_weekdays [] one_words 0 weekday_lists
    ∷ (of_weekdays (one_words ∷ []) (row (pos 6) (pos 3) (pos 2)) 1 weekday_lists
    ∷ (of_weekdays (one_words ∷ []) (row (pos 3) (pos 5) (pos 2)) 16 weekday_lists
    ∷ (of_weekdays [] (row (pos 7) (pos 0) (pos 0)) 14 new_lists
    ∷ []))))))))))))))))

-- every sample comes out as it should
abbrev pub SampleSheets : Type 0
SampleSheets = map (λ s. s.came) table ≡ map (λ s. (s.answer, s.lists)) table
