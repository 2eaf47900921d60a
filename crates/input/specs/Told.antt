-- Samples of cutting, and what is handed to a sink that notes it. Assumes nothing.
use Rattle.std.specs.Prelude.{◌≡◌, ℕ, ◌+◌, ◌<◌, ◌≤◌, false, List, [], ◌∷◌, ◌++◌, codes, length, take, replicate, Option, Some, Result, Ok, MatchResult}
use Rattle.input.specs.Cutting.{line_feed, lines, left, every_line, Handed}
use Rattle.input.specs.Reading.{LinesTaken}
use Rattle.input.specs.declared.TheConstants.{KEEP}

-- samples of cutting
pub record CutTold : Type 0 where
  -- a line that two chunks make up, and one behind it
  pub over_two :
      lines (codes "ab") (codes "c" ++ line_feed ∷ codes "de" ++ line_feed ∷ codes "f")
      ≡ codes "abc" ∷ (codes "de" ∷ [])
  -- what follows the last
  pub kept : left (codes "ab") (codes "c" ++ line_feed ∷ codes "f") ≡ codes "f"
  -- a line that is one byte too long, and as many that do not end
  pub long : lines [] (replicate (KEEP + 1) 65 ++ line_feed ∷ []) ≡ replicate KEEP 65 ∷ []
  pub long_kept : left [] (replicate (KEEP + 1) 65) ≡ replicate KEEP 65
  -- two lines of no byte
  pub empty : lines [] (line_feed ∷ (line_feed ∷ [])) ≡ [] ∷ ([] ∷ [])
  -- every line of an input, where the last lacks its line feed, and where it has it
  pub unended : every_line (codes "ab" ++ line_feed ∷ codes "c") ≡ codes "ab" ∷ (codes "c" ∷ [])
  pub ended : every_line (codes "ab" ++ line_feed ∷ codes "c" ++ line_feed ∷ []) ≡ codes "ab" ∷ (codes "c" ∷ [])

-- a sink that notes the lines, and fails at one where n were noted before
abbrev pub NotesLines : ℕ → List (List ℕ) → List (List ℕ) → Result (Unit {0}) (Unit {0}) → List (List ℕ) → Type 0
NotesLines n noted xs result new =
    (new ≡ noted ++ xs) × MatchResult result (λ _. length new ≤ n) (λ _. length new ≡ n + 1)

-- handed lines, it has noted all of them, in order and once, or n and the next one, which is held
abbrev pub LinesNoted : Type 0
LinesNoted =
    (n : ℕ) (xs : List (List ℕ)) (result : Result (Unit {0}) (Unit {0})) (last : List (List ℕ)) (held : List ℕ)
    → Handed (NotesLines n) [] xs result last held
    → MatchResult result (λ _. (length xs ≤ n) × (last ≡ xs))
    (λ _. (n < length xs) × (last ≡ take (n + 1) xs) × (last ≡ take n xs ++ held ∷ []))

-- a sink that notes all lines
abbrev pub NotesAll : List (List ℕ) → List (List ℕ) → Result (Unit {0}) (Unit {0}) → List (List ℕ) → Type 0
NotesAll noted xs result new = (result ≡ Ok tt) × (new ≡ noted ++ xs)

-- of an input whose bytes are known it has noted every line, in order and once; where the reading failed, those that
-- end in the bytes that were read
abbrev pub BytesNoted : Type 0
BytesNoted =
    (bytes : List ℕ) (result : Result (Unit {0}) (Unit {0})) (last : List (List ℕ)) (left : Option (List ℕ))
    → LinesTaken NotesAll (λ _. false) [] (Some bytes) result last left
    → MatchResult result (λ _. (last ≡ every_line bytes) × (left ≡ Some []))
    (λ _. (read rest : List ℕ) × (bytes ≡ read ++ rest) × (left ≡ Some rest) × (last ≡ lines [] read))
