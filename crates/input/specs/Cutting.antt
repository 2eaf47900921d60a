-- A text cut at its first line feed. Assumes nothing.
use Rattle.std.specs.Prelude.{◌≡◌, ℕ, ◌+◌, Bool, true, false, cond, List, [], ◌∷◌, ◌++◌, length, take, drop, Some, None, Option, option_map, Result, MatchResult, ◌==◌}
use Rattle.input.specs.declared.TheConstants.{KEEP}

abbrev pub line_feed : ℕ
line_feed = 10

-- the bytes before the first line feed, or all
abbrev pub line : List ℕ → List ℕ
line [] = []
line (b ∷ bytes) = cond (b == line_feed) [] (b ∷ line bytes)

-- whether there is a line feed
abbrev pub ended : List ℕ → Bool
ended [] = false
ended (b ∷ bytes) = cond (b == line_feed) true (ended bytes)

-- where the text goes on behind its first line feed
abbrev pub behind : List ℕ → Option ℕ
behind bytes = cond (ended bytes) (Some (length (line bytes) + 1)) None

-- how the text goes on there
abbrev pub rest : List ℕ → Option (List ℕ)
rest bytes = option_map (λ k. drop k bytes) (behind bytes)

-- the lines that end in the text, each cut to its first bytes; of the first one, held stands before the text
abbrev pub lines : List ℕ → List ℕ → List (List ℕ)
lines held [] = []
lines held (b ∷ bytes) = cond (b == line_feed) (take KEEP held ∷ lines [] bytes) (lines (held ++ b ∷ []) bytes)

-- what follows the last of them, cut too
abbrev pub left : List ℕ → List ℕ → List ℕ
left held [] = take KEEP held
left held (b ∷ bytes) = cond (b == line_feed) (left [] bytes) (left (held ++ b ∷ []) bytes)

-- what follows the last line feed is a line too if it has a byte
abbrev pub unended_line : List ℕ → List (List ℕ)
unended_line [] = []
unended_line (b ∷ bytes) = (b ∷ bytes) ∷ []

-- every line of an input
abbrev pub every_line : List ℕ → List (List ℕ)
every_line bytes = lines [] bytes ++ unended_line (left [] bytes)

-- lines that are handed to a sink, until it fails at one; takes says what it may answer to lines, and be afterwards
pub record Handed {S E : Type 0} (takes : S → List (List ℕ) → Result (Unit {0}) E → S → Type 0)
    (sink : S) (xs : List (List ℕ)) (result : Result (Unit {0}) E) (last : S) (held : List ℕ) : Type 0 where
  -- those that were handed on, and what came of it
  pub handed : List (List ℕ)
  pub taken : takes sink handed result last
  -- these are all; or they end with the one that was refused, which is held
  pub ends : MatchResult result (λ _. handed ≡ xs)
      (λ _. (before rest : List (List ℕ)) × (handed ≡ before ++ held ∷ []) × (xs ≡ before ++ held ∷ rest))
