-- What is written in answer to the lines of an input. Assumes nothing.
use Rattle.std.specs.Prelude.{◌≡◌, ℕ, ◌+◌, ◌-◌, ◌≤◌, List, [], ◌∷◌, ◌++◌, ◌⊎◌, length, take, pos, Option, IfSome}
use Rattle.std.specs.Io.KnownBytes.{Appends, Consumes}
use Rattle.input.specs.Cutting.{lines, every_line}
use Rattle.sessions.specs.Session.{View, new_session, reply, line_after}
use Rattle.stream.specs.declared.TheConstants.{LAST_LINE}

-- the replies of a session to lines, where the first of them has this number
abbrev pub replies_from : View → ℕ → List (List ℕ) → List ℕ
replies_from v number [] = []
replies_from v number (line ∷ rest) =
    reply v (pos number) line ++ replies_from (line_after v line) (number + 1) rest

-- the session behind these lines
abbrev pub session_behind : View → List (List ℕ) → View
session_behind v [] = v
session_behind v (line ∷ rest) = session_behind (line_after v line) rest

-- what is written in answer to an input: the replies of a new session to its lines up to the last that is answered
abbrev pub written_for : List ℕ → List ℕ
written_for bytes = replies_from new_session 1 (take LAST_LINE (every_line bytes))

-- an input was answered. known and left: the bytes that it had and has left; before and after: those that the output
-- held and holds
pub record Answered (known left before after : Option (List ℕ)) : Type 0 where
  -- the bytes that were taken from the input
  pub bytes : List ℕ
  pub consumed : Consumes known left bytes
  pub written : Appends before after (written_for bytes)
  -- they are all that the input has, or as many lines end in them as are answered
  pub whole : IfSome known (λ xs. xs ≡ bytes) ⊎ (LAST_LINE ≤ length (lines [] bytes))

-- those of further lines that are answered, where count lines were answered before
abbrev pub due : ℕ → List (List ℕ) → List (List ℕ)
due count xs = take (LAST_LINE - count) xs

-- what further lines make of a session, of the number of lines that were answered, and of the output
pub record GoesOn (v : View) (count : ℕ) (before : Option (List ℕ)) (xs : List (List ℕ))
    (w : View) (total : ℕ) (after : Option (List ℕ)) : Type 0 where
  pub session : w ≡ session_behind v (due count xs)
  pub counted : total ≡ count + length (due count xs)
  pub written : Appends before after (replies_from v (count + 1) (due count xs))
