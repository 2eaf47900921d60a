-- What is written for an input are replies that keep the promise over lines. Assumes nothing.
use Rattle.std.specs.Prelude.{◌≡◌, ℕ, ◌+◌, List, [], ◌∷◌, take, pos}
use Rattle.std.specs.List.{flat_map}
use Rattle.input.specs.Cutting.{every_line}
use Rattle.lines.specs.Line.{most_numbers}
use Rattle.sessions.specs.Promise.{Sent, replies_to, session_left, LinesPromise}
use Rattle.sessions.specs.Session.{new_session, output_length}
use Rattle.stream.specs.Replies.{written_for}
use Rattle.stream.specs.declared.TheConstants.{LAST_LINE}

-- lines, the first of them with this number, and each with the memory that is lent for it
abbrev pub sent_from : ℕ → List (List ℕ) → List Sent
sent_from number [] = []
sent_from number (line ∷ lines) =
    record { number = pos number; line = line; out = output_length; words = most_numbers }
    ∷ sent_from (number + 1) lines

-- the lines of an input, up to the last that is answered
abbrev pub lines_sent : List ℕ → List Sent
lines_sent bytes = sent_from 1 (take LAST_LINE (every_line bytes))

pub record InputPromise (bytes : List ℕ) : Type 0 where
  pub written : written_for bytes ≡ flat_map (λ r. r.written) (replies_to new_session (lines_sent bytes))
  pub promise :
      LinesPromise (replies_to new_session (lines_sent bytes)) (session_left new_session (lines_sent bytes))

-- for any input
abbrev pub InputsPromised : Type 0
InputsPromised = (bytes : List ℕ) → InputPromise bytes
