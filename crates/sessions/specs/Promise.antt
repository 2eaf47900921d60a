-- The promise over any list of lines from a new session on. Assumes nothing.
use Rattle.std.specs.Prelude.{◌≡◌, ℕ, ◌<◌, ◌≤◌, List, [], ◌∷◌, ◌++◌, map, ℤ, Some, None, Ok, Err, Option, IfSome, IfNone}
use Rattle.faults.specs.Refusing.{left_unless}
use Rattle.faults.specs.declared.LineFault.{LineFault}
use Rattle.faults.specs.declared.LineFault.TheVariants.{FewWords}
use Rattle.faults.specs.declared.PageFault.TheVariants.{NoRoom}
use Rattle.faults.specs.declared.SheetFault.{SheetFault}
use Rattle.faults.specs.declared.SheetFault.TheVariants.{Page, Line}
use Rattle.kinds.specs.Equation.{Equation}
use Rattle.lines.specs.Line.{most_numbers, frame_of, numbers, refusal}
use Rattle.sheets.specs.Answers.{Answer}
use Rattle.sheets.specs.Sheet.{natural}
use Rattle.sessions.specs.Frames.{known, frame_kind}
use Rattle.sessions.specs.Law.{SessionStands, SessionSound, in_force_framed, WithoutSheet, OpenedAs, RightlyFramed}
use Rattle.sessions.specs.Session.{View, new_session, word, line_answer, line_after, line_text_behind, answer_text, reply, output_length, lent_refusal}
use Rattle.sessions.specs.declared.frame.Frame.{Frame}
use Rattle.sessions.specs.declared.frame.Frame.TheVariants.{Open, Ask}

-- a line that is sent to a session, with the number that it is given, and how much memory is lent for it
pub record Sent : Type 0 where
  pub number : ℤ
  pub line : List ℕ
  pub out : ℕ
  pub words : ℕ

-- what came of it: the answer, the lines behind it, and all that was written
pub record Reply : Type 0 where
  pub sent : Sent
  pub answer : Answer
  pub text : List ℕ
  pub written : List ℕ

abbrev pub sent_refusal : Sent → Option SheetFault
sent_refusal s = lent_refusal s.out s.words

-- too little memory is answered first, and changes nothing
abbrev pub answer_lent : Option SheetFault → Answer → Answer
answer_lent (Some fault) r = Err fault
answer_lent None r = r

abbrev pub reply_to : View → Sent → Reply
reply_to v s = record {
  sent = s;
  answer = answer_lent (sent_refusal s) (line_answer v s.line);
  text = left_unless (sent_refusal s) [] (line_text_behind v s.line);
  written = left_unless (sent_refusal s) [] (reply v s.number s.line);
}

abbrev pub session_after : View → Sent → View
session_after v s = left_unless (sent_refusal s) v (line_after v s.line)

-- the replies to lines sent one after another, and the session that they leave
abbrev pub replies_to : View → List Sent → List Reply
replies_to v [] = []
replies_to v (s ∷ sent) = reply_to v s ∷ replies_to (session_after v s) sent

abbrev pub session_left : View → List Sent → View
session_left v [] = v
session_left v (s ∷ sent) = session_left (session_after v s) sent

-- what the lines and their answers say of the sheet: the numbers of the opening that opened it, if one did, and the
-- equations in force
pub record Standing : Type 0 where
  pub opening : Option (List ℤ)
  pub equations : List Equation

abbrev pub none_standing : Standing
none_standing = record { opening = None; equations = [] }

-- how many unknowns an opening asks for
abbrev pub unknowns_asked : Option (List ℤ) → ℕ
unknowns_asked (Some ws) = natural (word ws 1)
unknowns_asked None = 0

abbrev pub opening_after : Frame → List ℤ → Answer → Option (List ℤ) → Option (List ℤ)
opening_after Open ws (Ok success) opening = Some ws
opening_after Open ws (Err fault) opening = opening
opening_after (Ask request) ws r opening = opening

-- after a line with a frame and numbers that is answered r
abbrev pub framed : Frame → List ℤ → Answer → Standing → Standing
framed frame ws r s = record {
  opening = opening_after frame ws r s.opening;
  equations = in_force_framed (unknowns_asked s.opening) frame ws r s.equations;
}

-- a line that its reader refuses changes nothing
abbrev pub standing_after : Reply → Standing → Standing
standing_after r s =
    left_unless (sent_refusal r.sent) s
    (left_unless (refusal known r.sent.line) s
    (framed (frame_kind (frame_of r.sent.line)) (numbers r.sent.line) r.answer s))

abbrev pub standing_from : Standing → List Reply → Standing
standing_from s [] = s
standing_from s (r ∷ replies) = standing_from (standing_after r s) replies

abbrev pub standing : List Reply → Standing
standing = standing_from none_standing

-- a line sent to the session v is refused: no line stands behind the answer, and the session stays as it was
pub record Refused (v : View) (r : Reply) (fault : SheetFault) : Type 0 where
  pub answer : r.answer ≡ Err fault
  pub text : r.text ≡ []
  pub kept : session_after v r.sent ≡ v

-- a line sent to the session v with the equations es in force is rightly answered: too little output and then too few
-- words are refused first, then comes the reader's refusal, and else the frame is rightly answered
pub record RightlyReplied (v : View) (es : List Equation) (r : Reply) : Type 0 where
  pub output : r.sent.out < output_length → Refused v r (Page NoRoom)
  pub words : output_length ≤ r.sent.out → r.sent.words < most_numbers → Refused v r (Line FewWords)
  -- for either nothing is written, not even the answer
  pub unwritten : (fault : SheetFault) → sent_refusal r.sent ≡ Some fault → r.written ≡ []
  pub written : sent_refusal r.sent ≡ None → r.written ≡ answer_text r.sent.number r.answer ++ r.text
  pub unread : output_length ≤ r.sent.out → most_numbers ≤ r.sent.words →
      (fault : LineFault) → refusal known r.sent.line ≡ Some fault → Refused v r (Line fault)
  pub read : output_length ≤ r.sent.out → most_numbers ≤ r.sent.words → refusal known r.sent.line ≡ None →
      RightlyFramed v es (frame_kind (frame_of r.sent.line)) (numbers r.sent.line) r.answer r.text

-- THE PROMISE OVER LINES: a new session that gave these replies, and is now v
pub record LinesPromise (replies : List Reply) (v : View) : Type 0 where
  -- the session is on the sheet that the last accepted opening opened, and without one where none was accepted
  pub opened : IfSome (standing replies).opening (λ ws. OpenedAs ws v)
  pub unopened : IfNone (standing replies).opening (WithoutSheet v)
  -- a plan meets every equation in force exactly when some choice makes it, and no two choices make the same plan
  pub general : SessionStands v (standing replies).equations
  -- every line, wherever it stands in the list, is rightly answered
  pub rightly : (before behind : List Reply) (r : Reply) → replies ≡ before ++ (r ∷ behind) →
      RightlyReplied (session_left new_session (map (λ q. q.sent) before)) (standing before).equations r
  -- every cell that the sheet needs passes its check, and the spare ones hold zero
  pub sound : SessionSound v

-- for any lines that are sent to a new session
abbrev pub LinesPromised : Type 0
LinesPromised = (sent : List Sent) → LinesPromise (replies_to new_session sent) (session_left new_session sent)
