-- A page as its calls see it, when they refuse, and what they leave. Assumes nothing.
use Rattle.std.specs.Prelude.{◌≡◌, ℕ, ◌+◌, ◌≤◌, Bool, true, false, cond, List, [], ◌∷◌, ◌++◌, length, take, drop, replicate, ℤ, Some, None, Ok, Err, Option, Result, option_map, is_some, nat_lt}
use Rattle.std.specs.Option.{option_map_or}
use Rattle.faults.specs.declared.PageFault.{PageFault}
use Rattle.faults.specs.declared.PageFault.TheVariants.{NoRoom, LineBegun, NoLine, TooMany}
use Rattle.faults.specs.Refusing.{ok_unless, done_unless, left_unless}
use Rattle.lines.specs.declared.page.Page.{Page}
use Rattle.lines.specs.declared.page.LineToken.{LineToken}
use Rattle.lines.specs.declared.page.Owed.{Owed}
use Rattle.lines.specs.declared.page.begun.Begun.{Begun}
use Rattle.lines.specs.Hex.{text, word_text}
use Rattle.lines.specs.Line.{most_numbers, line_feed, line_length, written_length, written_text}

-- the list d with s put from `at` on: a page's bytes, or a sheet's cells
abbrev pub over : {X : Type 0} → List X → ℕ → List X → List X
over d at s = take at d ++ (s ++ drop (at + length s) d)

-- the bytes d with n of them zeroed from `at` on
abbrev pub with_zeroes : List ℕ → ℕ → ℕ → List ℕ
with_zeroes d at n = take at d ++ (replicate n 0 ++ drop (at + n) d)

pub record Model : Type 0 where
  pub bytes : List ℕ
  -- where the next line begins, or the begun one does
  pub end : ℕ
  pub begun : Bool
  -- how many numbers the begun line has room for, and how many were put
  pub room : ℕ
  pub put : ℕ

abbrev pub model : Page → Model
model p = record {
  bytes = p.bytes.now;
  end = p.end;
  begun = is_some p.line;
  room = option_map_or (λ l. l.room) p.line 0;
  put = option_map_or (λ l. l.put) p.line 0;
}

abbrev pub with_bytes : Model → List ℕ → Model
with_bytes m bytes = record { bytes = bytes; end = m.end; begun = m.begun; room = m.room; put = m.put }

-- the page is between lines, and ends at e
abbrev pub between : List ℕ → ℕ → Model
between bytes e = record { bytes = bytes; end = e; begun = false; room = 0; put = 0 }

abbrev pub empty_page : List ℕ → Model
empty_page bytes = between bytes 0

-- the one token, and what is owed where a call that would take it is refused
abbrev pub line_token : LineToken
line_token = record { own = tt }

abbrev pub still_owed : LineToken → PageFault → Owed
still_owed token fault = record { token = token; fault = fault }

-- why no line with room for n numbers can begin
abbrev pub begin_refusal : Model → ℕ → Option PageFault
begin_refusal m n =
    cond m.begun (Some LineBegun)
    (cond (nat_lt (length m.bytes) (m.end + written_length n)) (Some NoRoom)
    (cond (nat_lt most_numbers n) (Some TooMany) None))

-- a line begun: its bytes zeroed, its frame written
abbrev pub begun_page : Model → ℕ → ℕ → Model
begun_page m frame n = record {
  bytes = over (with_zeroes m.bytes m.end (written_length n)) m.end (text 2 frame);
  end = m.end;
  begun = true;
  room = n;
  put = 0;
}

-- what beginning a line answers, and leaves
abbrev pub begin_answer : Model → ℕ → Result LineToken PageFault
begin_answer m n = ok_unless (begin_refusal m n) line_token

abbrev pub begin_left : Model → ℕ → ℕ → Model
begin_left m frame n = left_unless (begin_refusal m n) m (begun_page m frame n)

-- why no number can be put
abbrev pub put_refusal : Model → Option PageFault
put_refusal m = cond m.begun (cond (nat_lt m.put m.room) None (Some TooMany)) (Some NoLine)

-- one more number put
abbrev pub with_word : Model → ℤ → Model
with_word m w = record {
  bytes = over m.bytes (m.end + line_length m.put) (word_text w);
  end = m.end;
  begun = m.begun;
  room = m.room;
  put = m.put + 1;
}

-- what putting a number answers, and leaves
abbrev pub put_answer : Model → Result Unit PageFault
put_answer m = done_unless (put_refusal m)

abbrev pub put_left : Model → ℤ → Model
put_left m w = left_unless (put_refusal m) m (with_word m w)

-- why no line can be closed or given up
abbrev pub end_refusal : Model → Option PageFault
end_refusal m = cond m.begun None (Some NoLine)

-- the begun line, or with none what is still owed
abbrev pub line_or_owed : Option Begun → LineToken → Result Begun Owed
line_or_owed (Some line) token = Ok line
line_or_owed None token = Err (still_owed token NoLine)

-- what closing a line answers, or giving it up: where it is refused, the token is still owed
abbrev pub end_answer : Model → LineToken → Result Unit Owed
end_answer m token = done_unless (option_map (still_owed token) (end_refusal m))

-- the line closed: the count truly put and, behind the last number, the line feed, where the page then ends
abbrev pub closed_page : Model → Model
closed_page m =
    between (over (over m.bytes (m.end + 2) (text 2 m.put)) (m.end + line_length m.put) (line_feed ∷ []))
    (m.end + written_length m.put)

-- what closing leaves
abbrev pub close_left : Model → Model
close_left m = left_unless (end_refusal m) m (closed_page m)

-- the line given up: all that it could fill is zero
abbrev pub page_given_up : Model → Model
page_given_up m = between (with_zeroes m.bytes m.end (written_length m.room)) m.end

-- what giving up leaves
abbrev pub give_up_left : Model → Model
give_up_left m = left_unless (end_refusal m) m (page_given_up m)

-- why len bytes of whole lines cannot be put at the end of a page
abbrev pub text_refusal : Model → ℕ → Option PageFault
text_refusal m len = cond m.begun (Some LineBegun) (cond (nat_lt (length m.bytes) (m.end + len)) (Some NoRoom) None)

-- no line is begun, and the page has room for len bytes
pub record HasRoom (m : Model) (len : ℕ) : Type 0 where
  pub idle : m.begun ≡ false
  pub room : m.end + len ≤ length m.bytes

-- the bytes of whole lines put at the end of a page
abbrev pub with_text : Model → List ℕ → Model
with_text m s = between (over m.bytes m.end s) (m.end + length s)

-- what writing a whole line answers, and leaves
abbrev pub write_answer : Model → List ℤ → Result Unit PageFault
write_answer m ws = done_unless (begin_refusal m (length ws))

abbrev pub write_left : Model → ℕ → List ℤ → Model
write_left m frame ws = left_unless (begin_refusal m (length ws)) m (with_text m (written_text frame ws))
