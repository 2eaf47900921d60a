-- What holds of every page, and sample pages with what their calls are refused by. Assumes nothing.
use Rattle.std.specs.Prelude.{◌≡◌, ℕ, ◌+◌, ◌-◌, ◌*◌, ◌≤◌, ◌↔◌, List, [], ◌∷◌, ◌++◌, map, length, replicate, fold, ℤ, pos, Some, None, Option}
use Rattle.faults.specs.declared.PageFault.{PageFault}
use Rattle.faults.specs.declared.PageFault.TheVariants.{NoRoom, LineBegun, NoLine, TooMany}
use Rattle.lines.specs.Line.{written_length, written_text}
use Rattle.lines.specs.Page.{Model, empty_page, begin_refusal, begun_page, put_refusal, with_word, end_refusal, between, over, with_zeroes, closed_page, page_given_up, text_refusal, HasRoom}

-- a line that was begun with room for some numbers, and to which the numbers ws were put
abbrev pub filled_with : Model → ℕ → ℕ → List ℤ → Model
filled_with m frame room ws = fold with_word (begun_page m frame room) ws

-- such a line, closed, is its text with its line feed, and what it had room for beyond is zero; the page ends behind
-- the line feed
abbrev pub ShortLine : Type 0
ShortLine = (m : Model) (frame room : ℕ) (ws : List ℤ) → begin_refusal m room ≡ None → length ws ≤ room →
    closed_page (filled_with m frame room ws)
    ≡ between (over m.bytes m.end (written_text frame ws ++ replicate (8 * (room - length ws)) 0))
    (m.end + written_length (length ws))

-- given up, all that it could fill is zero, and the page ends where it ended before
abbrev pub GivenUp : Type 0
GivenUp = (m : Model) (frame room : ℕ) (ws : List ℤ) → begin_refusal m room ≡ None → length ws ≤ room →
    page_given_up (filled_with m frame room ws) ≡ between (with_zeroes m.bytes m.end (written_length room)) m.end

-- a page has room for a text exactly where the text is not refused
abbrev pub RoomExact : Type 0
RoomExact = (m : Model) (len : ℕ) → HasRoom m len ↔ (text_refusal m len ≡ None)

-- an empty page of so many bytes, and a page of 13 bytes with a line begun for one number
abbrev pub page_of : ℕ → Model
page_of len = empty_page (replicate len 0)

abbrev pub one_begun : Model
one_begun = begun_page (page_of 13) 130 1

-- a sample: what a call is refused by, and what it should be
pub record Refusal : Type 0 where
  pub came : Option PageFault
  pub fault : Option PageFault

-- a line is begun, for 25 numbers in 205 bytes and for 26 in 213; a number is put; a line is closed or given up; and 13
-- bytes of whole lines are put
abbrev pub refusals : List Refusal
refusals =
    record { came = begin_refusal (page_of 205) 25; fault = None }
    ∷ (record { came = begin_refusal (page_of 204) 25; fault = Some NoRoom }
    ∷ (record { came = begin_refusal (page_of 212) 26; fault = Some NoRoom }
    ∷ (record { came = begin_refusal (page_of 213) 26; fault = Some TooMany }
    ∷ (record { came = begin_refusal one_begun 26; fault = Some LineBegun }
    ∷ (record { came = put_refusal (page_of 13); fault = Some NoLine }
    ∷ (record { came = put_refusal one_begun; fault = None }
    ∷ (record { came = put_refusal (with_word one_begun (pos 1)); fault = Some TooMany }
    ∷ (record { came = put_refusal (closed_page (with_word one_begun (pos 1))); fault = Some NoLine }
    ∷ (record { came = end_refusal (page_of 13); fault = Some NoLine }
    ∷ (record { came = end_refusal one_begun; fault = None }
    ∷ (record { came = text_refusal (page_of 13) 13; fault = None }
    ∷ (record { came = text_refusal (page_of 12) 13; fault = Some NoRoom }
    ∷ (record { came = text_refusal one_begun 14; fault = Some LineBegun }
    ∷ [])))))))))))))

abbrev pub Refusals : Type 0
Refusals = map (λ s. s.came) refusals ≡ map (λ s. s.fault) refusals
