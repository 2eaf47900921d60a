-- What each line keeps to, in the words of equations and plans. Assumes nothing.
use Rattle.std.specs.Prelude.{◌≡◌, ℕ, ◌↔◌, true, false, List, [], length, ℤ, pos, Some, None, Ok, Err, Result}
use Rattle.faults.specs.declared.LineFault.{LineFault}
use Rattle.faults.specs.declared.LineFault.TheVariants.{Count as LineCount, Number as LineNumber}
use Rattle.faults.specs.declared.NumberFault.TheVariants.{Modulus, Unknowns, ListNumber}
use Rattle.faults.specs.declared.SheetFault.{SheetFault}
use Rattle.faults.specs.declared.SheetFault.TheVariants.{Line, NoSheet}
use Rattle.kinds.specs.Equation.{Equation}
use Rattle.kinds.specs.Kind.{Arithmetic}
use Rattle.kinds.specs.Weekday.{weekdays}
use Rattle.kinds.specs.Whole.{wholes}
use Rattle.lines.specs.Line.{frame_of, numbers, refusal}
use Rattle.sheets.specs.Answers.{Answer}
use Rattle.sheets.specs.Calls.{SheetCall, Memory, in_force_after}
use Rattle.sheets.specs.Law.{StandsFor, Sound, SpareZero, Rightly}
use Rattle.sheets.specs.Sheet.{Model, contents_of, in_range, most_unknowns, last_list}
use Rattle.sheets.specs.declared.call.Success.TheVariants.{Done}
use Rattle.sessions.specs.Frames.{known, frame_kind, call_for, kind_of, placed_result, modulus_place, unknowns_place, list_place}
use Rattle.sessions.specs.Requests.{session_memory, text_behind}
use Rattle.sessions.specs.Session.{View, without_sheet, on_whole, on_weekday, word, unknowns_of, list_of}
use Rattle.sessions.specs.declared.frame.Frame.{Frame}
use Rattle.sessions.specs.declared.frame.Frame.TheVariants.{Open, Ask}

-- the sheet that a session is on stands for the equations es; without a sheet none is in force
abbrev pub SessionStands : View → List Equation → Type 0
SessionStands (without_sheet w d) es = es ≡ []
SessionStands (on_whole m d) es = StandsFor wholes m es
SessionStands (on_weekday w m) es = StandsFor weekdays m es

-- each cell that its sheet needs is there and passes its check, and the spare cells hold zero
abbrev pub SessionSound : View → Type 0
SessionSound (without_sheet w d) = Unit {0}
SessionSound (on_whole m d) = Sound wholes m × SpareZero wholes m
SessionSound (on_weekday w m) = Sound weekdays m × SpareZero weekdays m

abbrev pub modulus_of : View → ℕ
modulus_of (without_sheet w d) = 0
modulus_of (on_whole m d) = wholes.modulus
modulus_of (on_weekday w m) = weekdays.modulus

-- the equations in force after a call on a sheet of n unknowns, where a line asks for one
abbrev pub in_force_by : ℕ → Result SheetCall SheetFault → Answer → List Equation → List Equation
in_force_by n (Ok call) r es = in_force_after n call r es
in_force_by n (Err fault) r es = es

-- and after a frame with the numbers ws: an opening that is done ends this for all
abbrev pub in_force_framed : ℕ → Frame → List ℤ → Answer → List Equation → List Equation
in_force_framed n Open ws (Ok success) es = []
in_force_framed n Open ws (Err fault) es = es
in_force_framed n (Ask request) ws r es = in_force_by n (call_for request ws) r es

-- the session is without a sheet
abbrev pub WithoutSheet : View → Type 0
WithoutSheet (without_sheet w d) = Unit {0}
WithoutSheet (on_whole m d) = ⊥
WithoutSheet (on_weekday w m) = ⊥

-- the session is on a sheet as the numbers of an opening ask for: of this kind, of so many unknowns, and for this list
pub record OpenedAs (ws : List ℤ) (after : View) : Type 0 where
  pub kind : pos (modulus_of after) ≡ word ws 0
  pub unknowns : pos (unknowns_of after) ≡ word ws 1
  pub list : pos (list_of after) ≡ word ws 2
  -- so it is on a sheet
  pub has_unknowns : ¬ (unknowns_of after ≡ 0)

-- an opening with the numbers ws is rightly answered r
pub record RightlyOpened (ws : List ℤ) (r : Answer) : Type 0 where
  -- it has not three numbers
  pub count : (r ≡ Err (Line LineCount)) ↔ (¬ (length ws ≡ 3))
  -- it has, and the first is the modulus of no kind
  pub modulus : (r ≡ Err (Line (LineNumber Modulus modulus_place))) ↔ ((length ws ≡ 3) × (kind_of (word ws 0) ≡ None))
  -- it is that of a kind, and the unknowns are too few or too many
  pub unknowns : (r ≡ Err (Line (LineNumber Unknowns unknowns_place))) ↔
      ((length ws ≡ 3) × (¬ (kind_of (word ws 0) ≡ None)) × (in_range 1 most_unknowns (word ws 1) ≡ false))
  -- they are not, and the list number is none
  pub list : (r ≡ Err (Line (LineNumber ListNumber list_place))) ↔
      ((length ws ≡ 3) × (¬ (kind_of (word ws 0) ≡ None)) × (in_range 1 most_unknowns (word ws 1) ≡ true)
      × (in_range 0 last_list (word ws 2) ≡ false))
  -- and else it is done
  pub done : (r ≡ Ok Done) ↔
      ((length ws ≡ 3) × (¬ (kind_of (word ws 0) ≡ None)) × (in_range 1 most_unknowns (word ws 1) ≡ true)
      × (in_range 0 last_list (word ws 2) ≡ true))

module _ {N C : Type 0} (a : Arithmetic N C) where
  -- a call on the sheet m, with the equations es in force, is rightly answered r in its line: as a direct call is that
  -- has the session's memory, which leaves the lines behind the answer
  pub record RightlyCalled (m : Model C) (es : List Equation)
      (call : SheetCall) (r : Answer) (text : List ℕ) : Type 0 where
    pub direct : Answer
    pub left : Memory
    pub answer : r ≡ placed_result direct
    pub behind : text ≡ text_behind call direct left
    pub rightly : Rightly a m.unknowns es (contents_of a m) call (session_memory m) direct left

  -- a line with numbers that its call must not have is rightly answered r
  pub record RightlyUncalled (n : ℕ) (r : Answer) (text : List ℕ) : Type 0 where
    pub no_unknowns : (r ≡ Err NoSheet) ↔ (n ≡ 0)
    pub count : (r ≡ Err (Line LineCount)) ↔ (¬ (n ≡ 0))
    pub behind : text ≡ []

  abbrev pub RightlyBy : Model C → List Equation → Result SheetCall SheetFault → Answer → List ℕ → Type 0
  RightlyBy m es (Ok call) r text = RightlyCalled m es call r text
  RightlyBy m es (Err fault) r text = RightlyUncalled m.unknowns r text

-- a frame with the numbers ws, sent to the session v with the equations es in force, is rightly answered r, and the
-- lines `text` rightly stand behind the answer
abbrev pub RightlyFramed : View → List Equation → Frame → List ℤ → Answer → List ℕ → Type 0
RightlyFramed v es Open ws r text = RightlyOpened ws r × (text ≡ [])
RightlyFramed (without_sheet w d) es (Ask request) ws r text = (r ≡ Err NoSheet) × (text ≡ [])
RightlyFramed (on_whole m d) es (Ask request) ws r text = RightlyBy wholes m es (call_for request ws) r text
RightlyFramed (on_weekday w m) es (Ask request) ws r text = RightlyBy weekdays m es (call_for request ws) r text

-- an opening that is done
abbrev pub Opens : Frame → Answer → Type 0
Opens frame r = (frame ≡ Open) × (r ≡ Ok Done)

-- a frame with the numbers ws is answered r with the lines `text` behind it, and leaves the session `after`: whatever
-- equations the session's sheet stands for, it stands for those then in force, and the frame is rightly answered
pub record FrameLaw (v : View) (frame : Frame) (ws : List ℤ) (r : Answer) (text : List ℕ) (after : View) : Type 0 where
  -- but for an opening that is done, the sheet keeps its kind, its unknowns and its list, and where there is none
  -- it stays so
  pub kept : ¬ Opens frame r →
      (modulus_of after ≡ modulus_of v) × (unknowns_of after ≡ unknowns_of v) × (list_of after ≡ list_of v)
  pub without : ¬ Opens frame r → WithoutSheet v → WithoutSheet after
  -- which leaves a sheet of the kind and the unknowns that it asks for
  pub opened : Opens frame r → OpenedAs ws after
  pub in_force : (es : List Equation) → SessionStands v es →
      SessionStands after (in_force_framed (unknowns_of v) frame ws r es)
  pub rightly : (es : List Equation) → SessionStands v es → RightlyFramed v es frame ws r text
  pub sound : SessionSound v → SessionSound after

-- a line likewise: where its reader refuses it, that is the answer, and the session stays as it was
pub record LineLaw (v : View) (line : List ℕ) (r : Answer) (text : List ℕ) (after : View) : Type 0 where
  pub unread : (fault : LineFault) → refusal known line ≡ Some fault →
      (r ≡ Err (Line fault)) × (text ≡ []) × (after ≡ v)
  pub read : refusal known line ≡ None → FrameLaw v (frame_kind (frame_of line)) (numbers line) r text after
