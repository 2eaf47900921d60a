-- A session's cells suffice for any sheet, and stay as many.
use Rattle.std.proofs.Common.{◌≡◌, ℕ, ◌+◌, ◌*◌, ◌≤◌, Bool, true, false, cond, ltb, List, length, ℤ, pos, negsuc, Some, None, Ok, Err, Option, Result, refl, ◌∙◌, mul-le-mul, arith}
use Rattle.std.proofs.lemmas.Bool.{ltb-false}
use Rattle.std.proofs.lemmas.List.{length-replicate}
use Rattle.faults.specs.Refusing.{left_unless}
use Rattle.faults.specs.declared.NumberFault.TheVariants.{Unknowns, ListNumber}
use Rattle.faults.specs.declared.SheetFault.{SheetFault}
use Rattle.faults.specs.declared.SheetFault.TheVariants.{Number, FewCells}
use Rattle.kinds.specs.Kind.{Arithmetic, Laws}
use Rattle.kinds.specs.Weekday.{weekdays}
use Rattle.kinds.specs.Whole.{wholes}
use Rattle.kinds.specs.declared.weekday.WeekdayCell.{WeekdayCell}
use Rattle.kinds.specs.declared.whole.WholeCell.{WholeCell}
use Rattle.kinds.specs.Weekdays.{weekday_laws}
use Rattle.kinds.specs.Wholes.{whole_laws}
use Rattle.plans.specs.Posting.{Outcome, taken, implied, contradicted, overflow}
use Rattle.plans.specs.Sheet.{new_sheet}
use Rattle.sheets.specs.Calls.{SheetCall, posting, clearing, picking, showing, sheet_after}
use Rattle.sheets.specs.Cells.{needed, HasCells, main_of}
use Rattle.sheets.specs.Clearing.{new_again}
use Rattle.sheets.specs.Sheet.{Model, most_unknowns, last_list, in_range, natural, stands, opened_by, opened, post_refusal, outcome_of, left_by}
use Rattle.sheets.proofs.ClearLaws.{clear_cells}
use Rattle.sheets.proofs.NewSheets.{laid_length, length_new}
use Rattle.sheets.proofs.PostLaws.{post_cells}
use Rattle.sessions.specs.Frames.{call_for}
use Rattle.sessions.specs.Requests.{sheet_by}
use Rattle.sessions.specs.Session.{View, without_sheet, on_whole, on_weekday, view_by, view, new_session, session_cells, whole_cells, weekday_cells, word, open_check, open_left, frame_left}
use Rattle.sessions.specs.declared.frame.Chosen.{Chosen}
use Rattle.sessions.specs.declared.frame.Chosen.TheVariants.{Whole, Weekday}
use Rattle.sessions.specs.declared.frame.Frame.{Frame}
use Rattle.sessions.specs.declared.frame.Frame.TheVariants.{Open, Ask}
use Rattle.sessions.specs.declared.session.Session.{Session}
use Rattle.sessions.specs.declared.session.State.{State}
use Rattle.sessions.specs.declared.session.State.TheVariants.{NoSheet, OnWhole, OnWeekday}

-- a sheet is no larger than any can be
abbrev pub SmallSheet : {C : Type 0} → Model C → Type 0
SmallSheet m = (m.unknowns ≤ most_unknowns) × (m.moves ≤ m.unknowns)

abbrev pub Small : View → Type 0
Small (without_sheet w d) = Unit {0}
Small (on_whole m d) = SmallSheet m
Small (on_weekday w m) = SmallSheet m

-- a sheet with the cells that it needs, and no more moves than unknowns
abbrev pub RoomySheet : {C : Type 0} → Model C → Type 0
RoomySheet m = (m.moves ≤ m.unknowns) × HasCells m.unknowns m.cells

abbrev pub Roomy : View → Type 0
Roomy (without_sheet w d) = Unit {0}
Roomy (on_whole m d) = RoomySheet m
Roomy (on_weekday w m) = RoomySheet m

-- a session has all its cells, and its sheet is no larger than any can be
pub record Fitting (v : View) : Type 0 where
  pub whole : length (whole_cells v) ≡ session_cells
  pub weekday : length (weekday_cells v) ≡ session_cells
  pub small : Small v

-- as each has
pub fitting : (s : Session) → length s.whole ≡ session_cells → length s.weekday ≡ session_cells → Fitting (view s)
fitting s lw ld = by s.state
  where
    by : (x : State) → Fitting (view_by x s.whole s.weekday)
    by NoSheet = record { whole = lw; weekday = ld; small = tt }
    by (OnWhole o) = record { whole = lw; weekday = ld; small = (o.shape.small, o.shape.few) }
    by (OnWeekday o) = record { whole = lw; weekday = ld; small = (o.shape.small, o.shape.few) }

-- a sheet of up to 24 unknowns needs no more cells than a session has
pub needed_few : (n : ℕ) → n ≤ most_unknowns → needed n ≤ session_cells
needed_few n h =
    let s : n + 1 ≤ 25 = omega arith in
    let p : n * (n + 1) ≤ 24 * 25 = mul-le-mul h s in
    let q : (n + 1) * (n + 1) ≤ 25 * 25 = mul-le-mul s s in
    omega arith

pub has_cells : {C : Type 0} (n : ℕ) (cells : List C) → n ≤ most_unknowns → length cells ≡ session_cells → HasCells n cells
has_cells n cells h l some = let f = needed_few n h in omega arith

pub roomy : (v : View) → Fitting v → Roomy v
roomy (without_sheet w d) f = tt
roomy (on_whole m d) f = (f.small.1, has_cells m.unknowns m.cells f.small.0 f.whole)
roomy (on_weekday w m) f = (f.small.1, has_cells m.unknowns m.cells f.small.0 f.weekday)

pub new_fitting : Fitting new_session
new_fitting = record { whole = length-replicate {A = WholeCell} session_cells (record { value = pos 0 }); weekday = length-replicate {A = WeekdayCell} session_cells (record { value = 0 }); small = tt }

-- a number from 1 to 24
pub few_unknowns : (n : ℤ) → in_range 1 most_unknowns n ≡ true → natural n ≤ most_unknowns
few_unknowns (pos n) e = by (ltb n 1) (ltb most_unknowns n) refl e
  where
    by : (b c : Bool) → ltb most_unknowns n ≡ c → cond b false (cond c false true) ≡ true → n ≤ most_unknowns
    by false false q e = ltb-false most_unknowns n q
    by false true q e = absurd cc
    by true c q e = absurd cc
few_unknowns (negsuc n) e = absurd cc

-- what an opening asks for, by its tests
abbrev asked_by : ℤ → ℤ → Bool → Bool → Bool → Result (ℕ × ℕ) SheetFault
asked_by u l x y z = cond x (cond y (cond z (Err FewCells) (Ok (natural u, natural l))) (Err (Number ListNumber))) (Err (Number Unknowns))

module _ {N C : Type 0} (a : Arithmetic N C) (laws : Laws a) where
  -- an opened sheet is small, and has as many cells as before
  opened_fits : (u l : ℤ) (cells : List C) → SmallSheet (opened a u l cells) × (length (opened a u l cells).cells ≡ length cells)
  opened_fits u l cells = by (in_range 1 most_unknowns u) (in_range 0 last_list l) (ltb (length cells) (needed (natural u))) refl refl
    where
      by : (x y z : Bool) → in_range 1 most_unknowns u ≡ x → ltb (length cells) (needed (natural u)) ≡ z →
          SmallSheet (opened_by a (asked_by u l x y z) cells) × (length (opened_by a (asked_by u l x y z) cells).cells ≡ length cells)
      by false y z p q = ((omega arith, omega arith), refl)
      by true false z p q = ((omega arith, omega arith), refl)
      by true true true p q = ((omega arith, omega arith), refl)
      by true true false p q =
          let n = natural u in
          let room = ltb-false (length cells) (needed n) q in
          ((few_unknowns u p, omega arith), laid_length a n (main_of a n (new_sheet a n)) cells (length_new a laws n) room)

  module _ (m : Model C) (small : SmallSheet m) (room : HasCells m.unknowns m.cells) where
    -- so does a sheet after a call
    call_fits : (call : SheetCall) → SmallSheet (sheet_after a m call) × (length (sheet_after a m call).cells ≡ length m.cells)
    call_fits (posting ws) = (post_small (post_refusal a m ws) (outcome_of a m ws), post_cells a laws m small.1 room ws)
      where
        outcome_small : (o : Outcome N) → SmallSheet (left_by a m o)
        outcome_small (taken t) = (small.0, let f = small.1 in omega arith)
        outcome_small implied = small
        outcome_small contradicted = small
        outcome_small overflow = small

        post_small : (o : Option SheetFault) (out : Outcome N) → SmallSheet (left_unless o m (left_by a m out))
        post_small (Some fault) out = small
        post_small None out = outcome_small out
    call_fits clearing = (clear_small (stands m), clear_cells a laws m room)
      where
        clear_small : (b : Bool) → SmallSheet (cond b (new_again a m) m)
        clear_small true = (small.0, omega arith)
        clear_small false = small
    call_fits (picking choice) = (small, refl)
    call_fits showing = (small, refl)

    request_fits : (o : Result SheetCall SheetFault) → let t = cond (stands m) (sheet_by a m o) m in SmallSheet t × (length t.cells ≡ length m.cells)
    request_fits o = by (stands m) o
      where
        by : (b : Bool) (o : Result SheetCall SheetFault) → let t = cond b (sheet_by a m o) m in SmallSheet t × (length t.cells ≡ length m.cells)
        by true (Ok call) = call_fits call
        by true (Err fault) = (small, refl)
        by false o = (small, refl)

open_fits : (v : View) (ws : List ℤ) (r : Result Chosen SheetFault) → Fitting v → Fitting (open_left v r ws)
open_fits v ws (Ok Whole) f =
    let o = opened_fits wholes whole_laws (word ws 1) (word ws 2) (whole_cells v) in
    record { whole = o.1 ∙ f.whole; weekday = f.weekday; small = o.0 }
open_fits v ws (Ok Weekday) f =
    let o = opened_fits weekdays weekday_laws (word ws 1) (word ws 2) (weekday_cells v) in
    record { whole = f.whole; weekday = o.1 ∙ f.weekday; small = o.0 }
open_fits v ws (Err fault) f = f

-- and so does a session after a frame
pub frame_fits : (v : View) (frame : Frame) (ws : List ℤ) → Fitting v → Fitting (frame_left v frame ws)
frame_fits v Open ws f = open_fits v ws (open_check v ws) f
frame_fits (without_sheet w d) (Ask q) ws f = f
frame_fits (on_whole m d) (Ask q) ws f =
    let r = request_fits wholes whole_laws m f.small (has_cells m.unknowns m.cells f.small.0 f.whole) (call_for q ws) in
    record { whole = r.1 ∙ f.whole; weekday = f.weekday; small = r.0 }
frame_fits (on_weekday w m) (Ask q) ws f =
    let r = request_fits weekdays weekday_laws m f.small (has_cells m.unknowns m.cells f.small.0 f.weekday) (call_for q ws) in
    record { whole = f.whole; weekday = r.1 ∙ f.weekday; small = r.0 }
