-- Every request and every line keeps to its law.
use Rattle.std.proofs.Common.{◌≡◌, ℕ, zero, suc, ◌+◌, ◌-◌, ◌*◌, ◌^◌, ◌<◌, ◌≤◌, Bool, true, false, ◌&&◌, cond, eqb, ltb, List, [], length, take, drop, ℤ, pos, negsuc, Some, None, Ok, Err, Option, Result, sym, refl, ap, ◌∙◌, subst, subst₂, arith, w32, SFits, to_z}
use mir.Val.{sel}
use Rattle.std.proofs.ByRecursion.{All-take, All-drop}
use Rattle.std.proofs.lemmas.List.{length-take-le, length-drop}
use Rattle.std.proofs.lemmas.Bool.{ltb-true, ltb-false}
use Rattle.std.specs.List.{AllByRecursion}
use Rattle.faults.specs.Refusing.{left_unless, done_unless}
use Rattle.faults.specs.declared.LineFault.{LineFault}
use Rattle.faults.specs.declared.PageFault.TheVariants.{NoRoom}
use Rattle.faults.specs.declared.SheetFault.{SheetFault}
use Rattle.faults.specs.declared.SheetFault.TheVariants.{Page, Line, NoSheet, Count}
use Rattle.kinds.specs.Equation.{Equation}
use Rattle.kinds.specs.Kind.{Arithmetic, Laws}
use Rattle.kinds.specs.Weekday.{weekdays}
use Rattle.kinds.specs.Whole.{wholes}
use Rattle.kinds.specs.Weekdays.{weekday_laws}
use Rattle.kinds.specs.Wholes.{whole_laws}
use Rattle.lines.specs.Hex.{Hex, hex_value, number_of, find}
use Rattle.lines.specs.Line.{frame_of, numbers, count_of, words_of, refusal}
use Rattle.lines.specs.Page.{with_text}
use Rattle.lines.proofs.Accepting.{accepted}
use Rattle.lines.proofs.Digits.{word_small}
use Rattle.sheets.specs.Answers.{Answer, plain_answer}
use Rattle.sheets.specs.Calls.{SheetCall, posting, clearing, picking, showing, Memory, answer_to, sheet_after, memory_after, in_force_after}
use Rattle.sheets.specs.Cells.{HasCells}
use Rattle.sheets.specs.Law.{StandsFor, Sound, SpareZero, CallLaw}
use Rattle.sheets.specs.Clearing.{new_again}
use Rattle.sheets.specs.Picking.{plan_in, pick_unless}
use Rattle.sheets.specs.Sheet.{Model, contents_of, stands, word_fault, outcome_of, answer_unless as post_unless, left_by}
use Rattle.sheets.specs.Showing.{show_length, shown_text}
use Rattle.sheets.specs.Words.{is_refused}
use Rattle.sheets.proofs.ClearLaws.{clear_law}
use Rattle.sheets.proofs.NewSheets.{open_law, open_sound, open_spare}
use Rattle.sheets.proofs.PickLaws.{pick_law}
use Rattle.sheets.proofs.PostLaws.{post_law}
use Rattle.sheets.proofs.Refusals.{standing, not_standing}
use Rattle.sheets.proofs.ShowLaws.{show_law}
use Rattle.sessions.specs.Frames.{known, frame_kind, call_for, placed_result}
use Rattle.sessions.specs.Law.{SessionStands, SessionSound, WithoutSheet, modulus_of, in_force_by, in_force_framed, RightlyUncalled, RightlyBy, Opens, FrameLaw, LineLaw}
use Rattle.sessions.specs.Requests.{session_memory, picked_text, text_behind, answer_by, sheet_by, text_by}
use Rattle.sessions.specs.Session.{View, without_sheet, on_whole, on_weekday, whole_cells, weekday_cells, unknowns_of, list_of, word, open_check, open_answer, open_left, frame_answer, frame_left, frame_text, answer_unless, line_answer, line_after, line_text_behind}
use Rattle.sessions.specs.declared.frame.Chosen.{Chosen}
use Rattle.sessions.specs.declared.frame.Chosen.TheVariants.{Whole, Weekday}
use Rattle.sessions.specs.declared.frame.Frame.{Frame}
use Rattle.sessions.specs.declared.frame.Frame.TheVariants.{Open, Ask}
use Rattle.sessions.specs.declared.frame.Request.{Request}
use Rattle.sessions.specs.declared.frame.Request.TheVariants.{Equation as Posting, Clear, Pick, Show}
use Rattle.sessions.proofs.Fitting.{Roomy}
use Rattle.sessions.proofs.Openings.{opens_as}
use Rattle.sessions.proofs.OpeningsRight.{FullCells, rightly_opened}

-- the words of a line are signed 32-bit words
word_fits : (n : ℕ) → n < 2 ^ 32 → SFits w32 (to_z w32 n)
word_fits n h = by (ltb n 2147483648) refl
  where
    by : (b : Bool) → ltb n 2147483648 ≡ b → SFits w32 (sel b (pos n) (negsuc (4294967296 - suc n)))
    by true e = record { sfits = ltb-true n 2147483648 e }
    by false e = let g = ltb-false n 2147483648 e in record { sfits = omega arith }

words_fit : (n : ℕ) (ds : List ℕ) → length ds ≡ 8 * n → Hex ds → AllByRecursion (SFits w32) (words_of n ds)
words_fit zero ds l h = tt
words_fit (suc n) ds l h =
    let t = length-take-le 8 ds (omega arith) in (
      word_fits (number_of (take 8 ds)) (word_small (take 8 ds) (All-take (λ c. hex_value c < 16) 8 ds h) (omega arith)),
      words_fit n (drop 8 ds) (length-drop 8 ds ∙ omega arith) (All-drop (λ c. hex_value c < 16) 8 ds h),
    )

pub numbers_fit : (bytes : List ℕ) → refusal known bytes ≡ None → AllByRecursion (SFits w32) (numbers bytes)
numbers_fit bytes e =
    let w = accepted known bytes e in
    words_fit (count_of bytes) (drop 4 bytes) (length-drop 4 bytes ∙ omega (arith, w.sized)) (All-drop (λ c. hex_value c < 16) 4 bytes w.hex)

-- the place of a fault changes nothing of what is in force
force_placed : (n : ℕ) (call : SheetCall) (r : Answer) (es : List Equation) → in_force_after n call r es ≡ in_force_after n call (placed_result r) es
force_placed n (posting ws) (Ok success) es = refl
force_placed n (posting ws) (Err fault) es = refl
force_placed n clearing (Ok success) es = refl
force_placed n clearing (Err fault) es = refl
force_placed n (picking choice) r es = refl
force_placed n showing r es = refl

-- a refused call changes nothing of it
force_kept : (n : ℕ) (o : Result SheetCall SheetFault) (fault : SheetFault) (es : List Equation) → in_force_by n o (Err fault) es ≡ es
force_kept n (Ok (posting ws)) fault es = refl
force_kept n (Ok clearing) fault es = refl
force_kept n (Ok (picking choice)) fault es = refl
force_kept n (Ok showing) fault es = refl
force_kept n (Err f) fault es = refl

-- of two values the first, where the second is the same unless a test holds
kept_or : {A : Type 0} (b : Bool) (x y : A) → (b ≡ false → x ≡ y) → x ≡ cond b x y
kept_or true x y f = refl
kept_or false x y f = f refl

-- the words that a call brings
abbrev brought : SheetCall → List ℤ
brought (posting ws) = ws
brought clearing = []
brought (picking choice) = choice
brought showing = []

module _ {N C : Type 0} (a : Arithmetic N C) (laws : Laws a) (m : Model C) (few : m.moves ≤ m.unknowns) (room : HasCells m.unknowns m.cells) where
  call_law : (call : SheetCall) (lent : Memory) → AllByRecursion (SFits w32) (brought call) → CallLaw a m call lent (answer_to a m lent call) (sheet_after a m call) (memory_after a m lent call)
  call_law (posting ws) lent fit = post_law a laws m few room ws (λ _. fit) lent
  call_law clearing lent fit = clear_law a laws m room lent
  call_law (picking choice) lent fit = pick_law a laws m few room choice lent.words (λ _. fit) lent.page
  call_law showing lent fit = show_law a m lent.page lent.words

  abbrev own : Memory
  own = session_memory m

  -- a sheet of no unknowns refuses every call, and stays as it is
  pub record Refuses (call : SheetCall) : Type 0 where
    pub answer : answer_to a m own call ≡ Err NoSheet
    pub sheet : sheet_after a m call ≡ m
    pub text : text_behind call (answer_to a m own call) (memory_after a m own call) ≡ []

  refuses_all : stands m ≡ false → (call : SheetCall) → Refuses call
  refuses_all e (posting ws) =
      let tests : Bool → Option SheetFault = λ b. cond b (cond (eqb (length ws) (m.unknowns + 1)) (word_fault (find (is_refused a) ws)) (Some Count)) (Some NoSheet) in
      record {
        answer = ap (λ (b : Bool). post_unless a (tests b) (outcome_of a m ws)) e;
        sheet = ap (λ (b : Bool). left_unless (tests b) m (left_by a m (outcome_of a m ws))) e;
        text = refl;
      }
  refuses_all e clearing = record {
    answer = ap (λ (b : Bool). plain_answer (cond b (Ok tt) (Err NoSheet))) e;
    sheet = ap (λ (b : Bool). cond b (new_again a m) m) e;
    text = refl;
  }
  refuses_all e (picking choice) =
      let counted = eqb (length choice) m.moves && eqb (length own.words) m.unknowns in
      let tests : Bool → Option SheetFault = λ b. cond b (cond counted (word_fault (find (is_refused a) choice)) (Some Count)) (Some NoSheet) in
      let answer : answer_to a m own (picking choice) ≡ Err NoSheet = ap (λ (b : Bool). plain_answer (pick_unless a (tests b) (plan_in a m choice))) e in
      record {
        answer = answer;
        sheet = refl;
        text = ap (λ (r : Answer). picked_text r (memory_after a m own (picking choice)).words) answer;
      }
  refuses_all e showing =
      let room = ltb (length own.page.bytes) (own.page.end + show_length m) in
      let tests : Bool → Option SheetFault = λ b. cond b (cond room (Some (Page NoRoom)) None) (Some NoSheet) in
      record {
        answer = ap (λ (b : Bool). plain_answer (done_unless (tests b))) e;
        sheet = refl;
        text = ap (λ (b : Bool). let q = left_unless (tests b) own.page (with_text own.page (shown_text a (contents_of a m))) in take q.end q.bytes) e;
      }

  -- a request by its call, or by its lack
  abbrev answer_of_request : Result SheetCall SheetFault → Answer
  answer_of_request o = placed_result (cond (stands m) (answer_by a m o) (Err NoSheet))

  abbrev sheet_of_request : Result SheetCall SheetFault → Model C
  sheet_of_request o = cond (stands m) (sheet_by a m o) m

  abbrev text_of_request : Result SheetCall SheetFault → List ℕ
  text_of_request o = cond (stands m) (text_by a m o) []

  pub record RequestLaw (o : Result SheetCall SheetFault) : Type 0 where
    pub unknowns : (sheet_of_request o).unknowns ≡ m.unknowns
    pub list : (sheet_of_request o).list ≡ m.list
    pub in_force : (es : List Equation) → StandsFor a m es → StandsFor a (sheet_of_request o) (in_force_by m.unknowns o (answer_of_request o) es)
    pub rightly : (es : List Equation) → StandsFor a m es → RightlyBy a m es o (answer_of_request o) (text_of_request o)
    pub sound : Sound a m × SpareZero a m → Sound a (sheet_of_request o) × SpareZero a (sheet_of_request o)

  -- a call comes to the same whether or not the sheet stands
  pub record Comes (call : SheetCall) : Type 0 where
    pub answer : answer_to a m own call ≡ cond (stands m) (answer_by a m (Ok call)) (Err NoSheet)
    pub sheet : sheet_after a m call ≡ sheet_of_request (Ok call)
    pub text : text_behind call (answer_to a m own call) (memory_after a m own call) ≡ text_of_request (Ok call)

  comes : (call : SheetCall) → Comes call
  comes call = record {
    answer = kept_or (stands m) (answer_to a m own call) (Err NoSheet) (λ e. (refuses_all e call).answer);
    sheet = kept_or (stands m) (sheet_after a m call) m (λ e. (refuses_all e call).sheet);
    text = kept_or (stands m) (text_behind call (answer_to a m own call) (memory_after a m own call)) [] (λ e. (refuses_all e call).text);
  }

  called : (call : SheetCall) → AllByRecursion (SFits w32) (brought call) → RequestLaw (Ok call)
  called call fit =
      let law = call_law call own fit in
      let c = comes call in
      record {
        unknowns = ap (λ (t : Model C). t.unknowns) (sym c.sheet) ∙ law.unknowns;
        list = ap (λ (t : Model C). t.list) (sym c.sheet) ∙ law.list;
        in_force = λ es h. subst₂ (StandsFor a) c.sheet (force_placed m.unknowns call (answer_to a m own call) es ∙ ap (λ (r : Answer). in_force_after m.unknowns call (placed_result r) es) c.answer) (law.in_force es h);
        rightly = λ es h. record {
          direct = answer_to a m own call;
          left = memory_after a m own call;
          answer = ap placed_result (sym c.answer);
          behind = sym c.text;
          rightly = law.rightly es h;
        };
        sound = λ s. subst (λ (t : Model C). Sound a t × SpareZero a t) c.sheet (law.sound s.0, law.spare s.1);
      }

  uncalled : RequestLaw (Err Count)
  uncalled =
      let same : m ≡ cond (stands m) m m = kept_or (stands m) m m (λ e. refl) in
      record {
        unknowns = ap (λ (t : Model C). t.unknowns) (sym same);
        list = ap (λ (t : Model C). t.list) (sym same);
        in_force = λ es h. subst (λ (t : Model C). StandsFor a t es) same h;
        rightly = λ es h. by (stands m) refl;
        sound = λ h. subst (λ (t : Model C). Sound a t × SpareZero a t) same h;
      }
    where
      by : (b : Bool) → stands m ≡ b → RightlyUncalled a m.unknowns (placed_result (cond b (Err Count) (Err NoSheet))) (cond b [] [])
      by true e = let z = standing m e in record { no_unknowns = (λ h. absurd cc, λ k. absurd (z k)); count = (λ _. z, λ _. refl); behind = refl }
      by false e = let z = not_standing m e in record { no_unknowns = (λ _. z, λ _. refl); count = (λ h. absurd cc, λ k. absurd (k z)); behind = refl }

  request_law : (q : Request) (ws : List ℤ) → AllByRecursion (SFits w32) ws → RequestLaw (call_for q ws)
  request_law Posting ws fit = called (posting ws) fit
  request_law Pick ws fit = called (picking ws) fit
  request_law Clear ws fit = by (eqb (length ws) 0)
    where
      by : (b : Bool) → RequestLaw (cond b (Ok clearing) (Err Count))
      by true = called clearing tt
      by false = uncalled
  request_law Show ws fit = by (eqb (length ws) 0)
    where
      by : (b : Bool) → RequestLaw (cond b (Ok showing) (Err Count))
      by true = called showing tt
      by false = uncalled

-- an opening
module _ (v : View) (ws : List ℤ) where
  open_stands : (r : Result Chosen SheetFault) (es : List Equation) → SessionStands v es → SessionStands (open_left v r ws) (in_force_framed (unknowns_of v) Open ws (open_answer r) es)
  open_stands (Ok Whole) es h = open_law wholes whole_laws (word ws 1) (word ws 2) (whole_cells v)
  open_stands (Ok Weekday) es h = open_law weekdays weekday_laws (word ws 1) (word ws 2) (weekday_cells v)
  open_stands (Err fault) es h = h

  open_kept : (r : Result Chosen SheetFault) → ¬ Opens Open (open_answer r) → (modulus_of (open_left v r ws) ≡ modulus_of v) × (unknowns_of (open_left v r ws) ≡ unknowns_of v) × (list_of (open_left v r ws) ≡ list_of v)
  open_kept (Ok kind) n = absurd (n (refl, refl))
  open_kept (Err fault) n = (refl, refl, refl)

  open_without : (r : Result Chosen SheetFault) → ¬ Opens Open (open_answer r) → WithoutSheet v → WithoutSheet (open_left v r ws)
  open_without (Ok kind) n = absurd (n (refl, refl))
  open_without (Err fault) n = λ h. h

  open_sounds : (r : Result Chosen SheetFault) → SessionSound v → SessionSound (open_left v r ws)
  open_sounds (Ok Whole) h = (open_sound wholes whole_laws (word ws 1) (word ws 2) (whole_cells v), open_spare wholes whole_laws (word ws 1) (word ws 2) (whole_cells v))
  open_sounds (Ok Weekday) h = (open_sound weekdays weekday_laws (word ws 1) (word ws 2) (weekday_cells v), open_spare weekdays weekday_laws (word ws 1) (word ws 2) (weekday_cells v))
  open_sounds (Err fault) h = h

pub frame_law : (v : View) (frame : Frame) (ws : List ℤ) → Roomy v → (frame ≡ Open → FullCells v) → AllByRecursion (SFits w32) ws →
    FrameLaw v frame ws (frame_answer v frame ws) (frame_text v frame ws) (frame_left v frame ws)
frame_law v Open ws s full fit = record {
  kept = open_kept v ws (open_check v ws);
  without = open_without v ws (open_check v ws);
  opened = λ o. opens_as v ws o.1;
  in_force = open_stands v ws (open_check v ws);
  rightly = λ es h. (rightly_opened v ws (full refl), refl);
  sound = open_sounds v ws (open_check v ws);
}
frame_law (without_sheet w d) (Ask q) ws s full fit = record {
  kept = λ n. (refl, refl, refl);
  without = λ n h. h;
  opened = λ o. absurd (let z = o.0 in cc);
  in_force = λ es h. force_kept 0 (call_for q ws) NoSheet es ∙ h;
  rightly = λ es h. (refl, refl);
  sound = λ h. h;
}
frame_law (on_whole m d) (Ask q) ws s full fit =
    let law = request_law wholes whole_laws m s.0 s.1 q ws fit in
    record {
      kept = λ n. (refl, law.unknowns, law.list);
      without = λ n h. h;
      opened = λ o. absurd (let z = o.0 in cc);
      in_force = law.in_force;
      rightly = law.rightly;
      sound = law.sound;
    }
frame_law (on_weekday w m) (Ask q) ws s full fit =
    let law = request_law weekdays weekday_laws m s.0 s.1 q ws fit in
    record {
      kept = λ n. (refl, law.unknowns, law.list);
      without = λ n h. h;
      opened = λ o. absurd (let z = o.0 in cc);
      in_force = law.in_force;
      rightly = law.rightly;
      sound = law.sound;
    }

pub line_law : (v : View) (line : List ℕ) → Roomy v → (frame_kind (frame_of line) ≡ Open → FullCells v) → LineLaw v line (line_answer v line) (line_text_behind v line) (line_after v line)
line_law v line s full = by (refusal known line) refl
  where
    by : (o : Option LineFault) → refusal known line ≡ o → LineLaw v line (answer_unless o v line) (left_unless o [] (frame_text v (frame_kind (frame_of line)) (numbers line))) (left_unless o v (frame_left v (frame_kind (frame_of line)) (numbers line)))
    by None e = record { unread = λ fault f. absurd (let z = sym e ∙ f in cc); read = λ _. frame_law v (frame_kind (frame_of line)) (numbers line) s full (numbers_fit line e) }
    by (Some fault) e = record { unread = λ f g. let z : fault ≡ f = let y = sym e ∙ g in cc in (ap (λ (x : LineFault). Err (Line x)) z, refl, refl); read = λ f. absurd (let z = sym e ∙ f in cc) }
