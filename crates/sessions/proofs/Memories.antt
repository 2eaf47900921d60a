-- A call on the session's memory comes to what it comes to on any page that has room for the largest sheet.
use Rattle.std.proofs.Common.{◌≡◌, ℕ, ◌+◌, ◌≤◌, Bool, true, false, cond, ltb, List, [], ◌++◌, length, take, drop, replicate, ℤ, pos, is_some, Some, None, Option, sym, refl, ap, ◌∙◌, mul-le-mul, add-zero, zero-add, arith}
use Rattle.std.specs.Option.{option_map_or}
use Rattle.std.proofs.lemmas.Bool.{le-ltb}
use Rattle.std.proofs.lemmas.List.{length-replicate, take-append-drop, take_at}
use Rattle.faults.specs.Refusing.{left_unless, done_unless}
use Rattle.faults.specs.declared.PageFault.TheVariants.{LineBegun, NoRoom}
use Rattle.faults.specs.declared.SheetFault.{SheetFault}
use Rattle.faults.specs.declared.SheetFault.TheVariants.{Page, NoSheet}
use Rattle.kinds.specs.Kind.{Arithmetic}
use Rattle.lines.specs.Line.{written_length}
use Rattle.lines.specs.Page.{Model as PageModel, model as page_model, empty_page, over, with_text}
use Rattle.lines.specs.declared.page.Page.{Page as PageOf}
use Rattle.sheets.specs.Answers.{Answer, plain_answer}
use Rattle.sheets.specs.Calls.{SheetCall, posting, clearing, picking, showing, Memory, memory, answer_to, memory_after}
use Rattle.sheets.specs.Sheet.{Model, contents_of, stands, most_unknowns}
use Rattle.sheets.specs.Showing.{show_length, show_refusal, shown_text}
use Rattle.sessions.specs.Requests.{rest_length, session_memory, text_behind}

-- nothing put behind a page's end leaves it as it was
pub no_text : (p : PageModel) → p.begun ≡ false → p.room ≡ 0 → p.put ≡ 0 → with_text p [] ≡ p
no_text p idle room put =
    let bytes : over p.bytes p.end [] ≡ p.bytes = ap (λ (k : ℕ). take p.end p.bytes ++ drop k p.bytes) (add-zero p.end) ∙ take-append-drop p.end p.bytes in
    λ j. record { bytes = bytes j; end = add-zero p.end j; begun = sym idle j; room = sym room j; put = sym put j }

-- a page on which no line is begun
pub blank_page : (p : PageOf) → (page_model p).begun ≡ false → with_text (page_model p) [] ≡ page_model p
blank_page p idle = by p.line refl idle
  where
    by : (o : Option _) → p.line ≡ o → is_some o ≡ false → with_text (page_model p) [] ≡ page_model p
    by None e i = no_text (page_model p) idle (ap (λ l. option_map_or (λ b. b.room) l 0) e) (ap (λ l. option_map_or (λ b. b.put) l 0) e)
    by (Some b) e i = absurd cc

module _ {N C : Type 0} (a : Arithmetic N C) (m : Model C) (small : m.unknowns ≤ most_unknowns) (few : m.moves ≤ m.unknowns) where
  abbrev shown : List ℕ
  shown = shown_text a (contents_of a m)

  -- a page with room for the largest sheet refuses a showing for lack of unknowns alone
  refuses : (p : PageModel) → p.begun ≡ false → p.end + rest_length ≤ length p.bytes → show_refusal m p ≡ cond (stands m) None (Some NoSheet)
  refuses p idle room =
      let rows : m.moves + 1 ≤ most_unknowns + 1 = omega arith in
      let bytes : written_length m.unknowns ≤ written_length most_unknowns = omega arith in
      let all : show_length m ≤ rest_length = mul-le-mul rows bytes in
      let r : ltb (length p.bytes) (p.end + show_length m) ≡ false = le-ltb (length p.bytes) (p.end + show_length m) (omega arith) in
      λ j. cond (idle j) (Some (Page LineBegun)) (cond (stands m) (cond (r j) (Some (Page NoRoom)) None) (Some NoSheet))

  abbrev own_page : PageModel
  own_page = empty_page (replicate rest_length 0)

  own_refuses : show_refusal m own_page ≡ cond (stands m) None (Some NoSheet)
  own_refuses = let l = length-replicate {A = ℕ} rest_length 0 in refuses own_page refl (omega arith)

  module _ (p : PageModel) (idle : p.begun ≡ false) (blank : with_text p [] ≡ p) (room : p.end + rest_length ≤ length p.bytes) where
    abbrev lent : Memory
    lent = memory (take m.unknowns (replicate most_unknowns (pos 0))) p

    pub answer_same : (call : SheetCall) → answer_to a m lent call ≡ answer_to a m (session_memory m) call
    answer_same (posting ws) = refl
    answer_same clearing = refl
    answer_same (picking choice) = refl
    answer_same showing = ap (λ (o : Option SheetFault). plain_answer (done_unless o)) (refuses p idle room ∙ sym own_refuses)

    -- what is put on the session's own page can be read off it
    read_off : (text : List ℕ) → take (with_text own_page text).end (with_text own_page text).bytes ≡ text
    read_off text = take_at text (drop (0 + length text) (replicate rest_length 0)) (0 + length text) (sym (zero-add (length text)))

    shown_behind : (b : Bool) → stands m ≡ b → left_unless (cond b None (Some NoSheet)) p (with_text p shown) ≡ with_text p (let q = left_unless (cond b None (Some NoSheet)) own_page (with_text own_page shown) in take q.end q.bytes)
    shown_behind true e = ap (with_text p) (sym (read_off (shown_text a (contents_of a m))))
    shown_behind false e = sym blank

    -- a call that picks no plan leaves the lines behind its answer on the page
    pub page_behind : (call : SheetCall) (r : Answer) → ((choice : List ℤ) → ¬ (call ≡ picking choice)) → (memory_after a m lent call).page ≡ with_text p (text_behind call r (memory_after a m (session_memory m) call))
    page_behind (posting ws) r not_pick = sym blank
    page_behind clearing r not_pick = sym blank
    page_behind (picking choice) r not_pick = absurd (not_pick choice refl)
    page_behind showing r not_pick =
        ap (λ (o : Option SheetFault). left_unless o p (with_text p shown)) (refuses p idle room)
        ∙ shown_behind (stands m) refl
        ∙ ap (λ (o : Option SheetFault). with_text p (let q = left_unless o own_page (with_text own_page shown) in take q.end q.bytes)) (sym own_refuses)
