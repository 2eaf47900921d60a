-- A showing keeps to its law.
use Rattle.std.proofs.Common.{◌≡◌, ◌+◌, ◌<◌, ◌≤◌, Bool, true, false, cond, ltb, List, length, ℤ, Some, None, Option, Result, sym, refl, ap, subst, subst₂, arith}
use Rattle.std.proofs.lemmas.Bool.{ltb-true, ltb-false}
use Rattle.std.proofs.lemmas.List.FromFn.{length-map-range_with_len}
use Rattle.faults.specs.Refusing.{left_unless, done_unless}
use Rattle.faults.specs.declared.PageFault.TheVariants.{LineBegun, NoRoom}
use Rattle.faults.specs.declared.SheetFault.{SheetFault}
use Rattle.faults.specs.declared.SheetFault.TheVariants.{Page, NoSheet}
use Rattle.kinds.specs.Kind.{Arithmetic}
use Rattle.lines.specs.Page.{Model as PageModel, with_text}
use Rattle.plans.specs.Sheet.{Contents}
use Rattle.sheets.specs.Answers.{plain_answer}
use Rattle.sheets.specs.Calls.{showing, memory}
use Rattle.sheets.specs.Law.{RightlyShown, CallLaw}
use Rattle.sheets.specs.Cells.{move_at}
use Rattle.sheets.specs.Sheet.{Model, contents_of, stands}
use Rattle.sheets.specs.Showing.{rows_length, show_length, show_answer, shown_text, show_left}
use Rattle.sheets.proofs.Refusals.{standing, not_standing}

module _ {N C : Type 0} (a : Arithmetic N C) where
  -- a showing
  module _ (m : Model C) (page : PageModel) where
    abbrev s : Contents N
    s = contents_of a m

    as_long : rows_length (length s.moves) m.unknowns ≡ show_length m
    as_long = ap (λ k. rows_length k m.unknowns) (length-map-range_with_len (move_at a m.cells m.unknowns) 0 m.moves)

    -- by whether a line is begun, the sheet has unknowns, and its lines are too long
    abbrev refusal_by : Bool → Bool → Bool → Option SheetFault
    refusal_by begun there long =
        cond begun (Some (Page LineBegun)) (cond there (cond long (Some (Page NoRoom)) None) (Some NoSheet))

    abbrev RightBy : Bool → Bool → Bool → Type 0
    RightBy begun there long =
        RightlyShown a m.unknowns s page (plain_answer (done_unless (refusal_by begun there long)))
        (left_unless (refusal_by begun there long) page (with_text page (shown_text a s)))

    show_right : (begun there long : Bool) → page.begun ≡ begun → stands m ≡ there →
        ltb (length page.bytes) (page.end + show_length m) ≡ long → RightBy begun there long
    show_right true there long p q e = record {
      line_begun = (λ _. p, λ _. refl);
      no_unknowns = (λ h. absurd cc, λ k. let i = k.0 in absurd cc);
      no_room = (λ h. absurd cc, λ k. let i = k.0 in absurd cc);
      done = (λ h. absurd cc, λ k. let i = k.1.idle in absurd cc);
      shown = λ h. absurd cc;
      kept = λ _. refl;
    }
    show_right false false long p q e = let z = not_standing m q in record {
      line_begun = (λ h. absurd cc, λ k. absurd cc);
      no_unknowns = (λ _. (p, z), λ _. refl);
      no_room = (λ h. absurd cc, λ k. absurd (k.1 z));
      done = (λ h. absurd cc, λ k. absurd (k.0 z));
      shown = λ h. absurd cc;
      kept = λ _. refl;
    }
    show_right false true true p q e =
        let z = standing m q in
        let l = ltb-true (length page.bytes) (page.end + show_length m) e in
        record {
          line_begun = (λ h. absurd cc, λ k. absurd cc);
          no_unknowns = (λ h. absurd cc, λ k. absurd (z k.1));
          no_room = (λ _. (p, z, subst (λ len. length page.bytes < page.end + len) (sym as_long) l), λ _. refl);
          done = (λ h. absurd cc, λ k. let r = subst (λ len. page.end + len ≤ length page.bytes) as_long k.1.room in absurd (omega arith));
          shown = λ h. absurd cc;
          kept = λ _. refl;
        }
    show_right false true false p q e =
        let z = standing m q in
        let l = ltb-false (length page.bytes) (page.end + show_length m) e in
        record {
          line_begun = (λ h. absurd cc, λ k. absurd cc);
          no_unknowns = (λ h. absurd cc, λ k. absurd (z k.1));
          no_room = (λ h. absurd cc, λ k. let r = subst (λ len. length page.bytes < page.end + len) as_long k.2 in absurd (omega arith));
          done = (λ _. (z, record { idle = p; room = subst (λ len. page.end + len ≤ length page.bytes) (sym as_long) l }), λ _. refl);
          shown = λ _. refl;
          kept = λ k. absurd (k refl);
        }

    pub show_law : (words : List ℤ) → CallLaw a m showing (memory words page) (plain_answer (show_answer m page)) m (memory words (show_left a m page))
    show_law words = record {
      unknowns = refl;
      in_force = λ es h. h;
      list = refl;
      rightly = λ es h.
          (show_right page.begun (stands m) (ltb (length page.bytes) (page.end + show_length m)) refl refl refl, refl);
      sound = λ h. h;
      spare = λ h. h;
    }

-- once the answer and the page left are those of the showing
pub show_keeps : {N C : Type 0} (a : Arithmetic N C) (m : Model C) (page : PageModel) (r : Result Unit SheetFault) (left : PageModel) → r ≡ show_answer m page → left ≡ show_left a m page →
    (words : List ℤ) → CallLaw a m showing (memory words page) (plain_answer r) m (memory words left)
show_keeps a m page r left p q words =
    subst₂ (λ (r : Result Unit SheetFault) (left : PageModel). CallLaw a m showing (memory words page) (plain_answer r) m (memory words left)) (sym p) (sym q) (show_law a m page words)
