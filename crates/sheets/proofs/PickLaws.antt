-- A picking keeps to its law.
use Rattle.std.proofs.Common.{◌≡◌, ℕ, ◌≤◌, Bool, true, false, ◌&&◌, eqb, ◌↔◌, List, map, length, ℤ, Some, None, Ok, Err, Option, Result, sym, refl, ap, ◌∙◌, subst, subst₂, arith, w32, SFits}
use Rattle.std.specs.List.{AllByRecursion}
use Rattle.std.proofs.lemmas.List.{length-map}
use Rattle.std.proofs.lemmas.List.FromFn.{length-map-range_with_len}
use Rattle.std.proofs.lemmas.Bool.{eqb-true, eqb-false}
use Rattle.faults.specs.declared.SheetFault.{SheetFault}
use Rattle.faults.specs.declared.SheetFault.TheVariants.{Overflow}
use Rattle.kinds.specs.Kind.{Arithmetic, Laws}
use Rattle.lines.specs.Page.{Model as PageModel}
use Rattle.plans.specs.Sheet.{Contents}
use Rattle.plans.specs.Solution.{MakesPlan}
use Rattle.sheets.specs.declared.call.Success.TheVariants.{Done}
use Rattle.sheets.specs.Cells.{HasCells, move_at}
use Rattle.sheets.specs.Answers.{Answer, plain_answer}
use Rattle.sheets.specs.Calls.{picking, memory}
use Rattle.sheets.specs.Law.{GoesThrough, RightlyRefused, PickingLacks, CallLaw}
use Rattle.sheets.specs.Picking.{pick_refusal, plan_in, pick_unless, words_unless, pick_answer, pick_left}
use Rattle.sheets.specs.Sheet.{Model, contents_of}
use Rattle.sheets.specs.Words.{numbers_of}
use Rattle.sheets.proofs.Meanings.{numbers_mean}
use Rattle.sheets.proofs.Plans.{plan_long, plan_means, plan_lacks}
use Rattle.sheets.proofs.Reading.{contents_measured}
use Rattle.sheets.proofs.Refusals.{answer_or, Unrefused, Unhindered, unhindered, refused_rightly, goes_on, both_true, both_false}

module _ {N C : Type 0} (a : Arithmetic N C) (laws : Laws a) where
  -- a picking
  module _ (m : Model C) (few : m.moves ≤ m.unknowns) (room : HasCells m.unknowns m.cells) (choice words : List ℤ) where
    abbrev s : Contents N
    s = contents_of a m

    many : length s.moves ≡ m.moves
    many = length-map-range_with_len (move_at a m.cells m.unknowns) 0 m.moves

    abbrev counted : Bool
    counted = (eqb (length choice) m.moves) && (eqb (length words) m.unknowns)

    abbrev Counted : Type 0
    Counted = (length choice ≡ length s.moves) × (length words ≡ m.unknowns)

    pub is_counted : counted ≡ true → Counted
    is_counted e =
        let b = both_true (eqb (length choice) m.moves) (eqb (length words) m.unknowns) e in
        (eqb-true (length choice) m.moves b.0 ∙ sym many, eqb-true (length words) m.unknowns b.1)

    same_true : (x y : ℕ) → x ≡ y → eqb x y ≡ true
    same_true x y e = by (eqb x y) refl
      where
        by : (b : Bool) → eqb x y ≡ b → b ≡ true
        by true q = refl
        by false q = absurd (eqb-false x y q e)

    pub not_counted : counted ≡ false → ¬ Counted
    not_counted e k =
        both_false (eqb (length choice) m.moves) (eqb (length words) m.unknowns) e
        (same_true (length choice) m.moves (k.0 ∙ many), same_true (length words) m.unknowns k.1)

    abbrev Pickable : Type 0
    Pickable = Unhindered a m choice counted Counted is_counted not_counted

    pub pickable : pick_refusal a m choice (length words) ≡ None → Pickable
    pickable = unhindered a m choice counted Counted is_counted not_counted

    -- the plan has a number for each unknown, and is the one that the choice makes
    plan_right : Pickable → AllByRecursion (SFits w32) choice → (xs : List N) → plan_in a m choice ≡ Some xs → (length (map a.write xs) ≡ m.unknowns) × MakesPlan a s choice (map a.write xs)
    plan_right p fit xs e =
        let enough = room p.some in
        let h = contents_measured a m.unknowns m.moves m.cells few (omega arith) in
        let same = numbers_mean a laws choice fit p.all in
        let count : length choice ≡ m.moves = p.count.0 ∙ many in (
          length-map xs a.write ∙ plan_long a m.unknowns s (numbers_of a choice) xs e,
          plan_means a laws m.unknowns m.moves s h (numbers_of a choice) choice same count xs e,
        )

    -- a plan is none exactly where the sum for an unknown lacks
    unrefused : (o : Option (List N)) → (o ≡ None) ↔ PickingLacks a m.unknowns s choice → Unrefused (PickingLacks a m.unknowns s choice) (plain_answer (pick_unless a None o))
    unrefused (Some xs) k = record { has_unknowns = λ e. cc; right_count = λ e. cc; words_admitted = λ i e. cc; overflow = (λ e. absurd cc, λ l. absurd (let z = k.1 l in cc)) }
    unrefused None k = record { has_unknowns = λ e. cc; right_count = λ e. cc; words_admitted = λ i e. cc; overflow = (λ e. k.0 refl, λ l. refl) }

    abbrev plan : Option (List N)
    plan = plan_in a m choice

    same_answer : (o : Option SheetFault) → answer_or o (plain_answer (pick_unless a None plan)) ≡ plain_answer (pick_unless a o plan)
    same_answer (Some fault) = refl
    same_answer None = refl

    pick_refused : RightlyRefused a m.unknowns choice Counted (PickingLacks a m.unknowns s choice) (plain_answer (pick_answer a m choice words))
    pick_refused =
        subst (RightlyRefused a m.unknowns choice Counted (PickingLacks a m.unknowns s choice)) (same_answer (pick_refusal a m choice (length words)))
        (refused_rightly a m choice counted Counted is_counted not_counted (PickingLacks a m.unknowns s choice) (plain_answer (pick_unless a None plan))
        (λ _. unrefused plan (plan_lacks a m.unknowns s (numbers_of a choice))))

    goes_done : (o : Option (List N)) → ¬ (plain_answer (pick_unless a None o) ≡ Err Overflow) → plain_answer (pick_unless a None o) ≡ Ok Done
    goes_done (Some xs) k = refl
    goes_done None k = absurd (k refl)

    pick_done : GoesThrough (plain_answer (pick_answer a m choice words)) → plain_answer (pick_answer a m choice words) ≡ Ok Done
    pick_done g =
        let e = same_answer (pick_refusal a m choice (length words)) in
        let f = subst GoesThrough (sym e) g in
        sym e ∙ goes_on a m choice counted Counted is_counted not_counted (λ r. ¬ (r ≡ Err Overflow) → r ≡ Ok Done)
        (plain_answer (pick_unless a None plan)) (λ _. goes_done plan) f.has_unknowns f.right_count f.words_admitted f.no_overflow

    -- a picking that is done wrote the plan, and any other wrote nothing
    pub record Wrote (r : Answer) (left : List ℤ) : Type 0 where
      pub plan_there : r ≡ Ok Done → (length left ≡ m.unknowns) × MakesPlan a s choice left
      pub count_right : r ≡ Ok Done → length choice ≡ length s.moves
      pub kept : ¬ (r ≡ Ok Done) → left ≡ words

    wrote : (pick_refusal a m choice (length words) ≡ None → AllByRecursion (SFits w32) choice) → Wrote (plain_answer (pick_answer a m choice words)) (pick_left a m choice words)
    wrote fit = by (pick_refusal a m choice (length words)) plan refl refl
      where
        by : (o : Option SheetFault) (p : Option (List N)) → pick_refusal a m choice (length words) ≡ o → plan_in a m choice ≡ p → Wrote (plain_answer (pick_unless a o p)) (words_unless a o p words)
        by (Some fault) p q e = record { plan_there = λ h. absurd cc; count_right = λ h. absurd cc; kept = λ _. refl }
        by None None q e = record { plan_there = λ h. absurd cc; count_right = λ h. absurd cc; kept = λ _. refl }
        by None (Some xs) q e = record { plan_there = λ _. plan_right (pickable q) (fit q) xs e; count_right = λ _. (pickable q).count.0; kept = λ k. absurd (k refl) }

    -- the plan of a picking that is done is the one that the choice makes, whatever the sheet stands for
    pub pick_made : (pick_refusal a m choice (length words) ≡ None → AllByRecursion (SFits w32) choice) → pick_answer a m choice words ≡ Ok tt → MakesPlan a s choice (pick_left a m choice words)
    pick_made fit e = ((wrote fit).plan_there (ap plain_answer e)).1

    pub pick_law : (pick_refusal a m choice (length words) ≡ None → AllByRecursion (SFits w32) choice) → (page : PageModel) →
        CallLaw a m (picking choice) (memory words page) (plain_answer (pick_answer a m choice words)) m (memory (pick_left a m choice words) page)
    pick_law fit page =
        let w = wrote fit in
        record {
          unknowns = refl;
          in_force = λ es h. h;
          list = refl;
          rightly = λ es h. (
            record {
              refused = pick_refused;
              done = pick_done;
              meets = λ e. let p = w.plan_there e in (p.0, (h.general.meets_iff_made (pick_left a m choice words) p.0).1 (choice, w.count_right e ∙ sym (length-map s.moves (map a.means)), p.1));
              is_made = λ e. (w.plan_there e).1;
              kept = w.kept;
            },
            refl,
          );
          sound = λ h. h;
          spare = λ h. h;
        }

-- once the answer and the words left are those of the picking
pub pick_keeps : {N C : Type 0} (a : Arithmetic N C) (laws : Laws a) (m : Model C) → m.moves ≤ m.unknowns → HasCells m.unknowns m.cells → (choice words : List ℤ) →
    (pick_refusal a m choice (length words) ≡ None → AllByRecursion (SFits w32) choice) → (r : Result Unit SheetFault) (plan : List ℤ) → r ≡ pick_answer a m choice words → plan ≡ pick_left a m choice words →
    (page : PageModel) → CallLaw a m (picking choice) (memory words page) (plain_answer r) m (memory plan page)
pick_keeps a laws m few room choice words fit r plan p q page =
    subst₂ (λ (r : Result Unit SheetFault) (plan : List ℤ). CallLaw a m (picking choice) (memory words page) (plain_answer r) m (memory plan page)) (sym p) (sym q) (pick_law a laws m few room choice words fit page)
