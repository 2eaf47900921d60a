-- A posting keeps to its law.
use Rattle.std.proofs.Common.{◌≡◌, ℕ, ◌+◌, ◌-◌, ◌<◌, ◌≤◌, Bool, true, false, eqb, ◌↔◌, List, ◌∷◌, ◌++◌, length, get_or, take, drop, ℤ, pos, Some, None, Err, Option, sym, refl, ◌∙◌, subst, subst₂, arith, w32, SFits}
use Rattle.std.specs.List.{AllByRecursion}
use Rattle.std.proofs.ByRecursion.{All-get_or, All-take}
use Rattle.std.proofs.lemmas.List.{length-take-le, take_at, take-take}
use Rattle.std.proofs.lemmas.Bool.{eqb-true, eqb-false}
use Rattle.faults.specs.Refusing.{left_unless}
use Rattle.faults.specs.declared.SheetFault.{SheetFault}
use Rattle.faults.specs.declared.SheetFault.TheVariants.{Overflow}
use Rattle.kinds.specs.Kind.{Arithmetic, Laws, Admitted}
use Rattle.kinds.specs.Equation.{Equation, equation_of}
use Rattle.plans.specs.Posting.{Outcome, taken, implied, contradicted, overflow}
use Rattle.plans.specs.Promised.{Right}
use Rattle.plans.specs.Sheet.{Contents}
use Rattle.plans.specs.Solution.{Judgement, is_taken, is_implied, is_contradicted, Verdict as Judged, Holds}
use Rattle.plans.proofs.Lacking.{only_products}
use Rattle.plans.proofs.Rightness.{posting_exact_lem}
use Rattle.plans.proofs.Sizes.{Measured, Leaves, posted_leaves}
use Rattle.sheets.specs.Cells.{main_cells, spare_cells, needed, HasCells, zero_cells, contents_in}
use Rattle.sheets.specs.Answers.{Answer, verdict_answer}
use Rattle.sheets.specs.Calls.{posting, Memory, in_force_after}
use Rattle.sheets.specs.Law.{GoesThrough, StandsFor, Passes, Sound, SpareZero, PostingLacks, PostingRefused, RightlyPosted, CallLaw}
use Rattle.sheets.specs.Posted.{answer_of, main_after}
use Rattle.sheets.specs.Sheet.{Model, contents_of, post_refusal, outcome_of, left_by, answer_unless, post_answer, post_left}
use Rattle.sheets.specs.Words.{number_of, numbers_of}
use Rattle.sheets.proofs.Meanings.{number_means, numbers_mean}
use Rattle.sheets.proofs.Reading.{contents_front, contents_measured, length_main, reads_back}
use Rattle.sheets.proofs.Refusals.{answer_or, Unrefused, Unhindered, unhindered, refused_rightly, goes_on}
use Rattle.sheets.proofs.NewSheets.{laid_length, laid_room, laid_spare, main_passes, laid_passes}

module _ {N C : Type 0} (a : Arithmetic N C) (laws : Laws a) where
  -- a posting
  module _ (m : Model C) (few : m.moves ≤ m.unknowns) (room : HasCells m.unknowns m.cells) (ws : List ℤ) where
    abbrev n : ℕ
    n = m.unknowns

    abbrev e : Equation
    e = equation_of n ws

    abbrev s : Contents N
    s = contents_of a m

    module _ (enough : needed n ≤ length m.cells) where
      kept_front : (rest : List C) → take (main_cells n) (take (main_cells n) m.cells ++ rest) ≡ take (main_cells n) m.cells
      kept_front rest = take_at (take (main_cells n) m.cells) rest (main_cells n) (length-take-le (main_cells n) m.cells (omega arith))

      kept_same : contents_in a n m.moves (take (main_cells n) m.cells ++ (zero_cells a (spare_cells n) ++ drop (needed n) m.cells)) ≡ s
      kept_same = contents_front a n m.moves m.cells (take (main_cells n) m.cells ++ (zero_cells a (spare_cells n) ++ drop (needed n) m.cells)) few (kept_front (zero_cells a (spare_cells n) ++ drop (needed n) m.cells))

      measured_less : (t : Contents N) → Leaves n m.moves (taken t) → Measured n (m.moves - 1) t
      measured_less t (j, q, h) = record { fixed_length = h.fixed_length; moves_length = h.moves_length; many = h.many ∙ omega arith }

      length_after : (o : Outcome N) → Leaves n m.moves o → length (main_after a o n m.cells) ≡ main_cells n
      length_after (taken t) h = length_main a n (m.moves - 1) t (measured_less t h) (omega arith)
      length_after implied h = length-take-le (main_cells n) m.cells (omega arith)
      length_after contradicted h = length-take-le (main_cells n) m.cells (omega arith)
      length_after overflow h = length-take-le (main_cells n) m.cells (omega arith)

      stays : (es : List Equation) → StandsFor a m es → Holds a n es (contents_in a n m.moves (take (main_cells n) m.cells ++ (zero_cells a (spare_cells n) ++ drop (needed n) m.cells)))
      stays es h = subst (Holds a n es) (sym kept_same) h

      -- what is then in force
      outcome_stands : (o : Outcome N) → Leaves n m.moves o → (es : List Equation) → StandsFor a m es → Right a n es e s o → StandsFor a (left_by a m o) (in_force_after n (posting ws) (answer_of o) es)
      outcome_stands (taken t) h es k r = subst (Holds a n (e ∷ es)) (sym (reads_back a n (m.moves - 1) t (measured_less t h) (omega arith) laws m.cells)) r.holds
      outcome_stands implied h es k r = stays es k
      outcome_stands contradicted h es k r = stays es k
      outcome_stands overflow h es k r = stays es k

      kept_passes : AllByRecursion (Passes a) (take (needed n) m.cells) → AllByRecursion (Passes a) (take (main_cells n) m.cells)
      kept_passes h = subst (AllByRecursion (Passes a)) (take-take (main_cells n) (needed n) m.cells (omega arith)) (All-take (Passes a) (main_cells n) (take (needed n) m.cells) h)

      main_after_passes : (o : Outcome N) → AllByRecursion (Passes a) (take (needed n) m.cells) → AllByRecursion (Passes a) (main_after a o n m.cells)
      main_after_passes (taken t) h = main_passes a laws n t
      main_after_passes implied h = kept_passes h
      main_after_passes contradicted h = kept_passes h
      main_after_passes overflow h = kept_passes h

      outcome_sound : (o : Outcome N) → Leaves n m.moves o → Sound a m → Sound a (left_by a m o)
      outcome_sound o l h some =
          let M = main_after a o n m.cells in
          (laid_room a n M m.cells (length_after o l) enough, laid_passes a laws n M m.cells (length_after o l) enough (main_after_passes o (h some).1))

      outcome_spare : (o : Outcome N) → Leaves n m.moves o → SpareZero a (left_by a m o)
      outcome_spare o l some = laid_spare a n (main_after a o n m.cells) m.cells (length_after o l) enough

      -- as many cells are left
      pub outcome_cells : (o : Outcome N) → Leaves n m.moves o → length (left_by a m o).cells ≡ length m.cells
      outcome_cells o l = laid_length a n (main_after a o n m.cells) m.cells (length_after o l) enough

    abbrev counted : Bool
    counted = eqb (length ws) (n + 1)

    abbrev Counted : Type 0
    Counted = length ws ≡ n + 1

    is_counted : counted ≡ true → Counted
    is_counted = eqb-true (length ws) (n + 1)

    not_counted : counted ≡ false → ¬ Counted
    not_counted = eqb-false (length ws) (n + 1)

    abbrev Postable : Type 0
    Postable = Unhindered a m ws counted Counted is_counted not_counted

    postable : post_refusal a m ws ≡ None → Postable
    postable = unhindered a m ws counted Counted is_counted not_counted

    leaves : needed n ≤ length m.cells → Leaves n m.moves (outcome_of a m ws)
    leaves enough = posted_leaves a laws n m.moves s (contents_measured a n m.moves m.cells few (omega arith)) (numbers_of a (take n ws)) (number_of a (get_or ws n (pos 0)))

    right : Postable → AllByRecursion (SFits w32) ws → (es : List Equation) → StandsFor a m es → Right a n es e s (outcome_of a m ws)
    right p f es h =
        let c = p.count in
        let i : n < length ws = omega arith in
        posting_exact_lem a laws n es s h e (length-take-le n ws (omega arith)) (numbers_of a (take n ws)) (number_of a (get_or ws n (pos 0)))
        (numbers_mean a laws (take n ws) (All-take (SFits w32) n ws f) (All-take (Admitted a) n ws p.all))
        (number_means a laws (get_or ws n (pos 0)) (All-get_or (SFits w32) ws n (pos 0) i f) (All-get_or (Admitted a) ws n (pos 0) i p.all))

    -- an outcome is no refusal of words, and an overflow exactly where an add-product gives none
    unrefused : (o : Outcome N) → (o ≡ overflow) ↔ PostingLacks a n s ws → Unrefused (PostingLacks a n s ws) (answer_of o)
    unrefused (taken t) k = record { has_unknowns = λ e. cc; right_count = λ e. cc; words_admitted = λ i e. cc; overflow = (λ e. absurd cc, λ l. absurd (let z = k.1 l in cc)) }
    unrefused implied k = record { has_unknowns = λ e. cc; right_count = λ e. cc; words_admitted = λ i e. cc; overflow = (λ e. absurd cc, λ l. absurd (let z = k.1 l in cc)) }
    unrefused contradicted k = record { has_unknowns = λ e. cc; right_count = λ e. cc; words_admitted = λ i e. cc; overflow = (λ e. absurd cc, λ l. absurd (let z = k.1 l in cc)) }
    unrefused overflow k = record { has_unknowns = λ e. cc; right_count = λ e. cc; words_admitted = λ i e. cc; overflow = (λ e. k.0 refl, λ l. refl) }

    -- what an outcome says of the equation
    judges : (es : List Equation) (o : Outcome N) → Right a n es e s o → ¬ (answer_of o ≡ Err Overflow) → (j : Judgement) × (answer_of o ≡ verdict_answer j) × Judged a.modulus n es e j
    judges es (taken t) r k = (is_taken, refl, r.verdict)
    judges es implied r k = (is_implied, refl, r)
    judges es contradicted r k = (is_contradicted, refl, r)
    judges es overflow r k = absurd (k refl)

    abbrev out : Outcome N
    out = outcome_of a m ws

    post_refused : PostingRefused a n s ws (answer_or (post_refusal a m ws) (answer_of out))
    post_refused = refused_rightly a m ws counted Counted is_counted not_counted (PostingLacks a n s ws) (answer_of out)
        (λ _. unrefused out ((only_products a laws).overflows s (numbers_of a (take n ws)) (number_of a (get_or ws n (pos 0)))))

    post_judged : (post_refusal a m ws ≡ None → AllByRecursion (SFits w32) ws) → (es : List Equation) → StandsFor a m es → GoesThrough (answer_or (post_refusal a m ws) (answer_of out)) →
        (j : Judgement) × (answer_or (post_refusal a m ws) (answer_of out) ≡ verdict_answer j) × Judged a.modulus n es e j
    post_judged fit es h g =
        goes_on a m ws counted Counted is_counted not_counted
        (λ r. ¬ (r ≡ Err Overflow) → (j : Judgement) × (r ≡ verdict_answer j) × Judged a.modulus n es e j)
        (answer_of out) (λ q. judges es out (right (postable q) (fit q) es h)) g.has_unknowns g.right_count g.words_admitted g.no_overflow

    same_answer : (o : Option SheetFault) → answer_or o (answer_of out) ≡ answer_unless a o out
    same_answer (Some fault) = refl
    same_answer None = refl

    post_stands : (post_refusal a m ws ≡ None → AllByRecursion (SFits w32) ws) → (es : List Equation) → StandsFor a m es → StandsFor a (post_left a m ws) (in_force_after n (posting ws) (post_answer a m ws) es)
    post_stands fit es h = by (post_refusal a m ws) refl
      where
        by : (o : Option SheetFault) → post_refusal a m ws ≡ o → StandsFor a (left_unless o m (left_by a m out)) (in_force_after n (posting ws) (answer_unless a o out) es)
        by (Some fault) q = h
        by None q = let p = postable q in let enough = room p.some in outcome_stands enough out (leaves enough) es h (right p (fit q) es h)

    post_unknowns : (post_left a m ws).unknowns ≡ n
    post_unknowns = by (post_refusal a m ws)
      where
        by : (o : Option SheetFault) → (left_unless o m (left_by a m out)).unknowns ≡ n
        by (Some fault) = refl
        by None = refl

    post_list : (post_left a m ws).list ≡ m.list
    post_list = by (post_refusal a m ws)
      where
        by : (o : Option SheetFault) → (left_unless o m (left_by a m out)).list ≡ m.list
        by (Some fault) = refl
        by None = refl

    post_sound : Sound a m → Sound a (post_left a m ws)
    post_sound h = by (post_refusal a m ws) refl
      where
        by : (o : Option SheetFault) → post_refusal a m ws ≡ o → Sound a (left_unless o m (left_by a m out))
        by (Some fault) q = h
        by None q = let enough = room (postable q).some in outcome_sound enough out (leaves enough) h

    -- a posting that touches a cell leaves the spare ones at zero
    pub post_wipes : post_refusal a m ws ≡ None → SpareZero a (post_left a m ws)
    post_wipes q =
        let enough = room (postable q).some in
        subst (λ (o : Option SheetFault). SpareZero a (left_unless o m (left_by a m out))) (sym q) (outcome_spare enough out (leaves enough))

    post_spare : SpareZero a m → SpareZero a (post_left a m ws)
    post_spare h = by (post_refusal a m ws) refl
      where
        by : (o : Option SheetFault) → post_refusal a m ws ≡ o → SpareZero a (left_unless o m (left_by a m out))
        by (Some fault) q = h
        by None q = let enough = room (postable q).some in outcome_spare enough out (leaves enough)

    pub post_cells : length (post_left a m ws).cells ≡ length m.cells
    post_cells = by (post_refusal a m ws) refl
      where
        by : (o : Option SheetFault) → post_refusal a m ws ≡ o → length (left_unless o m (left_by a m out)).cells ≡ length m.cells
        by (Some fault) q = refl
        by None q = let enough = room (postable q).some in outcome_cells enough out (leaves enough)

    pub post_refusals : PostingRefused a n s ws (post_answer a m ws)
    post_refusals = subst (PostingRefused a n s ws) (same_answer (post_refusal a m ws)) post_refused

    pub post_law : (post_refusal a m ws ≡ None → AllByRecursion (SFits w32) ws) → (lent : Memory) → CallLaw a m (posting ws) lent (post_answer a m ws) (post_left a m ws) lent
    post_law fit lent = record {
      unknowns = post_unknowns;
      in_force = post_stands fit;
      list = post_list;
      rightly = λ es h.
          (subst (RightlyPosted a n es s ws) (same_answer (post_refusal a m ws)) (record { refused = post_refused; verdict = post_judged fit es h }), refl);
      sound = post_sound;
      spare = post_spare;
    }

-- what an answer and the sheet left come with, once they are those of the posting
pub record PostKeeps {N C : Type 0} (a : Arithmetic N C) (m : Model C) (ws : List ℤ) (r : Answer) (after : Model C) : Type 0 where
  pub refusals : PostingRefused a m.unknowns (contents_of a m) ws r
  pub law : (lent : Memory) → CallLaw a m (posting ws) lent r after lent
  pub wiped : post_refusal a m ws ≡ None → SpareZero a after

pub post_keeps : {N C : Type 0} (a : Arithmetic N C) (laws : Laws a) (m : Model C) → m.moves ≤ m.unknowns → HasCells m.unknowns m.cells → (ws : List ℤ) →
    (post_refusal a m ws ≡ None → AllByRecursion (SFits w32) ws) → (r : Answer) (after : Model C) → r ≡ post_answer a m ws → after ≡ post_left a m ws → PostKeeps a m ws r after
post_keeps a laws m few room ws fit r after e f =
    subst₂ (PostKeeps a m ws) (sym e) (sym f) (record { refusals = post_refusals a laws m few room ws; law = post_law a laws m few room ws fit; wiped = post_wipes a laws m few room ws })
