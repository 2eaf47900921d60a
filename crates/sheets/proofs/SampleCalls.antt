-- What the laws of single calls accept and refuse, of sheets of two unknowns.
use Rattle.std.proofs.Common.{◌≡◌, ℕ, ◌<◌, List, [], ◌∷◌, get_or, ℤ, pos, negsuc, Some, None, Ok, Err, Option, refl, ap, arith, lit<, w32, SFits}
use Rattle.std.proofs.lemmas.Int.{ints}
use Rattle.std.specs.List.{AllByRecursion}
use Rattle.faults.specs.declared.SheetFault.TheVariants.{Overflow}
use Rattle.kinds.specs.Equation.{equation_of}
use Rattle.kinds.specs.Whole.{wholes}
use Rattle.kinds.specs.Wholes.{equal, whole_laws}
use Rattle.kinds.specs.declared.whole.Whole.{Whole}
use Rattle.kinds.specs.declared.whole.WholeCell.{WholeCell}
use Rattle.lines.specs.Page.{Model as PageModel, empty_page}
use Rattle.plans.specs.SampleSolutions.{pair, sum_one}
use Rattle.plans.proofs.SameLists.{lists_head}
use Rattle.plans.proofs.SampleSolutions.{not_pretended, not_one_kept, not_cleared}
use Rattle.sheets.specs.declared.call.Success.TheVariants.{Done}
use Rattle.sheets.specs.Answers.{Answer}
use Rattle.sheets.specs.Cells.{needed, zero_cells}
use Rattle.sheets.specs.Law.{StandsFor, Passes}
use Rattle.sheets.specs.SampleSheets.{one_words, far_words}
use Rattle.sheets.specs.SampleCalls.{fresh, after_one, after_far, near_words, no_memory, RightlyPostedOne, RightlyPostedNear, PostingLaw, CallSamples}
use Rattle.sheets.proofs.ClearLaws.{clear_law}
use Rattle.sheets.proofs.NewSheets.{open_law, open_sound, open_spare}
use Rattle.sheets.proofs.OneRight.{one_right}
use Rattle.sheets.proofs.PickLaws.{pick_law}
use Rattle.sheets.proofs.PostLaws.{post_law}

pub fresh_stands : StandsFor wholes fresh []
fresh_stands = open_law wholes whole_laws (pos 2) (pos 1) (zero_cells wholes (needed 2))

two_is_some : ¬ ◌≡◌ {A = ℕ} 2 0
two_is_some e = omega arith

lowest_fails : ¬ Passes wholes (record { value = negsuc 2147483647 })
lowest_fails p = let e : ◌≡◌ {A = Option Whole} None (Some p.0) = p.1 in absurd cc

pub other_number : ¬ (negsuc 2 ≡ negsuc 12)
other_number e = omega (arith, ints)

small_fits : (n : ℕ) → n < 100 → SFits w32 (pos n)
small_fits n h = record { sfits = omega arith }

pub row_fits : (x y z : ℕ) → x < 100 → y < 100 → z < 100 → AllByRecursion (SFits w32) (pos x ∷ (pos y ∷ (pos z ∷ [])))
row_fits x y z h k l = (small_fits x h, (small_fits y k, (small_fits z l, tt)))

pub far_fits : AllByRecursion (SFits w32) far_words
far_fits = (small_fits 1 (lit< tt), (record { sfits = lit< tt }, (small_fits 0 (lit< tt), tt)))

posted : PostingLaw (Ok Done) after_one
posted = post_law wholes whole_laws fresh (omega arith) (λ _. omega arith) one_words (λ _. row_fits 3 5 1 (lit< tt) (lit< tt) (lit< tt)) no_memory

one_stands : StandsFor wholes after_one (sum_one ∷ [])
one_stands = posted.in_force [] fresh_stands

far_stands : StandsFor wholes after_far (equation_of 2 far_words ∷ [])
far_stands = (post_law wholes whole_laws fresh (omega arith) (λ _. omega arith) far_words (λ _. far_fits) no_memory).in_force [] fresh_stands

rightly_one : RightlyPostedOne (Ok Done)
rightly_one = (posted.rightly [] fresh_stands).0

rightly_near : RightlyPostedNear (Err Overflow)
rightly_near = ((post_law wholes whole_laws after_far (omega arith) (λ _. omega arith) near_words (λ _. row_fits 1 1 0 (lit< tt) (lit< tt) (lit< tt)) no_memory).rightly (equation_of 2 far_words ∷ []) far_stands).0

-- no other answer than the right one is right
only_one : (r : Answer) → RightlyPostedOne r → r ≡ Ok Done
only_one r h = (one_right wholes).posted 2 [] _ one_words r (Ok Done) h rightly_one

only_near : (r : Answer) → RightlyPostedNear r → r ≡ Err Overflow
only_near r h = (one_right wholes).posted 2 (equation_of 2 far_words ∷ []) _ near_words r (Err Overflow) h rightly_near

pub calls : CallSamples
calls = record {
  stands = fresh_stands;
  stands_not = λ h. not_pretended h.general;
  sound = open_sound wholes whole_laws (pos 2) (pos 1) (zero_cells wholes (needed 2));
  bad_cell = λ h. lowest_fails (h two_is_some).1.0;
  few_cells = λ h. let p = (h two_is_some).0 in omega arith;
  spare = open_spare wholes whole_laws (pos 2) (pos 1) (zero_cells wholes (needed 2));
  spare_not = λ h. let e = ap (λ (cs : List WholeCell). (get_or cs 8 (record { value = pos 0 })).value) (h two_is_some) in omega (arith, ints);
  posted = posted;
  pretended = λ h. not_pretended (h.in_force [] fresh_stands).general;
  called_implied = λ h. let e = only_one _ h in cc;
  called_contradicted = λ h. let e = only_one _ h in cc;
  called_overflow = λ h. let e = only_one _ h in cc;
  overflow = rightly_near;
  overflow_taken = λ h. let e = only_near _ h in cc;
  overflow_implied = λ h. let e = only_near _ h in cc;
  cleared = clear_law wholes whole_laws after_one (λ _. omega arith) no_memory;
  one_kept = λ h. not_one_kept (h.in_force [] fresh_stands).general;
  not_cleared = λ h. not_cleared (h.in_force (sum_one ∷ []) one_stands).general;
  picked = pick_law wholes whole_laws after_one (omega arith) (λ _. omega arith) (pos 2 ∷ []) (pair (pos 0) (pos 0)) (λ _. (small_fits 2 (lit< tt), tt)) (empty_page []);
  move_skipped = λ h. other_number (equal (lists_head ((h.rightly (sum_one ∷ []) one_stands).0.is_made refl)));
  pick_refused = pick_law wholes whole_laws after_one (omega arith) (λ _. omega arith) [] (pair (pos 0) (pos 0)) (λ _. tt) (empty_page []);
  refused_writes = λ h. let e = ap (λ (ws : List ℤ). get_or ws 0 (pos 0)) ((h.rightly (sum_one ∷ []) one_stands).0.kept (λ e. absurd cc)) in omega (arith, ints);
  nothing_shown = λ h. let e = ap (λ (p : PageModel). p.end) ((h.rightly [] fresh_stands).0.shown refl) in omega arith;
  refused_shows = λ h. let e = ap (λ (p : PageModel). get_or p.bytes 0 0) ((h.rightly [] fresh_stands).0.kept (λ e. absurd cc)) in omega arith;
  checks = refl;
  resume_few = refl;
  few_left = refl;
  resume_enough = refl;
  fresh_again = refl;
}
