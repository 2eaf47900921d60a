-- What the promise of a run accepts and refuses, of sheets of two unknowns.
use Rattle.std.proofs.Common.{◌≡◌, ℕ, List, [], ◌∷◌, ◌++◌, map, get_or, ℤ, pos, negsuc, Ok, Err, refl, ap, subst, arith, lit<, w32, SFits}
use Rattle.std.proofs.lemmas.Int.{ints}
use Rattle.std.specs.List.{AllByRecursion}
use Rattle.faults.specs.declared.PageFault.TheVariants.{NoRoom}
use Rattle.faults.specs.declared.SheetFault.TheVariants.{Page}
use Rattle.kinds.specs.Sames.{same_eq}
use Rattle.kinds.specs.Whole.{wholes}
use Rattle.kinds.specs.Wholes.{equal, whole_laws}
use Rattle.kinds.specs.declared.whole.WholeCell.{WholeCell}
use Rattle.lines.specs.Page.{Model as PageModel}
use Rattle.plans.specs.SampleSolutions.{pair}
use Rattle.plans.proofs.SameLists.{lists_head}
use Rattle.plans.proofs.SampleSolutions.{no_double, not_pretended, not_one_kept}
use Rattle.sheets.specs.declared.call.Success.TheVariants.{Done}
use Rattle.sheets.specs.Answers.{Answer}
use Rattle.sheets.specs.Calls.{SheetCall, posting, Memory}
use Rattle.sheets.specs.Cells.{needed, zero_cells}
use Rattle.sheets.specs.Law.{Rightly}
use Rattle.sheets.specs.SampleCalls.{fresh, after_one}
use Rattle.sheets.specs.SampleSheets.{one_words}
use Rattle.sheets.specs.Sheet.{Model, contents_of}
use Rattle.sheets.proofs.NewSheets.{open_sound, open_spare}
use Rattle.sheets.proofs.OneRight.{one_right}
use Rattle.sheets.proofs.SampleCalls.{fresh_stands, other_number, row_fits, far_fits}
use Rattle.runs.specs.Promise.{in_force, sheet_behind, Promise}
use Rattle.runs.specs.Run.{CallMade, run_of, sheet_left}
use Rattle.runs.specs.SampleRuns.{call_made, one_call, four_calls, two_calls, show_made, calls_picked, two_picked, calls_shown, shown_to, zero_page, RunSamples}
use Rattle.runs.proofs.Kept.{Keeps, run_promised}
use Rattle.runs.proofs.Lawful.{CallFits, Ready, calls_lawful}

begins : Keeps wholes 2 [] fresh
begins = record {
  unknowns = refl;
  stands = fresh_stands;
  sound = open_sound wholes whole_laws (pos 2) (pos 1) (zero_cells wholes (needed 2));
  spare = open_spare wholes whole_laws (pos 2) (pos 1) (zero_cells wholes (needed 2));
}

ready : Ready fresh
ready = record { few = omega arith; room = λ _. omega arith }

-- what the calls brought, each with the memory that was lent to it
abbrev lent_of : List CallMade → List (SheetCall × Memory)
lent_of = map (λ c. (c.call, c.lent))

-- the promise, of calls on the new sheet that are answered as they should be
promised : (calls : List CallMade) → AllByRecursion (λ r. CallFits r.0) (lent_of calls) → Promise wholes fresh (run_of wholes fresh (lent_of calls)) (sheet_left wholes fresh (map (λ r. r.0) (lent_of calls)))
promised calls fits = run_promised wholes fresh (lent_of calls) (calls_lawful wholes whole_laws fresh (lent_of calls) ready fits) begins

one_fits : AllByRecursion (SFits w32) one_words
one_fits = row_fits 3 5 1 (lit< tt) (lit< tt) (lit< tt)

two_fits : AllByRecursion (SFits w32) (pos 2 ∷ [])
two_fits = (record { sfits = lit< tt }, tt)

kept : Promise wholes fresh (one_call (Ok Done)) after_one
kept = promised (one_call (Ok Done)) (one_fits, tt)

-- a call of a run that keeps the promise is rightly answered, by the two unknowns of the new sheet
rightly : (calls : List CallMade) (m : Model WholeCell) → Promise wholes fresh calls m → (before behind : List CallMade) (c : CallMade) → calls ≡ before ++ (c ∷ behind) →
    Rightly wholes 2 (in_force 2 before) (contents_of wholes (sheet_behind wholes fresh before)) c.call c.lent c.answer c.left
rightly calls m p before behind c e =
    subst (λ (n : ℕ). Rightly wholes n (in_force n before) (contents_of wholes (sheet_behind wholes fresh before)) c.call c.lent c.answer c.left) p.unknowns (p.rightly before behind c e)

-- the one answer of the posting is right, whatever sheet is left
one_answer : (r : Answer) (m : Model WholeCell) → Promise wholes fresh (one_call r) m → r ≡ Ok Done
one_answer r m p =
    (one_right wholes).posted 2 [] (contents_of wholes fresh) one_words r (Ok Done)
    (rightly (one_call r) m p [] [] (call_made (posting one_words) r) refl).0
    (rightly (one_call (Ok Done)) after_one kept [] [] (call_made (posting one_words) (Ok Done)) refl).0

pub runs : RunSamples
runs = record {
  kept = kept;
  four_kept = promised four_calls (one_fits, (row_fits 6 10 2 (lit< tt) (lit< tt) (lit< tt), (row_fits 6 10 3 (lit< tt) (lit< tt) (lit< tt), (tt, tt))));
  overflow_kept = promised two_calls (far_fits, (row_fits 1 1 0 (lit< tt) (lit< tt) (lit< tt), tt));
  plan_there = (same_eq refl, (same_eq refl, tt));
  one_answer = one_answer;
  doubled = λ p. no_double p.general.general;
  pretended = λ p. not_pretended p.general.general;
  unknowns_lost = λ p. let e : ◌≡◌ {A = ℕ} 0 2 = p.unknowns in absurd cc;
  one_kept = λ p. not_one_kept p.general.general;
  picked_kept = promised (calls_picked (pos 2 ∷ []) (Ok Done) (pair (negsuc 12) (pos 8))) (one_fits, (two_fits, tt));
  two_kept = promised two_picked (one_fits, (two_fits, (two_fits, tt)));
  move_skipped = λ m p. other_number (equal (lists_head ((rightly _ m p (one_call (Ok Done)) [] _ refl).0.is_made refl)));
  no_plan = λ m p. let e : pos 0 ≡ pos 1 = equal ((rightly _ m p (one_call (Ok Done)) [] _ refl).0.meets refl).1.0 in omega (arith, ints);
  words_changed = λ m p. let e = ap (λ (ws : List ℤ). get_or ws 0 (pos 0)) ((rightly _ m p (one_call (Ok Done)) [] _ refl).0.kept (λ e. absurd cc)) in omega (arith, ints);
  shown_kept = promised (calls_shown (shown_to (zero_page 50))) (one_fits, (tt, (tt, (tt, tt))));
  nothing_shown = λ m p.
      let posted = call_made (posting one_words) (Ok Done) in
      let before = posted ∷ (show_made (zero_page 42) (Ok Done) (shown_to (zero_page 42)) ∷ (show_made (zero_page 41) (Err (Page NoRoom)) (zero_page 41) ∷ [])) in
      let e : ◌≡◌ {A = ℕ} 0 42 = ap (λ (page : PageModel). page.end) ((rightly _ m p before [] _ refl).0.shown refl) in
      absurd cc;
}
