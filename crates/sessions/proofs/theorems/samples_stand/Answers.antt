-- `samples_stand`: the theorems that it carries.
use Rattle.std.proofs.Common.{◌≡◌, List, [], ◌∷◌, length, get_or, replicate, ℕ, ℤ, pos, negsuc, ◌+ℤ◌, ◌*ℤ◌, Ok, Err, refl, ap, sym, ◌∙◌, arith, w32, SFits}
use Rattle.std.specs.List.{AllByRecursion}
use borrow.Author.Differences.{ints}
use Rattle.kinds.specs.Equation.{Equation}
use Rattle.kinds.specs.Whole.{wholes}
use Rattle.kinds.specs.Wholes.{whole_laws, equal}
use Rattle.plans.specs.Solution.{SameLists, ended, also, made}
use Rattle.plans.proofs.SameLists.{lists_eq, lists_head}
use Rattle.lines.specs.Page.{empty_page}
use Rattle.sheets.specs.Answers.{Answer}
use Rattle.sheets.specs.Calls.{picking, memory}
use Rattle.sheets.specs.Law.{StandsFor}
use Rattle.sheets.specs.declared.call.Success.TheVariants.{Done}
use Rattle.sheets.proofs.NewSheets.{open_law}
use Rattle.sheets.proofs.PostLaws.{post_law}
use Rattle.sessions.specs.Frames.{placed_result}
use Rattle.sessions.specs.Law.{RightlyCalled}
use Rattle.sessions.specs.Requests.{plan_text, picked_text}
use Rattle.sheets.specs.SampleCalls.{fresh, after_one}
use Rattle.sessions.specs.Samples.{picks_two}
use Rattle.sessions.specs.Session.{on_whole}
use Rattle.sessions.proofs.Lawful.{line_law}
use Rattle.sessions.proofs.Thirteen.{never_thirteen}
use Rattle.sessions.proofs.theorems.samples_stand.Goals as goal

-- 3x + 5y = 1
abbrev equation_one : Equation
equation_one = record { coefficients = pos 3 ∷ (pos 5 ∷ []); right = pos 1 }

-- the plan (0, 0) fails it
abbrev zeroes : List ℤ
zeroes = pos 0 ∷ (pos 0 ∷ [])

fresh_stands : StandsFor wholes fresh []
fresh_stands = open_law wholes whole_laws (pos 2) (pos 1) (replicate 15 (record { value = pos 0 }))

-- and a new sheet makes it
not_in_force : ¬ StandsFor wholes fresh (equation_one ∷ [])
not_in_force h = let e : pos 0 ≡ pos 1 = equal ((h.general.meets_iff_made zeroes refl).1 (zeroes, refl, lists_eq refl)).0 in cc

-- what the sheet that took the equation stands for
after_stands : StandsFor wholes after_one (equation_one ∷ [])
after_stands =
    let ws : List ℤ = pos 3 ∷ (pos 5 ∷ (pos 1 ∷ [])) in
    let fit : AllByRecursion (SFits w32) ws = (record { sfits = omega arith }, (record { sfits = omega arith }, (record { sfits = omega arith }, tt))) in
    (post_law wholes whole_laws fresh (omega arith) (λ _. omega arith) ws (λ _. fit) (memory [] (empty_page []))).in_force [] fresh_stands

-- it does not make (0, 0)
not_made : (y : List ℤ) → length y ≡ 1 → ¬ SameLists 0 zeroes (made (negsuc 2 ∷ (pos 2 ∷ [])) ((negsuc 4 ∷ (pos 3 ∷ [])) ∷ []) y)
not_made [] l h = absurd (omega arith)
not_made (t ∷ y) l h = let e : pos 0 ≡ negsuc 2 +ℤ t *ℤ negsuc 4 = equal (lists_head h) in absurd (omega (arith, ints))

not_empty : ¬ StandsFor wholes after_one []
not_empty h = let y = (h.general.meets_iff_made zeroes refl).0 tt in not_made y.0 y.1 y.2

lists_equal : {u v : List ℤ} → SameLists 0 u v → u ≡ v
lists_equal ended = refl
lists_equal (also h t) = let e = equal h in let f = lists_equal t in cc

-- an answer that is done in its line is done
placed_done : (r : Answer) → Ok Done ≡ placed_result r → r ≡ Ok Done
placed_done (Ok success) e = sym e
placed_done (Err fault) e = absurd cc

-- the text behind the picking of the choice 2
text_is : (text : List ℕ) → RightlyCalled wholes after_one (equation_one ∷ []) (picking (pos 2 ∷ [])) (Ok Done) text → text ≡ plan_text (negsuc 12 ∷ (pos 8 ∷ []))
text_is text r =
    let done = placed_done r.direct r.answer in
    r.behind ∙ ap (λ (x : Answer). picked_text x r.left.words) done ∙ ap plan_text (lists_equal (r.rightly.0.is_made done))

pub returns-clause-enough_cells : goal.returns-clause-enough_cells
returns-clause-enough_cells c = record { largest = refl; never = never_thirteen }

pub returns-clause-no_pretending : goal.returns-clause-no_pretending
returns-clause-no_pretending c = record {
  not_taken = λ h. not_in_force ((h.read refl).in_force [] fresh_stands);
  unknowns_lost = λ h. let e : 0 ≡ 2 = ((h.read refl).kept (λ o. let z = o.0 in cc)).1 in cc;
  not_cleared = λ h. not_empty ((h.read refl).in_force (equation_one ∷ []) after_stands);
  other_unknowns = λ h. let e : pos 2 ≡ pos 1 = ((h.read refl).opened (refl, refl)).unknowns in cc;
  plan_behind = line_law (on_whole after_one []) picks_two (omega arith, λ _. omega arith) (λ e. absurd cc);
  move_skipped = λ h.
      let e = text_is _ ((h.read refl).rightly (equation_one ∷ []) after_stands) in
      let eleventh : ◌≡◌ {A = ℕ} 68 51 = ap (λ (cs : List ℕ). get_or cs 11 0) e in
      omega arith;
}
