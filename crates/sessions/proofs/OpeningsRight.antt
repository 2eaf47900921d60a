-- An opening is rightly answered, where a session has the cells of the largest sheet.
use Rattle.std.proofs.Common.{◌≡◌, ℕ, Bool, true, false, cond, eqb, ltb, List, length, ℤ, Some, None, Ok, Err, Option, Result, sym, refl, ◌∙◌, arith}
use Rattle.std.proofs.lemmas.Bool.{le-ltb, eqb-true, eqb-false}
use Rattle.faults.specs.declared.LineFault.TheVariants.{Count as LineCount}
use Rattle.faults.specs.declared.NumberFault.TheVariants.{Unknowns, ListNumber}
use Rattle.faults.specs.declared.SheetFault.{SheetFault}
use Rattle.faults.specs.declared.SheetFault.TheVariants.{Line, Number, FewCells}
use Rattle.sheets.specs.Cells.{needed}
use Rattle.sheets.specs.Sheet.{in_range, natural, most_unknowns, last_list, done}
use Rattle.sessions.specs.Frames.{kind_of, placed_result}
use Rattle.sessions.specs.Law.{RightlyOpened}
use Rattle.sessions.specs.Session.{View, session_cells, whole_cells, weekday_cells, word, chosen_unless, open_by, open_check, open_answer}
use Rattle.sessions.specs.declared.frame.Chosen.{Chosen}
use Rattle.sessions.specs.declared.frame.Chosen.TheVariants.{Whole, Weekday}
use Rattle.sessions.proofs.Fitting.{needed_few, few_unknowns}

-- a session has the cells that any opening needs
pub record FullCells (v : View) : Type 0 where
  pub whole : length (whole_cells v) ≡ session_cells
  pub weekday : length (weekday_cells v) ≡ session_cells

-- what an opening of a kind asks for, by its tests
abbrev asked_by : ℤ → ℤ → Bool → Bool → Bool → Result (ℕ × ℕ) SheetFault
asked_by u l x y z = cond x (cond y (cond z (Err FewCells) (Ok (natural u, natural l))) (Err (Number ListNumber))) (Err (Number Unknowns))

module _ (ws : List ℤ) where
  tested : (kind : Chosen) (x y z : Bool) → length ws ≡ 3 → ¬ (kind_of (word ws 0) ≡ None) →
      in_range 1 most_unknowns (word ws 1) ≡ x → in_range 0 last_list (word ws 2) ≡ y → (x ≡ true → z ≡ false) →
      RightlyOpened ws (open_answer (chosen_unless kind (placed_result (done (asked_by (word ws 1) (word ws 2) x y z)))))
  tested kind false y z c k p q f = record {
    count = (λ h. absurd cc, λ h. absurd (h c));
    modulus = (λ h. absurd cc, λ h. absurd (k h.1));
    unknowns = (λ _. (c, k, p), λ _. refl);
    list = (λ h. absurd cc, λ h. absurd (let e = sym p ∙ h.2 in cc));
    done = (λ h. absurd cc, λ h. absurd (let e = sym p ∙ h.2 in cc));
  }
  tested kind true false z c k p q f = record {
    count = (λ h. absurd cc, λ h. absurd (h c));
    modulus = (λ h. absurd cc, λ h. absurd (k h.1));
    unknowns = (λ h. absurd cc, λ h. absurd (let e = sym p ∙ h.2 in cc));
    list = (λ _. (c, k, p, q), λ _. refl);
    done = (λ h. absurd cc, λ h. absurd (let e = sym q ∙ h.3 in cc));
  }
  tested kind true true true c k p q f = absurd (let e = f refl in cc)
  tested kind true true false c k p q f = record {
    count = (λ h. absurd cc, λ h. absurd (h c));
    modulus = (λ h. absurd cc, λ h. absurd (k h.1));
    unknowns = (λ h. absurd cc, λ h. absurd (let e = sym p ∙ h.2 in cc));
    list = (λ h. absurd cc, λ h. absurd (let e = sym q ∙ h.3 in cc));
    done = (λ _. (c, k, p, q), λ _. refl);
  }

  -- as many cells as a session has are enough
  enough : (len : ℕ) → len ≡ session_cells → in_range 1 most_unknowns (word ws 1) ≡ true → ltb len (needed (natural (word ws 1))) ≡ false
  enough len l e = le-ltb len (needed (natural (word ws 1))) (let n = needed_few (natural (word ws 1)) (few_unknowns (word ws 1) e) in omega arith)

  right : (b : Bool) (o : Option Chosen) (w d : ℕ) → eqb (length ws) 3 ≡ b → kind_of (word ws 0) ≡ o → w ≡ session_cells → d ≡ session_cells →
      RightlyOpened ws (open_answer (cond b (open_by o (word ws 1) (word ws 2) w d) (Err (Line LineCount))))
  right false o w d p q l k = let n = eqb-false (length ws) 3 p in record {
    count = (λ _. n, λ _. refl);
    modulus = (λ h. absurd cc, λ h. absurd (n h.0));
    unknowns = (λ h. absurd cc, λ h. absurd (n h.0));
    list = (λ h. absurd cc, λ h. absurd (n h.0));
    done = (λ h. absurd cc, λ h. absurd (n h.0));
  }
  right true None w d p q l k = let c = eqb-true (length ws) 3 p in record {
    count = (λ h. absurd cc, λ h. absurd (h c));
    modulus = (λ _. (c, q), λ _. refl);
    unknowns = (λ h. absurd cc, λ h. absurd (h.1 q));
    list = (λ h. absurd cc, λ h. absurd (h.1 q));
    done = (λ h. absurd cc, λ h. absurd (h.1 q));
  }
  right true (Some Whole) w d p q l k =
      tested Whole (in_range 1 most_unknowns (word ws 1)) (in_range 0 last_list (word ws 2)) (ltb w (needed (natural (word ws 1))))
      (eqb-true (length ws) 3 p) (λ h. let e = sym q ∙ h in cc) refl refl (enough w l)
  right true (Some Weekday) w d p q l k =
      tested Weekday (in_range 1 most_unknowns (word ws 1)) (in_range 0 last_list (word ws 2)) (ltb d (needed (natural (word ws 1))))
      (eqb-true (length ws) 3 p) (λ h. let e = sym q ∙ h in cc) refl refl (enough d k)

pub rightly_opened : (v : View) (ws : List ℤ) → FullCells v → RightlyOpened ws (open_answer (open_check v ws))
rightly_opened v ws f = right ws (eqb (length ws) 3) (kind_of (word ws 0)) (length (whole_cells v)) (length (weekday_cells v)) refl refl f.whole f.weekday
