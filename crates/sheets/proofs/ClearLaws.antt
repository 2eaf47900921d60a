-- A clearing keeps to its law.
use Rattle.std.proofs.Common.{◌≡◌, Bool, true, false, cond, length, Ok, Err, Result, sym, refl, subst₂}
use Rattle.faults.specs.declared.SheetFault.{SheetFault}
use Rattle.faults.specs.declared.SheetFault.TheVariants.{NoSheet}
use Rattle.kinds.specs.Kind.{Arithmetic, Laws}
use Rattle.plans.specs.Sheet.{new_sheet}
use Rattle.sheets.specs.Cells.{HasCells, main_of}
use Rattle.sheets.specs.Clearing.{clear_answer, new_again, clear_left}
use Rattle.sheets.specs.Answers.{plain_answer}
use Rattle.sheets.specs.Calls.{clearing, Memory, in_force_after}
use Rattle.sheets.specs.Law.{StandsFor, Sound, SpareZero, RightlyCleared, CallLaw}
use Rattle.sheets.specs.Sheet.{Model, stands}
use Rattle.sheets.proofs.Refusals.{standing, not_standing}
use Rattle.sheets.proofs.NewSheets.{laid_length, length_new, new_stands, new_sound, new_spare}

module _ {N C : Type 0} (a : Arithmetic N C) (laws : Laws a) where
  -- a clearing
  module _ (m : Model C) (room : HasCells m.unknowns m.cells) where
    by_stands : (P : Result Unit SheetFault → Model C → Type 0) → (stands m ≡ true → P (Ok tt) (new_again a m)) → (stands m ≡ false → P (Err NoSheet) m) → P (clear_answer m) (clear_left a m)
    by_stands P f g = by (stands m) refl
      where
        by : (b : Bool) → stands m ≡ b → P (cond b (Ok tt) (Err NoSheet)) (cond b (new_again a m) m)
        by true e = f e
        by false e = g e

    clear_right : (b : Bool) → stands m ≡ b → RightlyCleared a m.unknowns (plain_answer (cond b (Ok tt) (Err NoSheet)))
    clear_right true f = let z = standing m f in record { no_unknowns = (λ h. absurd cc, λ k. absurd (z k)); done = (λ _. z, λ _. refl) }
    clear_right false f = let z = not_standing m f in record { no_unknowns = (λ _. z, λ _. refl); done = (λ h. absurd cc, λ k. absurd (k z)) }

    pub clear_cells : length (clear_left a m).cells ≡ length m.cells
    clear_cells = by_stands (λ _ t. length t.cells ≡ length m.cells)
        (λ e. laid_length a m.unknowns (main_of a m.unknowns (new_sheet a m.unknowns)) m.cells (length_new a laws m.unknowns) (room (standing m e))) (λ _. refl)

    pub clear_law : (lent : Memory) → CallLaw a m clearing lent (plain_answer (clear_answer m)) (clear_left a m) lent
    clear_law lent = record {
      unknowns = by_stands (λ _ t. t.unknowns ≡ m.unknowns) (λ _. refl) (λ _. refl);
      in_force = λ es h. by_stands (λ r t. StandsFor a t (in_force_after m.unknowns clearing (plain_answer r) es)) (λ _. new_stands a laws m.unknowns m.cells) (λ _. h);
      list = by_stands (λ _ t. t.list ≡ m.list) (λ _. refl) (λ _. refl);
      rightly = λ es h. (clear_right (stands m) refl, refl);
      sound = λ h. by_stands (λ _. Sound a) (λ e some. new_sound a laws m.unknowns m.cells (room some)) (λ _. h);
      spare = λ h. by_stands (λ _. SpareZero a) (λ e some. new_spare a laws m.unknowns m.cells (room some)) (λ _. h);
    }

-- and once they are those of a clearing
pub clear_keeps : {N C : Type 0} (a : Arithmetic N C) (laws : Laws a) (m : Model C) → HasCells m.unknowns m.cells → (r : Result Unit SheetFault) (after : Model C) →
    r ≡ clear_answer m → after ≡ clear_left a m → (lent : Memory) → CallLaw a m clearing lent (plain_answer r) after lent
clear_keeps {C = C} a laws m room r after p q lent = subst₂ (λ (r : Result Unit SheetFault) (after : Model C). CallLaw a m clearing lent (plain_answer r) after lent) (sym p) (sym q) (clear_law a laws m room lent)
