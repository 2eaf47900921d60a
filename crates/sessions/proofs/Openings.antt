-- An opening that is done leaves a sheet as its numbers ask for.
use Rattle.std.proofs.Common.{◌≡◌, ℕ, Bool, true, false, cond, eqb, ltb, List, length, ℤ, pos, negsuc, Some, None, Ok, Err, Option, Result, sym, refl, ap, ◌∙◌, subst}
use Rattle.std.proofs.lemmas.Bool.{eqb-true}
use Rattle.faults.specs.declared.NumberFault.TheVariants.{Unknowns, ListNumber}
use Rattle.faults.specs.declared.LineFault.TheVariants.{Count as LineCount}
use Rattle.faults.specs.declared.SheetFault.{SheetFault}
use Rattle.faults.specs.declared.SheetFault.TheVariants.{Line, Number, FewCells}
use Rattle.kinds.specs.Kind.{Arithmetic}
use Rattle.kinds.specs.Weekday.{weekdays}
use Rattle.kinds.specs.Whole.{wholes}
use Rattle.sheets.specs.Cells.{needed}
use Rattle.sheets.specs.Sheet.{in_range, natural, most_unknowns, last_list, done, Model, checked, opened_by, opened}
use Rattle.sheets.specs.declared.call.Success.TheVariants.{Done}
use Rattle.sessions.specs.Frames.{kind_of, placed_result}
use Rattle.sessions.specs.Law.{OpenedAs}
use Rattle.sessions.specs.Session.{View, whole_cells, weekday_cells, word, chosen_unless, open_by, open_check, open_answer, open_left}
use Rattle.sessions.specs.declared.frame.Chosen.{Chosen}
use Rattle.sessions.specs.declared.frame.Chosen.TheVariants.{Whole, Weekday}

-- the modulus of a kind, and the cells of it
abbrev modulus_by : Chosen → ℕ
modulus_by Whole = wholes.modulus
modulus_by Weekday = weekdays.modulus

abbrev cells_by : Chosen → ℕ → ℕ → ℕ
cells_by Whole w d = w
cells_by Weekday w d = d

kind_modulus : (z : ℤ) (kind : Chosen) → kind_of z ≡ Some kind → pos (modulus_by kind) ≡ z
kind_modulus (negsuc n) kind e = absurd cc
kind_modulus (pos n) kind e = by (eqb n wholes.modulus) (eqb n weekdays.modulus) refl refl e
  where
    by : (x y : Bool) → eqb n wholes.modulus ≡ x → eqb n weekdays.modulus ≡ y → cond x (Some Whole) (cond y (Some Weekday) None) ≡ Some kind → pos (modulus_by kind) ≡ pos n
    by true y p q f = let g : Whole ≡ kind = cc in subst (λ (k : Chosen). pos (modulus_by k) ≡ pos n) g (ap pos (sym (eqb-true n wholes.modulus p)))
    by false true p q f = let g : Weekday ≡ kind = cc in subst (λ (k : Chosen). pos (modulus_by k) ≡ pos n) g (ap pos (sym (eqb-true n weekdays.modulus q)))
    by false false p q f = absurd cc

-- a kind that is answered is the one that was asked for, and its sheet passes the check
unless_is : (x kind : Chosen) (r : Result Unit SheetFault) → chosen_unless x (placed_result r) ≡ Ok kind → (x ≡ kind) × (r ≡ Ok tt)
unless_is x kind (Ok _) e = (cc, refl)
unless_is x kind (Err fault) e = absurd cc

open_by_is : (o : Option Chosen) (n list : ℤ) (w d : ℕ) (kind : Chosen) → open_by o n list w d ≡ Ok kind → (o ≡ Some kind) × (checked n list (cells_by kind w d) ≡ Ok tt)
open_by_is (Some Whole) n list w d kind e = let u = unless_is Whole kind (checked n list w) e in (ap Some u.0, subst (λ (k : Chosen). checked n list (cells_by k w d) ≡ Ok tt) u.0 u.1)
open_by_is (Some Weekday) n list w d kind e = let u = unless_is Weekday kind (checked n list d) e in (ap Some u.0, subst (λ (k : Chosen). checked n list (cells_by k w d) ≡ Ok tt) u.0 u.1)
open_by_is None n list w d kind e = absurd cc

open_check_is : (v : View) (ws : List ℤ) (kind : Chosen) → open_check v ws ≡ Ok kind →
    (pos (modulus_by kind) ≡ word ws 0) × (checked (word ws 1) (word ws 2) (cells_by kind (length (whole_cells v)) (length (weekday_cells v))) ≡ Ok tt)
open_check_is v ws kind e = by (eqb (length ws) 3) e
  where
    by : (b : Bool) → cond b (open_by (kind_of (word ws 0)) (word ws 1) (word ws 2) (length (whole_cells v)) (length (weekday_cells v))) (Err (Line LineCount)) ≡ Ok kind →
        (pos (modulus_by kind) ≡ word ws 0) × (checked (word ws 1) (word ws 2) (cells_by kind (length (whole_cells v)) (length (weekday_cells v))) ≡ Ok tt)
    by true f =
        let o = open_by_is (kind_of (word ws 0)) (word ws 1) (word ws 2) (length (whole_cells v)) (length (weekday_cells v)) kind f in
        (kind_modulus (word ws 0) kind o.0, o.1)
    by false f = absurd cc

-- a number from 1 to 24
natural_is : (u : ℤ) → in_range 1 most_unknowns u ≡ true → (pos (natural u) ≡ u) × (¬ (natural u ≡ 0))
natural_is (pos n) e = (refl, λ z. let f : true ≡ false = sym e ∙ ap (λ (k : ℕ). in_range 1 most_unknowns (pos k)) z in absurd cc)
natural_is (negsuc n) e = absurd cc

-- nor is a list number another than it was asked for
list_is : (l : ℤ) → in_range 0 last_list l ≡ true → pos (natural l) ≡ l
list_is (pos n) e = refl
list_is (negsuc n) e = absurd cc

-- what an opening asks for, by its tests
abbrev asked_by : ℤ → ℤ → Bool → Bool → Bool → Result (ℕ × ℕ) SheetFault
asked_by u l x y z = cond x (cond y (cond z (Err FewCells) (Ok (natural u, natural l))) (Err (Number ListNumber))) (Err (Number Unknowns))

-- a sheet whose check is passed has the unknowns and the list number that it is asked for
abbrev AsAsked : {C : Type 0} → ℤ → ℤ → Model C → Type 0
AsAsked u l m = ((pos m.unknowns ≡ u) × (¬ (m.unknowns ≡ 0))) × (pos m.list ≡ l)

opened_unknowns : {N C : Type 0} (a : Arithmetic N C) (u l : ℤ) (cells : List C) → checked u l (length cells) ≡ Ok tt → AsAsked u l (opened a u l cells)
opened_unknowns {N} {C} a u l cells e = by (in_range 1 most_unknowns u) (in_range 0 last_list l) (ltb (length cells) (needed (natural u))) refl refl e
  where
    by : (x y z : Bool) → in_range 1 most_unknowns u ≡ x → in_range 0 last_list l ≡ y → done (asked_by u l x y z) ≡ Ok tt →
        AsAsked u l (opened_by a (asked_by u l x y z) cells)
    by false y z h k f = absurd cc
    by true false z h k f = absurd cc
    by true true true h k f = absurd cc
    by true true false h k f = (natural_is u h, list_is l k)

pub opens_as : (v : View) (ws : List ℤ) → open_answer (open_check v ws) ≡ Ok Done → OpenedAs ws (open_left v (open_check v ws) ws)
opens_as v ws e = by (open_check v ws) refl e
  where
    by : (r : Result Chosen SheetFault) → open_check v ws ≡ r → open_answer r ≡ Ok Done → OpenedAs ws (open_left v r ws)
    by (Ok Whole) q f =
        let o = open_check_is v ws Whole q in
        let n = opened_unknowns wholes (word ws 1) (word ws 2) (whole_cells v) o.1 in
        record { kind = o.0; unknowns = n.0.0; list = n.1; has_unknowns = n.0.1 }
    by (Ok Weekday) q f =
        let o = open_check_is v ws Weekday q in
        let n = opened_unknowns weekdays (word ws 1) (word ws 2) (weekday_cells v) o.1 in
        record { kind = o.0; unknowns = n.0.0; list = n.1; has_unknowns = n.0.1 }
    by (Err fault) q f = absurd cc
