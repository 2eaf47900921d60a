-- When a call that brings words is refused, and what then holds.
use Rattle.std.proofs.Common.{◌≡◌, ℕ, Bool, true, false, ◌&&◌, cond, eqb, ◌↔◌, List, ℤ, Some, None, Ok, Err, Option, sym, refl, ap, ◌∙◌}
use Rattle.std.specs.List.{AllByRecursion}
use Rattle.std.proofs.lemmas.Bool.{eqb-true, eqb-false}
use Rattle.faults.specs.Refusing.{done_unless}
use Rattle.faults.specs.declared.NumberFault.TheVariants.{NotAdmitted}
use Rattle.faults.specs.declared.SheetFault.{SheetFault}
use Rattle.faults.specs.declared.SheetFault.TheVariants.{Number, NoSheet, Count, Overflow}
use Rattle.kinds.specs.Kind.{Arithmetic, Admitted}
use Rattle.lines.specs.Hex.{find}
use Rattle.sheets.specs.Answers.{Answer}
use Rattle.sheets.specs.Law.{RightlyRefused}
use Rattle.sheets.specs.Sheet.{Model, stands, word_fault, words_refusal}
use Rattle.sheets.specs.Words.{is_refused}
use Rattle.sheets.proofs.Meanings.{find_refused, refused_find, find_admitted, admitted_find}

-- a sheet that stands has unknowns, and no other does
pub standing : {C : Type 0} (m : Model C) → stands m ≡ true → ¬ (m.unknowns ≡ 0)
standing m e = by (eqb m.unknowns 0) refl e
  where
    by : (z : Bool) → eqb m.unknowns 0 ≡ z → cond z false true ≡ true → ¬ (m.unknowns ≡ 0)
    by true p q = absurd cc
    by false p q = eqb-false m.unknowns 0 p

pub not_standing : {C : Type 0} (m : Model C) → stands m ≡ false → m.unknowns ≡ 0
not_standing m e = by (eqb m.unknowns 0) refl e
  where
    by : (z : Bool) → eqb m.unknowns 0 ≡ z → cond z false true ≡ false → m.unknowns ≡ 0
    by true p q = eqb-true m.unknowns 0 p
    by false p q = absurd cc

-- the answer, unless there is a fault
abbrev pub answer_or : Option SheetFault → Answer → Answer
answer_or (Some fault) r = Err fault
answer_or None r = r

-- an answer that is no refusal of words, and an overflow exactly where something lacks
pub record Unrefused (Lacking : Type 0) (r : Answer) : Type 0 where
  pub has_unknowns : ¬ (r ≡ Err NoSheet)
  pub right_count : ¬ (r ≡ Err Count)
  pub words_admitted : (i : ℕ) → ¬ (r ≡ Err (Number (NotAdmitted i)))
  pub overflow : (r ≡ Err Overflow) ↔ Lacking

module _ {N C : Type 0} (a : Arithmetic N C) (m : Model C) (ws : List ℤ) (counted : Bool) (Counted : Type 0) (yes : counted ≡ true → Counted) (no : counted ≡ false → ¬ Counted) where
  -- words that are not refused
  pub record Unhindered : Type 0 where
    pub some : ¬ (m.unknowns ≡ 0)
    pub count : Counted
    pub all : AllByRecursion (Admitted a) ws

  -- why words are refused, by the three tests
  abbrev refusal : Bool → Bool → Option ℕ → Option SheetFault
  refusal s c w = cond s (cond c (word_fault w) (Some Count)) (Some NoSheet)

  pub unhindered : words_refusal a m counted ws ≡ None → Unhindered
  unhindered e = by (stands m) counted (find (is_refused a) ws) refl refl refl e
    where
      by : (s c : Bool) (w : Option ℕ) → stands m ≡ s → counted ≡ c → find (is_refused a) ws ≡ w → refusal s c w ≡ None → Unhindered
      by false c w p q r e = absurd cc
      by true false w p q r e = absurd cc
      by true true (Some i) p q r e = absurd cc
      by true true None p q r e = record { some = standing m p; count = yes q; all = find_admitted a ws r }

  -- the answer is refused in exactly the cases that it should be
  pub refused_rightly : (Lacking : Type 0) (rest : Answer) → (words_refusal a m counted ws ≡ None → Unrefused Lacking rest) → RightlyRefused a m.unknowns ws Counted Lacking (answer_or (words_refusal a m counted ws) rest)
  refused_rightly Lacking rest fine = by (stands m) counted (find (is_refused a) ws) refl refl refl fine
    where
      by : (s c : Bool) (w : Option ℕ) → stands m ≡ s → counted ≡ c → find (is_refused a) ws ≡ w → (refusal s c w ≡ None → Unrefused Lacking rest) → RightlyRefused a m.unknowns ws Counted Lacking (answer_or (refusal s c w) rest)
      by false c w p q r fine = let z = not_standing m p in record {
        no_unknowns = (λ _. z, λ _. refl);
        count = (λ e. absurd cc, λ k. absurd (k.0 z));
        word = λ i. (λ e. absurd cc, λ k. absurd (k.0 z));
        overflow = (λ e. absurd cc, λ k. absurd (k.0 z));
      }
      by true false w p q r fine = let z = standing m p in record {
        no_unknowns = (λ e. absurd cc, λ k. absurd (z k));
        count = (λ _. (z, no q), λ _. refl);
        word = λ i. (λ e. absurd cc, λ k. absurd (no q k.1));
        overflow = (λ e. absurd cc, λ k. absurd (no q k.1));
      }
      by true true (Some i) p q r fine = let z = standing m p in record {
        no_unknowns = (λ e. absurd cc, λ k. absurd (z k));
        count = (λ e. absurd cc, λ k. absurd (k.1 (yes q)));
        word = λ j. (
          λ e. (z, yes q, find_refused a ws j (r ∙ ap Some (let s : i ≡ j = cc in s))),
          λ k. ap (λ (o : Option ℕ). answer_or (word_fault o) rest) (sym r ∙ refused_find a ws j k.2),
        );
        overflow = (λ e. absurd cc, λ k. absurd (let f = admitted_find a ws k.2 in cc));
      }
      by true true None p q r fine =
          let z = standing m p in
          let f = fine refl in
          record {
            no_unknowns = (λ e. absurd (f.has_unknowns e), λ k. absurd (z k));
            count = (λ e. absurd (f.right_count e), λ k. absurd (k.1 (yes q)));
            word = λ j. (λ e. absurd (f.words_admitted j e), λ k. absurd (let g = refused_find a ws j k.2 in cc));
            overflow = (λ e. (z, yes q, find_admitted a ws r, f.overflow.0 e), λ k. f.overflow.1 k.3);
          }

  -- a refusal of words is one of these three, so an answer that goes through is the rest
  pub goes_on : (P : Answer → Type 0) (rest : Answer) → (words_refusal a m counted ws ≡ None → P rest) →
      ¬ (answer_or (words_refusal a m counted ws) rest ≡ Err NoSheet) → ¬ (answer_or (words_refusal a m counted ws) rest ≡ Err Count) →
      ((i : ℕ) → ¬ (answer_or (words_refusal a m counted ws) rest ≡ Err (Number (NotAdmitted i)))) → P (answer_or (words_refusal a m counted ws) rest)
  goes_on P rest fine = by (stands m) counted (find (is_refused a) ws) fine
    where
      by : (s c : Bool) (w : Option ℕ) → (refusal s c w ≡ None → P rest) →
          ¬ (answer_or (refusal s c w) rest ≡ Err NoSheet) → ¬ (answer_or (refusal s c w) rest ≡ Err Count) →
          ((i : ℕ) → ¬ (answer_or (refusal s c w) rest ≡ Err (Number (NotAdmitted i)))) → P (answer_or (refusal s c w) rest)
      by false c w fine u v x = absurd (u refl)
      by true false w fine u v x = absurd (v refl)
      by true true (Some i) fine u v x = absurd (x i refl)
      by true true None fine u v x = fine refl

-- two counts that both are as needed
pub both_true : (p q : Bool) → (p && q) ≡ true → (p ≡ true) × (q ≡ true)
both_true true true e = (refl, refl)
both_true true false e = absurd cc
both_true false q e = absurd cc

pub both_false : (p q : Bool) → (p && q) ≡ false → ¬ ((p ≡ true) × (q ≡ true))
both_false true true e = λ k. cc
both_false true false e = λ k. let right = k.1 in cc
both_false false q e = λ k. let k0 = k.0 in cc

-- what is not done has a fault, and what is done has none
pub undone : (o : Option SheetFault) (fault : SheetFault) → done_unless o ≡ Err fault → o ≡ Some fault
undone None fault e = absurd cc
undone (Some x) fault e = let z : x ≡ fault = cc in ap Some z

pub done_none : (o : Option SheetFault) → done_unless o ≡ Ok tt → o ≡ None
done_none None e = refl
done_none (Some x) e = absurd cc
