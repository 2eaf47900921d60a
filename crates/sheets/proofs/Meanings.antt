-- The words of a call: which are admitted, and what their numbers mean.
use Rattle.std.proofs.Common.{◌≡◌, ℕ, zero, suc, ◌+◌, ◌<◌, Bool, true, false, cond, not, List, [], ◌∷◌, map, length, get_or, take, ℤ, pos, is_some, Some, None, Option, sym, refl, ap, ◌∙◌, subst, add-zero, zero-add, arith, w32, SFits}
use Rattle.std.specs.List.{AllByRecursion, position_from}
use Rattle.std.proofs.ByRecursion.{All-weaker}
use Rattle.std.proofs.lemmas.Bool.{cond-true, cond-false}
use Rattle.kinds.specs.Kind.{Arithmetic, Laws, Same, Admitted}
use Rattle.lines.specs.Hex.{find}
use Rattle.lines.proofs.Finding.{find_none, none_find}
use Rattle.plans.specs.Solution.{SameLists, ended, also}
use Rattle.sheets.specs.Cells.{or_zero}
use Rattle.sheets.specs.Law.{FirstRefused}
use Rattle.sheets.specs.Words.{number_of, numbers_of, is_refused}

-- the first element that passes a test, and none before it
module _ {A : Type 0} (test : A → Bool) (d : A) where
  abbrev First : List A → ℕ → Type 0
  First xs j = (j < length xs) × (test (get_or xs j d) ≡ true) × AllByRecursion (λ x. test x ≡ false) (take j xs)

  found : (i : ℕ) (xs : List A) (k : ℕ) → position_from test i xs ≡ Some k → (j : ℕ) × (i + j ≡ k) × First xs j
  found i [] k e = absurd cc
  found i (x ∷ xs) k e = by (test x) refl (found (i + 1) xs k) e
    where
      by : (t : Bool) → test x ≡ t → (position_from test (i + 1) xs ≡ Some k → (j : ℕ) × (i + 1 + j ≡ k) × First xs j) → cond t (Some i) (position_from test (i + 1) xs) ≡ Some k → (j : ℕ) × (i + j ≡ k) × First (x ∷ xs) j
      by true p rest e = let s : i ≡ k = cc in (0, omega arith, (omega arith, p, tt))
      by false p rest e = let r = rest e in (suc r.0, omega (arith, r.1), (omega (arith, r.2.0), r.2.1, (p, r.2.2)))

  first_found : (i : ℕ) (xs : List A) (j : ℕ) → First xs j → position_from test i xs ≡ Some (i + j)
  first_found i [] j f = absurd (omega (arith, f.0))
  first_found i (x ∷ xs) zero (h, p, q) = cond-true (test x) (Some i) (position_from test (i + 1) xs) p ∙ ap Some (sym (add-zero i))
  first_found i (x ∷ xs) (suc j) (h, p, q) =
      let e : i + 1 + j ≡ i + suc j = omega arith in
      cond-false (test x) (Some i) (position_from test (i + 1) xs) q.0 ∙ first_found (i + 1) xs j (omega arith, p, q.1) ∙ ap Some e

module _ {N C : Type 0} (a : Arithmetic N C) where
  abbrev TakenUp : ℤ → Type 0
  TakenUp w = is_refused a w ≡ false

  admitted : (w : ℤ) → TakenUp w → Admitted a w
  admitted w e = by (a.read w) refl e
    where
      by : (o : Option N) → a.read w ≡ o → not (is_some o) ≡ false → Admitted a w
      by (Some x) h e = (x, h)
      by None h e = let z : ◌≡◌ {A = Bool} true false = e in absurd cc

  taken_up : (w : ℤ) → Admitted a w → TakenUp w
  taken_up w (x, h) = ap (λ (o : Option N). not (is_some o)) h

  refuses : (w : ℤ) → is_refused a w ≡ true → ¬ Admitted a w
  refuses w e y = let f = taken_up w y in cc

  refused : (w : ℤ) → ¬ Admitted a w → is_refused a w ≡ true
  refused w n = by (a.read w) refl
    where
      by : (o : Option N) → a.read w ≡ o → not (is_some o) ≡ true
      by (Some x) h = absurd (n (x, h))
      by None h = refl

  all_admitted : (ws : List ℤ) → AllByRecursion TakenUp ws → AllByRecursion (Admitted a) ws
  all_admitted = All-weaker TakenUp (Admitted a) admitted

  pub all_taken_up : (ws : List ℤ) → AllByRecursion (Admitted a) ws → AllByRecursion TakenUp ws
  all_taken_up = All-weaker (Admitted a) TakenUp taken_up

  -- the first word that is not admitted
  pub find_refused : (ws : List ℤ) (i : ℕ) → find (is_refused a) ws ≡ Some i → FirstRefused a ws i
  find_refused ws i e =
      let f = found (is_refused a) (pos 0) 0 ws i e in
      let s : f.0 ≡ i = omega (arith, f.1) in
      subst (FirstRefused a ws) s (f.2.0, refuses (get_or ws f.0 (pos 0)) f.2.1, all_admitted (take f.0 ws) f.2.2)

  pub refused_find : (ws : List ℤ) (i : ℕ) → FirstRefused a ws i → find (is_refused a) ws ≡ Some i
  refused_find ws i (h, r, q) = first_found (is_refused a) (pos 0) 0 ws i (h, refused (get_or ws i (pos 0)) r, all_taken_up (take i ws) q) ∙ ap Some (zero-add i)

  pub find_admitted : (ws : List ℤ) → find (is_refused a) ws ≡ None → AllByRecursion (Admitted a) ws
  find_admitted ws e = all_admitted ws (find_none (is_refused a) 0 ws e)

  pub admitted_find : (ws : List ℤ) → AllByRecursion (Admitted a) ws → find (is_refused a) ws ≡ None
  admitted_find ws h = none_find (is_refused a) 0 ws (all_taken_up ws h)

  module _ (laws : Laws a) where
    -- the number of an admitted word means the same as the word
    pub number_means : (w : ℤ) → SFits w32 w → Admitted a w → Same a.modulus (a.means (number_of a w)) w
    number_means w f (x, h) = subst (λ (o : Option N). Same a.modulus (a.means (or_zero a o)) w) (sym h) (laws.read_means w x f h)

    pub numbers_mean : (ws : List ℤ) → AllByRecursion (SFits w32) ws → AllByRecursion (Admitted a) ws → SameLists a.modulus (map a.means (numbers_of a ws)) ws
    numbers_mean [] f h = ended
    numbers_mean (w ∷ ws) f h = also (number_means w f.0 h.0) (numbers_mean ws f.1 h.1)
