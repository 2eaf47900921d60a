-- What the steps of a posting mean, on stored numbers.
use Rattle.std.proofs.Common.{◌≡◌, ℕ, zero, suc, ◌<◌, ◌≢◌, List, [], ◌∷◌, map, length, ℤ, pos, ◌+ℤ◌, ◌*ℤ◌, Some, Option, sym, refl, ap, ◌∙◌, subst, arith}
use native.Mathlib.Nat.{suc_inj}
use lib.ListN.{length-map}
use Rattle.std.specs.List.{AllByRecursion}
use Rattle.std.proofs.lemmas.List.{get_or-map}
use Rattle.kinds.specs.Kind.{Arithmetic, Laws, Same}
use Rattle.kinds.specs.Equation.{dot}
use Rattle.kinds.specs.Ring.{ring}
use Rattle.kinds.specs.Sames.{same_eq, same_refl, same_trans, same_add}
use Rattle.plans.specs.Posting.{without, Column, running, adds, adds_column, blank, topped, normalised, at, size_at, total_size}
use Rattle.plans.specs.Solution.{SameLists, ended, also, plus, Sized}
use Rattle.plans.proofs.SameLists.{lists_refl, lists_eq, lists_trans, lists_length, SameColumns, ended_all, also_all}
use Rattle.plans.proofs.Vectors.{plus_length, dot_same, first, rest, under}
use Rattle.plans.proofs.Changes.{times, Scaled, none_scaled, one_scaled}
use Rattle.plans.proofs.Verdicts.{top_at}
use Rattle.plans.proofs.Falling.{then_some}

pub some_is : {X : Type 0} {x y : X} → ◌≡◌ {A = Option X} (Some x) (Some y) → x ≡ y
some_is h = cc

module _ {N C : Type 0} (a : Arithmetic N C) where
  abbrev pub meant : List N → List ℤ
  meant u = map a.means u

  -- what a column means, its top first
  abbrev pub full : Column N → List ℤ
  full c = a.means c.top ∷ meant c.low

  pub lows_full : (cs : List (Column N)) → map rest (map full cs) ≡ map meant (map (λ c. c.low) cs)
  lows_full [] = refl
  lows_full (c ∷ cs) = ap {B = List (List ℤ)} (λ r. meant c.low ∷ r) (lows_full cs)

  pub top_full : (cs : List (Column N)) (l : ℕ) → l < length cs → top_at (map full cs) l ≡ a.means (at a cs l).top
  top_full cs l i =
      get_or-map first (map full cs) l [] (pos 0) (subst (λ k. l < k) (sym (length-map cs full)) i) ∙ ap first (get_or-map full cs l (record { top = a.zero; low = [] }) [] i)

  pub sized_meant : (n : ℕ) (vs : List (List N)) → Sized n vs → Sized n (map meant vs)
  sized_meant n [] h = tt
  sized_meant n (v ∷ vs) h = (length-map v a.means ∙ h.0, sized_meant n vs h.1)

module _ {N C : Type 0} (a : Arithmetic N C) (laws : Laws a) where
  pub adds_means : (u : List N) (q : N) (v w : List N) → adds a u q v ≡ Some w → SameLists a.modulus (meant a w) (plus (meant a u) (a.means q) (meant a v))
  adds_means [] q v w h = lists_eq (ap (meant a) (sym (some_is h)))
  adds_means (x ∷ u) q [] w h = lists_eq (ap (meant a) (sym (some_is h)))
  adds_means (x ∷ u) q (y ∷ v) w h =
      let r = then_some (a.add_product x q y) _ w h in
      let s = then_some (adds a u q v) _ w r.1.1 in
      lists_trans (lists_eq (ap (meant a) (sym (some_is s.1.1)))) (also (laws.add_product_means x q y r.0 r.1.0) (adds_means u q v s.0 s.1.0))

  pub column_means : (c : Column N) (q : N) (d r : Column N) → adds_column a c q d ≡ Some r → SameLists a.modulus (full a r) (plus (full a c) (a.means q) (full a d))
  column_means c q d w h =
      let r = then_some (a.add_product c.top q d.top) _ w h in
      let s = then_some (adds a c.low q d.low) _ w r.1.1 in
      lists_trans (lists_eq (ap (full a) (sym (some_is s.1.1)))) (also (laws.add_product_means c.top q d.top r.0 r.1.0) (adds_means c.low q d.low s.0 s.1.0))

  pub running_means : (c : N) (cs xs : List N) (r : N) → running a c cs xs ≡ Some r → Same a.modulus (a.means r) (a.means c +ℤ dot (meant a cs) (meant a xs))
  running_means c [] xs r h = same_eq (ap a.means (sym (some_is h)) ∙ simp ring)
  running_means c (d ∷ cs) [] r h = same_eq (ap a.means (sym (some_is h)) ∙ simp ring)
  running_means c (d ∷ cs) (x ∷ xs) r h =
      let s = then_some (a.add_product c d x) _ r h in
      same_trans (running_means s.0 cs xs r s.1.1)
      (same_trans (same_add (laws.add_product_means c d x s.0 s.1.0) same_refl) (same_eq (group (a.means c) (a.means d *ℤ a.means x) (dot (meant a cs) (meant a xs)))))
    where
      group : (x y z : ℤ) → x +ℤ y +ℤ z ≡ x +ℤ (y +ℤ z)
      group x y z = simp ring

  -- 0 and something is that
  zero_and : (x : ℤ) → Same a.modulus (a.means a.zero +ℤ x) x
  zero_and x = same_trans (same_add laws.zero_means same_refl) (same_eq (simp ring))

  pub topped_means : (cs : List N) (c : List ℤ) (vs : List (List N)) (ds : List (Column N)) → SameLists a.modulus (meant a cs) c → topped a cs vs ≡ Some ds →
      SameColumns a.modulus (map (full a) ds) (map (under c) (map (meant a) vs))
  topped_means cs c [] ds k h = subst (λ x. SameColumns a.modulus (map (full a) x) []) (some_is h) ended_all
  topped_means cs c (v ∷ vs) ds k h =
      let r = then_some (running a a.zero cs v) _ ds h in
      let s = then_some (topped a cs vs) _ ds r.1.1 in
      subst (λ x. SameColumns a.modulus (map (full a) x) (map (under c) (map (meant a) (v ∷ vs)))) (some_is s.1.1)
      (also_all
      (also (same_trans (running_means a.zero cs v r.0 r.1.0) (same_trans (zero_and (dot (meant a cs) (meant a v))) (dot_same k (lists_refl (meant a v))))) (lists_refl (meant a v)))
      (topped_means cs c vs s.0 k s.1.0))

  -- the moves' columns are as long as the moves
  pub topped_lows : (n : ℕ) (cs : List N) (vs : List (List N)) (ds : List (Column N)) → topped a cs vs ≡ Some ds → Sized n vs → AllByRecursion (λ d. length d.low ≡ n) ds
  topped_lows n cs [] ds h k = subst (λ x. AllByRecursion (λ d. length d.low ≡ n) x) (some_is h) tt
  topped_lows n cs (v ∷ vs) ds h k =
      let r = then_some (running a a.zero cs v) _ ds h in
      let s = then_some (topped a cs vs) _ ds r.1.1 in
      subst (λ x. AllByRecursion (λ d. length d.low ≡ n) x) (some_is s.1.1) (k.0, topped_lows n cs vs s.0 s.1.0 k.1)

  pub adds_length : (u : List N) (q : N) (v w : List N) → adds a u q v ≡ Some w → length w ≡ length u
  adds_length u q v w h = sym (length-map w a.means) ∙ lists_length (adds_means u q v w h) ∙ plus_length (meant a u) (a.means q) (meant a v) ∙ length-map u a.means

  pub column_length : (c : Column N) (q : N) (d r : Column N) → adds_column a c q d ≡ Some r → length r.low ≡ length c.low
  column_length c q d r h =
      let e : length (meant a r.low) ≡ length (meant a c.low) = suc_inj (lists_length (column_means c q d r h) ∙ plus_length (full a c) (a.means q) (full a d)) in
      sym (length-map r.low a.means) ∙ e ∙ length-map c.low a.means

  zeros_times : (t : ℤ) (u : List N) → SameLists a.modulus (plus (meant a (map (λ _. a.zero) u)) t (meant a u)) (times t (meant a u))
  zeros_times t [] = ended
  zeros_times t (x ∷ u) = also (zero_and (t *ℤ a.means x)) (zeros_times t u)

  pub normalised_means : (cs ds : List (Column N)) → normalised a cs ≡ Some ds → Scaled a.modulus (map (full a) cs) (map (full a) ds)
  normalised_means [] ds h = subst (λ x. Scaled a.modulus [] (map (full a) x)) (some_is h) none_scaled
  normalised_means (c ∷ cs) ds h =
      let q = a.unit c.top in
      let r = then_some (adds_column a (blank a c) q c) _ ds h in
      let s = then_some (normalised a cs) _ ds r.1.1 in
      let i = laws.unit_inverse c.top in
      subst (λ x. Scaled a.modulus (map (full a) (c ∷ cs)) (map (full a) x)) (some_is s.1.1)
      (one_scaled (a.means q) (a.means i.0) i.1
      (lists_trans (column_means (blank a c) q c r.0 r.1.0) (also (zero_and (a.means q *ℤ a.means c.top)) (zeros_times (a.means q) c.low)))
      (normalised_means cs s.0 s.1.0))

  pub normalised_lows : (n : ℕ) (cs ds : List (Column N)) → normalised a cs ≡ Some ds → AllByRecursion (λ c. length c.low ≡ n) cs → AllByRecursion (λ d. length d.low ≡ n) ds
  normalised_lows n [] ds h k = subst (λ x. AllByRecursion (λ d. length d.low ≡ n) x) (some_is h) tt
  normalised_lows n (c ∷ cs) ds h k =
      let r = then_some (adds_column a (blank a c) (a.unit c.top) c) _ ds h in
      let s = then_some (normalised a cs) _ ds r.1.1 in
      subst (λ x. AllByRecursion (λ d. length d.low ≡ n) x) (some_is s.1.1)
      (column_length (blank a c) (a.unit c.top) c r.0 r.1.0 ∙ length-map c.low (λ _. a.zero) ∙ k.0, normalised_lows n cs s.0 s.1.0 k.1)

  -- tops of size 0 are the same as 0: all of them, each, and all but that of the pivot
  pub zero_tops : (cs : List (Column N)) → total_size a cs ≡ 0 → AllByRecursion (λ x. Same a.modulus x (pos 0)) (map first (map (full a) cs))
  zero_tops [] h = tt
  zero_tops (c ∷ cs) h = (laws.zero_size c.top (omega arith), zero_tops cs (omega arith))

  each_top : (cs : List (Column N)) → ((j : ℕ) → j < length cs → size_at a cs j ≡ 0) → AllByRecursion (λ x. Same a.modulus x (pos 0)) (map first (map (full a) cs))
  each_top [] f = tt
  each_top (c ∷ cs) f = (laws.zero_size c.top (f 0 (omega arith)), each_top cs (λ j h. f (suc j) (omega arith)))

  pub lone_top : (cs : List (Column N)) (l : ℕ) → ((j : ℕ) → j < length cs → j ≢ l → size_at a cs j ≡ 0) → AllByRecursion (λ x. Same a.modulus x (pos 0)) (without (map first (map (full a) cs)) l)
  lone_top [] l f = tt
  lone_top (c ∷ cs) zero f = each_top cs (λ j h. f (suc j) (omega arith) (omega arith))
  lone_top (c ∷ cs) (suc l) f = (laws.zero_size c.top (f 0 (omega arith) (omega arith)), lone_top cs l (λ j h k. f (suc j) (omega arith) (λ e. k (suc_inj e))))
