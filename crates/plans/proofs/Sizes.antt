-- A posting that is taken leaves lists as long as those before it, and one move fewer.
use Rattle.std.proofs.Common.{◌≡◌, ℕ, zero, suc, ◌+◌, cond, eqb, List, [], map, length, Some, None, Option, sym, refl, ap, ◌∙◌, subst, add-one, length-set}
use lib.ListN.{length-map}
use Rattle.std.specs.List.{AllByRecursion}
use Rattle.std.proofs.ByRecursion.{All-get_or, All-set, All-map}
use Rattle.std.proofs.lemmas.Bool.{cond_both}
use Rattle.kinds.specs.Kind.{Arithmetic, Laws}
use Rattle.plans.specs.Sheet.{Contents}
use Rattle.plans.specs.Posting.{Column, Work, Outcome, taken, implied, contradicted, overflow, Turn, stop, again, fail, running, adds, topped, column_B, normalised, at, size_at, pivot_of, turn, on, rounds, total_size, closed, settled, finish_by, finish, worked, prepared, posted, without}
use Rattle.plans.specs.Solution.{Sized}
use Rattle.plans.proofs.SameLists.{lists_refl, columns_length}
use Rattle.plans.proofs.Vectors.{without_length, under}
use Rattle.plans.proofs.Changes.{change_scaled}
use Rattle.plans.proofs.Bests.{best_some}
use Rattle.plans.proofs.Falling.{then_some, went}
use Rattle.plans.proofs.Stored.{some_is, meant, full, adds_length, topped_means, topped_lows, column_length, normalised_means, normalised_lows}
use Rattle.plans.proofs.Rightness.{all_without, Alone, at_stop, reduced_by}

-- n numbers in each list, and k moves
pub record Measured {N : Type 0} (n k : ℕ) (s : Contents N) : Type 0 where
  pub fixed_length : length s.fixed ≡ n
  pub moves_length : Sized n s.moves
  pub many : length s.moves ≡ k

-- what is taken has one move fewer than k
abbrev pub Leaves : {N : Type 0} → ℕ → ℕ → Outcome N → Type 0
Leaves n k (taken t) = (j : ℕ) × (j + 1 ≡ k) × Measured n j t
Leaves n k implied = Unit {0}
Leaves n k contradicted = Unit {0}
Leaves n k overflow = Unit {0}

module _ {N C : Type 0} (a : Arithmetic N C) (laws : Laws a) (n k : ℕ) where
  record Lengths (w : Work N) : Type 0 where
    B_length : length w.B.low ≡ n
    lows_length : AllByRecursion (λ c. length c.low ≡ n) w.columns
    many : length w.columns ≡ k

  round_lengths : (w v : Work N) → Lengths w → turn a w ≡ again v → Lengths v
  round_lengths w v h t =
      let g = went a laws w v t in
      let cs = w.columns in
      let l = g.l in
      let r = g.r in
      let i = (best_some (size_at a cs) (length cs) (length cs) l g.pivot).0 in
      let p = reduced_by a laws w.B (at a cs l) g.b g.B_reduced in
      let q = reduced_by a laws (at a cs l) (at a cs r) g.d g.pivot_reduced in
      let low_l = All-get_or (λ (c : Column N). length c.low ≡ n) cs l (record { top = a.zero; low = [] }) i h.lows_length in
      subst (λ (x : Work N). Lengths x) g.came
      (record {
        B_length = column_length a laws w.B p.0 (at a cs l) g.b p.1 ∙ h.B_length;
        lows_length = All-set (λ (c : Column N). length c.low ≡ n) cs l g.d (column_length a laws (at a cs l) q.0 (at a cs r) g.d q.1 ∙ low_l) h.lows_length;
        many = length-set cs l g.d ∙ h.many;
      })

  module _ (w : Work N) (h : Lengths w) (l : ℕ) (z : Alone a w.columns l) where
    by_low : (q : N) (o : Option (List N)) → adds a w.B.low (a.negative q) (at a w.columns l).low ≡ o → Leaves n k (closed a w.columns l o)
    by_low q None e = tt
    by_low q (Some u) e =
        let cs = w.columns in (
          length (map (λ (c : Column N). c.low) (without cs l)),
          ap (λ x. x + 1) (length-map (without cs l) (λ c. c.low)) ∙ add-one (length (without cs l)) ∙ without_length cs l z.inside ∙ h.many,
          record {
            fixed_length = adds_length a laws w.B.low (a.negative q) (at a cs l).low u e ∙ h.B_length;
            moves_length = All-map (λ v. length v ≡ n) (λ (c : Column N). c.low) (without cs l) (all_without (λ (c : Column N). length c.low ≡ n) cs l h.lows_length);
            many = refl;
          },
        )

    by_top : (q : N) (o : Option N) → Leaves n k (settled a w l q o)
    by_top q None = tt
    by_top q (Some t) =
        cond_both (eqb (a.size t) 0) (closed a w.columns l (adds a w.B.low (a.negative q) (at a w.columns l).low)) contradicted (Leaves n k)
        (λ _. by_low q (adds a w.B.low (a.negative q) (at a w.columns l).low) refl)
        (λ _. tt)

    by_quotient : (o : Option N) → Leaves n k (finish_by a w l o)
    by_quotient None = tt
    by_quotient (Some q) = by_top q (a.add_product w.B.top (a.negative q) (at a w.columns l).top)

  rounds_lengths : (i : ℕ) (w : Work N) → Lengths w → Leaves n k (finish a (rounds a i w))
  rounds_lengths zero w h = tt
  rounds_lengths (suc i) w h = by (turn a w) refl (λ v. rounds_lengths i v)
    where
      by : (t : Turn N) → turn a w ≡ t → ((v : Work N) → Lengths v → Leaves n k (finish a (rounds a i v))) → Leaves n k (finish a (on a (rounds a i) w t))
      by (stop l) q more = by_quotient w h l (at_stop a w l (pivot_of a w.columns) refl q) (a.quotient w.B.top (at a w.columns l).top)
      by fail q more = tt
      by (again v) q more = more v (round_lengths w v h q)

  worked_lengths : (b : Column N) (ds : List (Column N)) → Lengths (record { B = b; columns = ds }) → (o : Option (List (Column N))) → normalised a ds ≡ o → Leaves n k (worked a b o)
  worked_lengths b ds h None e = tt
  worked_lengths b ds h (Some fs) e =
      let c = change_scaled (full a b) (map (full a) ds) (map (full a) fs) (normalised_means a laws ds fs e) in
      rounds_lengths (suc (total_size a fs)) (record { B = b; columns = fs })
      (record { B_length = h.B_length; lows_length = normalised_lows a laws n ds fs e h.lows_length; many = sym (length-map fs (full a)) ∙ c.as_many ∙ length-map ds (full a) ∙ h.many })

  module _ (s : Contents N) (hs : Measured n k s) (cs : List N) (right : N) where
    prepared_lengths : (o : Option (List (Column N))) (p : Option (Column N)) → topped a cs s.moves ≡ o → column_B a cs right s.fixed ≡ p → Leaves n k (prepared a o p)
    prepared_lengths None p ht hb = tt
    prepared_lengths (Some ds) None ht hb = tt
    prepared_lengths (Some ds) (Some b) ht hb =
        let t = then_some (running a (a.negative right) cs s.fixed) _ b hb in
        let tops = topped_means a laws cs (meant a cs) s.moves ds (lists_refl (meant a cs)) ht in
        let h : Lengths (record { B = b; columns = ds })
        = record {
          B_length = ap (λ (c : Column N). length c.low) (sym (some_is t.1.1)) ∙ hs.fixed_length;
          lows_length = topped_lows a laws n cs s.moves ds ht hs.moves_length;
          many = sym (length-map ds (full a)) ∙ columns_length tops ∙ length-map (map (meant a) s.moves) (under (meant a cs)) ∙ length-map s.moves (meant a) ∙ hs.many;
        } in
        cond_both (eqb (total_size a ds) 0) (cond (eqb (a.size b.top) 0) implied contradicted) (worked a b (normalised a ds)) (Leaves n k)
        (λ _. cond_both (eqb (a.size b.top) 0) implied contradicted (Leaves n k) (λ _. tt) (λ _. tt))
        (λ _. worked_lengths b ds h (normalised a ds) refl)

    pub posted_leaves : Leaves n k (posted a s cs right)
    posted_leaves = prepared_lengths (topped a cs s.moves) (column_B a cs right s.fixed) refl refl
