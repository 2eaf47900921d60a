-- The plan of a choice: gathered unknown by unknown, and what it means.
use Rattle.std.proofs.Common.{◌≡◌, ℕ, zero, suc, ◌+◌, ◌*◌, ◌<◌, ◌≤◌, ◌↔◌, List, [], ◌∷◌, ◌++◌, map, length, get_or, take, drop, set, ℤ, pos, ◌+ℤ◌, ◌*ℤ◌, Some, None, Option, sym, refl, ap, ◌∙◌, subst, arith}
use Rattle.std.specs.List.{range_with_len}
use Rattle.std.proofs.lemmas.List.FromFn.{length-map-range_with_len, get_or-map-range_with_len, map-range_with_len_more}
use Rattle.std.proofs.lemmas.List.{length-map, length_push, length-set, map-append, take_more_set, get_or-map}
use Rattle.kinds.specs.Kind.{Arithmetic, Laws, Same}
use Rattle.kinds.specs.Equation.{dot}
use Rattle.kinds.specs.Ring.{ring}
use Rattle.kinds.specs.Sames.{same_eq, same_refl, same_trans, same_add}
use Rattle.plans.specs.Overflows.{LacksSum}
use Rattle.plans.specs.Posting.{then, running}
use Rattle.plans.specs.Sheet.{Contents}
use Rattle.plans.specs.Solution.{SameLists, ended, also, plus, made, Sized}
use Rattle.plans.proofs.Lacking.{running_none}
use Rattle.plans.proofs.SameLists.{lists_refl}
use Rattle.plans.proofs.Sizes.{Measured}
use Rattle.plans.proofs.Stored.{meant, running_means, sized_meant}
use Rattle.plans.proofs.Vectors.{plus_length, made_length, dot_same}
use Rattle.sheets.specs.Cells.{number_at, move_at, moves_at, contents_in}
use Rattle.sheets.specs.Picking.{collected, entries, picked, plan_of}
use Rattle.sheets.proofs.Numbers.{number_of_part, running_more, running_end}
use Rattle.sheets.proofs.Places.{column_in}

-- options gathered into a list: one more at the end, none where one is none, and each of them
module _ {X : Type 0} where
  collected_push : (os : List (Option X)) (xs : List X) (o : Option X) (x : X) → collected os ≡ Some xs → o ≡ Some x → collected (os ++ o ∷ []) ≡ Some (xs ++ x ∷ [])
  collected_push [] xs o x e f = let z : [] ≡ xs = cc in ap (λ (p : Option X). then p (λ y. then (Some []) (λ ys. Some (y ∷ ys)))) f ∙ ap (λ (t : List X). Some (t ++ x ∷ [])) z
  collected_push (p ∷ os) xs o x e f = by p (collected os) refl e (λ ys h. collected_push os ys o x h f)
    where
      by : (p : Option X) (s : Option (List X)) → collected os ≡ s → then p (λ y. then s (λ ys. Some (y ∷ ys))) ≡ Some xs → ((ys : List X) → collected os ≡ Some ys → collected (os ++ o ∷ []) ≡ Some (ys ++ x ∷ []))
          → then p (λ y. then (collected (os ++ o ∷ [])) (λ ys. Some (y ∷ ys))) ≡ Some (xs ++ x ∷ [])
      by None s h e rest = absurd cc
      by (Some y) None h e rest = absurd cc
      by (Some y) (Some ys) h e rest = let z : y ∷ ys ≡ xs = cc in ap (λ (s : Option (List X)). then s (λ zs. Some (y ∷ zs))) (rest ys h) ∙ ap (λ (t : List X). Some (t ++ x ∷ [])) z

  collected_none : (os : List (Option X)) (i : ℕ) → i < length os → get_or os i None ≡ None → collected os ≡ None
  collected_none [] i h e = absurd (omega arith)
  collected_none (o ∷ os) zero h e = ap (λ (p : Option X). then p (λ y. then (collected os) (λ ys. Some (y ∷ ys)))) e
  collected_none (o ∷ os) (suc i) h e = by o (collected_none os i (omega arith) e)
    where
      by : (p : Option X) → collected os ≡ None → then p (λ y. then (collected os) (λ ys. Some (y ∷ ys))) ≡ None
      by None q = refl
      by (Some y) q = ap (λ (s : Option (List X)). then s (λ zs. Some (y ∷ zs))) q

  -- and where all are none, one is
  none_collected : (os : List (Option X)) → collected os ≡ None → (i : ℕ) × (i < length os) × (get_or os i None ≡ None)
  none_collected [] e = absurd cc
  none_collected (o ∷ os) e = by o (collected os) refl e (none_collected os)
    where
      by : (p : Option X) (s : Option (List X)) → collected os ≡ s → then p (λ y. then s (λ ys. Some (y ∷ ys))) ≡ None → (collected os ≡ None → (i : ℕ) × (i < length os) × (get_or os i None ≡ None))
          → (i : ℕ) × (i < length (p ∷ os)) × (get_or (p ∷ os) i None ≡ None)
      by None s h e rest = (0, omega arith, refl)
      by (Some y) None h e rest = let r = rest h in (suc r.0, omega (arith, r.1), r.2)
      by (Some y) (Some ys) h e rest = absurd cc

  -- each number of the list
  pub record Gathered (os : List (Option X)) (xs : List X) : Type 0 where
    pub long : length xs ≡ length os
    pub each : (i : ℕ) (d : X) → i < length os → get_or os i None ≡ Some (get_or xs i d)

  gathered : (os : List (Option X)) (xs : List X) → collected os ≡ Some xs → Gathered os xs
  gathered [] xs e = let z : [] ≡ xs = cc in record { long = ap length (sym z); each = λ i d h. absurd (omega arith) }
  gathered (o ∷ os) xs e = by o (collected os) refl e (gathered os)
    where
      by : (p : Option X) (s : Option (List X)) → collected os ≡ s → then p (λ y. then s (λ ys. Some (y ∷ ys))) ≡ Some xs → ((ys : List X) → collected os ≡ Some ys → Gathered os ys) → Gathered (p ∷ os) xs
      by None s h e rest = absurd cc
      by (Some y) None h e rest = absurd cc
      by (Some y) (Some ys) h e rest = let z : y ∷ ys ≡ xs = cc in subst (Gathered (Some y ∷ os)) z (record { long = ap suc (rest ys h).long; each = at (rest ys h) })
        where
          at : Gathered os ys → (i : ℕ) (d : X) → i < length (Some y ∷ os) → get_or (Some y ∷ os) i None ≡ Some (get_or (y ∷ ys) i d)
          at g zero d b = refl
          at g (suc i) d b = g.each i d (omega arith)

-- a plan that is made, by unknown
plus_at : (u : List ℤ) (y : ℤ) (v : List ℤ) (i : ℕ) → length v ≡ length u → i < length u → get_or (plus u y v) i (pos 0) ≡ get_or u i (pos 0) +ℤ y *ℤ get_or v i (pos 0)
plus_at [] y v i l h = absurd (omega arith)
plus_at (x ∷ u) y [] i l h = absurd (omega arith)
plus_at (x ∷ u) y (z ∷ v) zero l h = refl
plus_at (x ∷ u) y (z ∷ v) (suc i) l h = plus_at u y v i (omega arith) (omega arith)

regroup : (x y z d : ℤ) → x +ℤ y *ℤ z +ℤ d ≡ x +ℤ (z *ℤ y +ℤ d)
regroup x y z d = simp ring

made_at : (u : List ℤ) (vs : List (List ℤ)) (ys : List ℤ) (i : ℕ) → Sized (length u) vs → i < length u → length ys ≡ length vs →
    get_or (made u vs ys) i (pos 0) ≡ get_or u i (pos 0) +ℤ dot (map (λ v. get_or v i (pos 0)) vs) ys
made_at u [] ys i s h l = simp ring
made_at u (v ∷ vs) [] i s h l = absurd (omega arith)
made_at u (v ∷ vs) (y ∷ ys) i s h l =
    let p = plus_length u y v in
    let D = dot (map (λ v. get_or v i (pos 0)) vs) ys in
    made_at (plus u y v) vs ys i (subst (λ k. Sized k vs) (sym p) s.1) (omega arith) (omega arith)
    ∙ ap (λ (x : ℤ). x +ℤ D) (plus_at u y v i s.0 h)
    ∙ regroup (get_or u i (pos 0)) y (get_or v i (pos 0)) D

-- lists are the same where each number is
same_by : {m : ℕ} (u v : List ℤ) → length u ≡ length v → ((i : ℕ) → i < length u → Same m (get_or u i (pos 0)) (get_or v i (pos 0))) → SameLists m u v
same_by [] [] l f = ended
same_by [] (y ∷ v) l f = absurd (omega arith)
same_by (x ∷ u) [] l f = absurd (omega arith)
same_by (x ∷ u) (y ∷ v) l f = also (f 0 (omega arith)) (same_by u v (omega arith) (λ i h. f (suc i) (omega arith)))

module _ {N C : Type 0} (a : Arithmetic N C) where
  -- what the moves mean for one unknown
  entries_mean : (n : ℕ) (vs : List (List N)) (i : ℕ) → Sized n vs → i < n → map (λ v. get_or v i (pos 0)) (map (meant a) vs) ≡ meant a (entries a vs i)
  entries_mean n [] i s h = refl
  entries_mean n (v ∷ vs) i s h =
      let e : get_or (meant a v) i (pos 0) ≡ a.means (get_or v i a.zero) = get_or-map a.means v i a.zero (pos 0) (let l = s.0 in omega arith) in
      let r = entries_mean n vs i s.1 h in
      λ j. e j ∷ r j

  -- a plan is none exactly where an add-product of one of its sums gives none
  pub plan_lacks : (n : ℕ) (s : Contents N) (choice : List N) →
      (plan_of a n s choice ≡ None) ↔ ((i : ℕ) × (i < n) × LacksSum a (get_or s.fixed i a.zero) (entries a s.moves i) choice)
  plan_lacks n s choice =
      let f = picked a s choice in
      let l = length-map-range_with_len f 0 n in
      let at : (i : ℕ) → i < n → get_or (map f (range_with_len 0 n)) i None ≡ f i = λ i h. get_or-map-range_with_len f 0 n i i None h (omega arith) in (
        λ e. let c = none_collected (map f (range_with_len 0 n)) e in let h : c.0 < n = omega (arith, c.1, l) in (c.0, h, (running_none a (get_or s.fixed c.0 a.zero) (entries a s.moves c.0) choice).0 (sym (at c.0 h) ∙ c.2)),
        λ (i, h, k). collected_none (map f (range_with_len 0 n)) i (omega arith) (at i h ∙ (running_none a (get_or s.fixed i a.zero) (entries a s.moves i) choice).1 k),
      )

  pub plan_long : (n : ℕ) (s : Contents N) (choice xs : List N) → plan_of a n s choice ≡ Some xs → length xs ≡ n
  plan_long n s choice xs e = (gathered (map (picked a s choice) (range_with_len 0 n)) xs e).long ∙ length-map-range_with_len (picked a s choice) 0 n

  module _ (laws : Laws a) (n k : ℕ) (s : Contents N) (h : Measured n k s) (choice : List N) (ws : List ℤ) (same : SameLists a.modulus (meant a choice) ws) (many : length ws ≡ k) where
    abbrev plan_made : List ℤ
    plan_made = made (meant a s.fixed) (map (meant a) s.moves) ws

    picked_means : (i : ℕ) (x : N) → i < n → picked a s choice i ≡ Some x → Same a.modulus (a.means x) (get_or plan_made i (pos 0))
    picked_means i x b e =
        let lf : length (meant a s.fixed) ≡ n = length-map s.fixed a.means ∙ h.fixed_length in
        let lm : length (map (meant a) s.moves) ≡ k = length-map s.moves (meant a) ∙ h.many in
        let sized = subst (λ l. Sized l (map (meant a) s.moves)) (sym lf) (sized_meant a n s.moves h.moves_length) in
        let f : get_or (meant a s.fixed) i (pos 0) ≡ a.means (get_or s.fixed i a.zero) = get_or-map a.means s.fixed i a.zero (pos 0) (let l = h.fixed_length in omega arith) in
        let m = entries_mean n s.moves i h.moves_length b in
        let r = running_means a laws (get_or s.fixed i a.zero) (entries a s.moves i) choice x e in
        let q : get_or plan_made i (pos 0) ≡ a.means (get_or s.fixed i a.zero) +ℤ dot (meant a (entries a s.moves i)) ws
        = made_at (meant a s.fixed) (map (meant a) s.moves) ws i sized (omega arith) (omega arith) ∙ (λ j. f j +ℤ dot (m j) ws) in
        same_trans r (same_trans (same_add {a = a.means (get_or s.fixed i a.zero)} same_refl (dot_same (lists_refl (meant a (entries a s.moves i))) same)) (same_eq (sym q)))

    -- the words of the plan are the plan that the choice makes
    pub plan_means : (xs : List N) → plan_of a n s choice ≡ Some xs → SameLists a.modulus (map a.write xs) plan_made
    plan_means xs e =
        let g = gathered (map (picked a s choice) (range_with_len 0 n)) xs e in
        let lc = length-map-range_with_len (picked a s choice) 0 n in
        let lx = plan_long n s choice xs e in
        let lw = length-map xs a.write in
        let lf : length (meant a s.fixed) ≡ n = length-map s.fixed a.means ∙ h.fixed_length in
        let ld = made_length (meant a s.fixed) (map (meant a) s.moves) ws in
        same_by (map a.write xs) plan_made (lw ∙ lx ∙ sym (ld ∙ lf))
        (λ i b.
        let ix : i < length xs = omega (arith, b, lw) in
        let x = get_or xs i a.zero in
        let p : picked a s choice i ≡ Some x = sym (get_or-map-range_with_len (picked a s choice) 0 n i i None (omega arith) (omega arith)) ∙ g.each i a.zero (omega arith) in
        same_trans (same_eq (get_or-map a.write xs i a.zero (pos 0) ix)) (same_trans (laws.write_means x) (picked_means i x (omega arith) p)))

-- the number for one unknown, worked out move by move
module _ {N C : Type 0} (a : Arithmetic N C) (cells : List C) (n k i : ℕ) (room : n + k * n ≤ length cells) (there : i < n) (xs : List N) (many : length xs ≡ k) where
  abbrev Entries : List N
  Entries = entries a (moves_at a cells n k) i

  abbrev Sum : Option N
  Sum = picked a (contents_in a n k cells) xs i

  length_entries : length Entries ≡ k
  length_entries = length-map (moves_at a cells n k) (λ move. get_or move i a.zero) ∙ length-map-range_with_len (move_at a cells n) 0 k

  entry_at : (j : ℕ) (d : N) → j < k → get_or Entries j d ≡ number_at a cells (n + j * n + i)
  entry_at j d h =
      let c = column_in j k n h in
      let l = length-map-range_with_len (move_at a cells n) 0 k in
      get_or-map (λ (move : List N). get_or move i a.zero) (moves_at a cells n k) j [] d (omega arith)
      ∙ ap (λ (move : List N). get_or move i a.zero) (get_or-map-range_with_len (move_at a cells n) 0 k j j [] h (omega arith))
      ∙ number_of_part a cells (n + j * n) n i (omega arith) there

  pub pick_more : (j from : ℕ) (sum e x : N) (o : Option N) → j < k → from ≡ n + j * n → e ≡ number_at a cells (from + i) → x ≡ get_or xs j a.zero → o ≡ a.add_product sum e x
      → running a sum (drop j Entries) (drop j xs) ≡ Sum → then o (λ t. running a t (drop (j + 1) Entries) (drop (j + 1) xs)) ≡ Sum
  pick_more j from sum e x o h ef ee ex eo s =
      let l = length_entries in
      let ce : e ≡ get_or Entries j e = ee ∙ ap (λ (p : ℕ). number_at a cells (p + i)) ef ∙ sym (entry_at j e h) in
      running_more a sum Entries xs j e x o (omega arith) (omega arith) ce ex eo ∙ s

  pub pick_end : (j : ℕ) (sum : N) → k ≤ j → running a sum (drop j Entries) (drop j xs) ≡ Sum → Some sum ≡ Sum
  pick_end j sum h s = sym (running_end a sum Entries xs j (let l = length_entries in omega arith)) ∙ s

-- the words of the first i unknowns
pub record Filled {N C : Type 0} (a : Arithmetic N C) (s : Contents N) (choice : List N) (n i : ℕ) (words : List ℤ) : Type 0 where
  pub ys : List N
  pub long : length ys ≡ i
  pub came : plan_of a i s choice ≡ Some ys
  pub written : take i words ≡ map a.write ys
  pub all : length words ≡ n

module _ {N C : Type 0} (a : Arithmetic N C) (s : Contents N) (choice : List N) (n : ℕ) where
  pub fills_more : (words : List ℤ) (i : ℕ) (x : N) (w : ℤ) → i < n → Filled a s choice n i words → Some x ≡ picked a s choice i → w ≡ a.write x → Filled a s choice n (i + 1) (set words i w)
  fills_more words i x w h f e ew = record {
    ys = f.ys ++ x ∷ [];
    long = length_push f.ys x ∙ ap (λ (j : ℕ). j + 1) f.long;
    came = ap collected (map-range_with_len_more (picked a s choice) 0 i i (omega arith)) ∙ collected_push (map (picked a s choice) (range_with_len 0 i)) f.ys (picked a s choice i) x f.came (sym e);
    written = take_more_set words i w (let l = f.all in omega arith) ∙ (λ j. f.written j ++ ew j ∷ []) ∙ sym (map-append a.write f.ys (x ∷ []));
    all = length-set words i w ∙ f.all;
  }

  pub fills_none : (i : ℕ) → i < n → None ≡ picked a s choice i → plan_of a n s choice ≡ None
  fills_none i h e =
      collected_none (map (picked a s choice) (range_with_len 0 n)) i (let l = length-map-range_with_len (picked a s choice) 0 n in omega arith)
      (get_or-map-range_with_len (picked a s choice) 0 n i i None h (omega arith) ∙ sym e)
