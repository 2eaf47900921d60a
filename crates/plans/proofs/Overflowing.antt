-- Where an add-product of a posting gives none, the posting overflows.
use Rattle.std.proofs.Common.{◌≡◌, ℕ, zero, suc, ◌<◌, cond, eqb, ◌⊎◌, List, [], ◌∷◌, Some, None, Option, refl, ap, ◌∙◌, ⊎_elim, arith}
use Rattle.std.proofs.lemmas.Bool.{eq-eqb, ne_eqb}
use Rattle.kinds.specs.Kind.{Arithmetic, Laws}
use Rattle.plans.specs.Sheet.{Contents}
use Rattle.plans.specs.Posting.{then, Column, Work, implied, contradicted, overflow, stop, fail, running, adds, adds_column, blank, topped, column_B, normalised, at, size_at, pivot_of, runner_up_of, reduced, round, turned, turn_by, turn_at, turn, on, rounds, total_size, closed, settled, finish_by, finish, worked, prepared, posted}
use Rattle.plans.specs.Overflows.{LacksSum, LacksTops, Lacks, LacksColumn, LacksUnits, LacksReduced, LacksFinish, Comes, here, onward, LacksRound, LacksEnd, Lacking, in_tops, in_B, in_units, in_rounds}
use Rattle.plans.proofs.Falling.{turn_falls}

-- steps come to none where the first does
none_first : {X Y : Type 0} (p : Option X) (f : X → Option Y) → p ≡ None → then p f ≡ None
none_first p f e = ap (λ o. then o f) e

-- or where the second does, whatever the first came to
none_after : {X Y : Type 0} (p : Option X) (f : X → Option Y) → ((x : X) → f x ≡ None) → then p f ≡ None
none_after None f h = refl
none_after (Some x) f h = h x

module _ {N C : Type 0} (a : Arithmetic N C) where
  lacks_adds : (u : List N) (q : N) (v : List N) → Lacks a u q v → adds a u q v ≡ None
  lacks_adds [] q v h = absurd h
  lacks_adds (x ∷ u) q [] h = absurd h
  lacks_adds (x ∷ u) q (y ∷ v) h =
      ⊎_elim (λ e. none_first (a.add_product x q y) _ e) (λ l. none_after (a.add_product x q y) _ (λ r. none_first (adds a u q v) _ (lacks_adds u q v l))) h

  lacks_column : (c : Column N) (q : N) (d : Column N) → LacksColumn a c q d → adds_column a c q d ≡ None
  lacks_column c q d h =
      ⊎_elim (λ e. none_first (a.add_product c.top q d.top) _ e) (λ l. none_after (a.add_product c.top q d.top) _ (λ t. none_first (adds a c.low q d.low) _ (lacks_adds c.low q d.low l))) h

  pub lacks_running : (s : N) (cs xs : List N) → LacksSum a s cs xs → running a s cs xs ≡ None
  lacks_running s [] xs h = absurd h
  lacks_running s (c ∷ cs) [] h = absurd h
  lacks_running s (c ∷ cs) (x ∷ xs) h =
      ⊎_elim (λ e. none_first (a.add_product s c x) _ e) (λ l. ap (λ o. then o (λ t. running a t cs xs)) l.1 ∙ lacks_running l.0 cs xs l.2) h

  lacks_topped : (cs : List N) (vs : List (List N)) → LacksTops a cs vs → topped a cs vs ≡ None
  lacks_topped cs [] h = absurd h
  lacks_topped cs (v ∷ vs) h =
      ⊎_elim (λ l. none_first (running a a.zero cs v) _ (lacks_running a.zero cs v l)) (λ l. none_after (running a a.zero cs v) _ (λ t. none_first (topped a cs vs) _ (lacks_topped cs vs l))) h

  lacks_B : (cs : List N) (right : N) (fixed : List N) → LacksSum a (a.negative right) cs fixed → column_B a cs right fixed ≡ None
  lacks_B cs right fixed l = none_first (running a (a.negative right) cs fixed) _ (lacks_running (a.negative right) cs fixed l)

  lacks_units : (cs : List (Column N)) → LacksUnits a cs → normalised a cs ≡ None
  lacks_units [] h = absurd h
  lacks_units (c ∷ cs) h =
      ⊎_elim (λ l. none_first (adds_column a (blank a c) (a.unit c.top) c) _ (lacks_column (blank a c) (a.unit c.top) c l))
      (λ l. none_after (adds_column a (blank a c) (a.unit c.top) c) _ (λ d. none_first (normalised a cs) _ (lacks_units cs l))) h

  lacks_reduced : (c d : Column N) → LacksReduced a c d → reduced a c d ≡ None
  lacks_reduced c d h = ap (λ o. then o (λ q. adds_column a c (a.negative q) d)) h.1 ∙ lacks_column c (a.negative h.0) d h.2

  lacks_round : (w : Work N) (l r : ℕ) → LacksReduced a w.B (at a w.columns l) ⊎ LacksReduced a (at a w.columns l) (at a w.columns r) → round a w l r ≡ None
  lacks_round w l r h =
      ⊎_elim (λ k. none_first (reduced a w.B (at a w.columns l)) _ (lacks_reduced w.B (at a w.columns l) k))
      (λ k. none_after (reduced a w.B (at a w.columns l)) _ (λ b. none_first (reduced a (at a w.columns l) (at a w.columns r)) _ (lacks_reduced (at a w.columns l) (at a w.columns r) k))) h

  -- a round that lacks a number is a turn that fails
  lacks_turn : (w : Work N) (l r : ℕ) → pivot_of a w.columns ≡ Some l → runner_up_of a w.columns l ≡ Some r → ¬ (size_at a w.columns r ≡ 0) → round a w l r ≡ None → turn a w ≡ fail
  lacks_turn w l r p q k n =
      ap (turn_at a w) p ∙ ap (turn_by a w l) q ∙ ap (λ b. cond b (stop l) (turned a (round a w l r))) (ne_eqb (size_at a w.columns r) 0 k) ∙ ap (turned a) n

  lacks_finish : (w : Work N) (l : ℕ) → LacksFinish a w.B (at a w.columns l) → finish_by a w l (a.quotient w.B.top (at a w.columns l).top) ≡ overflow
  lacks_finish w l h =
      ap (finish_by a w l) h.1 ∙
      ⊎_elim (λ n. ap (settled a w l h.0) n)
      (λ t. ap (settled a w l h.0) t.1 ∙ ap (λ b. cond b (closed a w.columns l (adds a w.B.low (a.negative h.0) (at a w.columns l).low)) contradicted) (eq-eqb (a.size t.0) 0 t.2)
      ∙ ap (closed a w.columns l) (lacks_adds w.B.low (a.negative h.0) (at a w.columns l).low t.3)) h.2

  -- the last turn: it fails, or it stops
  failed : (n : ℕ) (w : Work N) → total_size a w.columns < n → turn a w ≡ fail → rounds a n w ≡ None
  failed zero w h t = absurd (omega arith)
  failed (suc n) w h t = ap (on a (rounds a n) w) t

  stopped : (n : ℕ) (w : Work N) (l : ℕ) → total_size a w.columns < n → turn a w ≡ stop l → rounds a n w ≡ Some (l, w)
  stopped zero w l h t = absurd (omega arith)
  stopped (suc n) w l h t = ap (on a (rounds a n) w) t

module _ {N C : Type 0} (a : Arithmetic N C) (laws : Laws a) where
  -- from where rounds lead, the turns left come to the same, and are enough
  comes_rounds : {w v : Work N} → Comes a w v → (n : ℕ) → total_size a w.columns < n → (m : ℕ) × (total_size a v.columns < m) × (rounds a n w ≡ rounds a m v)
  comes_rounds (here w) n h = (n, h, refl)
  comes_rounds (onward w u v t c) zero h = absurd (omega arith)
  comes_rounds (onward w u v t c) (suc n) h =
      let f = turn_falls a laws w u t in
      let g = comes_rounds c n (omega arith) in
      (g.0, g.1, ap (on a (rounds a n) w) t ∙ g.2)

  pub lacks_rounds : (n : ℕ) (w : Work N) → total_size a w.columns < n → LacksRound a w → rounds a n w ≡ None
  lacks_rounds n w h g =
      let m = comes_rounds g.comes n h in
      m.2 ∙ failed a m.0 g.work m.1 (lacks_turn a g.work g.l g.r g.pivot g.runner_up g.goes_on (lacks_round a g.work g.l g.r g.lacks))

  lacks_end : (n : ℕ) (w : Work N) → total_size a w.columns < n → LacksEnd a w → finish a (rounds a n w) ≡ overflow
  lacks_end n w h g =
      let m = comes_rounds g.comes n h in
      ap (finish a) (m.2 ∙ stopped a m.0 g.work g.l m.1 g.stops) ∙ lacks_finish a g.work g.l g.lacks

  -- where tops and column B are there and not every top has size 0, the columns are worked
  goes_through : (s : Contents N) (cs : List N) (right : N) (ds : List (Column N)) (b : Column N) → topped a cs s.moves ≡ Some ds → column_B a cs right s.fixed ≡ Some b →
      ¬ (total_size a ds ≡ 0) → posted a s cs right ≡ worked a b (normalised a ds)
  goes_through s cs right ds b t u z =
      ap (λ o. prepared a o (column_B a cs right s.fixed)) t ∙ ap (prepared a (Some ds)) u
      ∙ ap (λ c. cond c (cond (eqb (a.size b.top) 0) implied contradicted) (worked a b (normalised a ds))) (ne_eqb (total_size a ds) 0 z)

  without_B : (o : Option (List (Column N))) → prepared a o None ≡ overflow
  without_B None = refl
  without_B (Some ds) = refl

  pub lacking_overflows : (s : Contents N) (cs : List N) (right : N) → Lacking a s cs right → posted a s cs right ≡ overflow
  lacking_overflows s cs right (in_tops l) = ap (λ o. prepared a o (column_B a cs right s.fixed)) (lacks_topped a cs s.moves l)
  lacking_overflows s cs right (in_B l) = ap (prepared a (topped a cs s.moves)) (lacks_B a cs right s.fixed l) ∙ without_B (topped a cs s.moves)
  lacking_overflows s cs right (in_units ds b t u z l) = goes_through s cs right ds b t u z ∙ ap (worked a b) (lacks_units a ds l)
  lacking_overflows s cs right (in_rounds ds fs b t u z n l) =
      goes_through s cs right ds b t u z ∙ ap (worked a b) n
      ∙ ⊎_elim (λ g. ap (finish a) (lacks_rounds (suc (total_size a fs)) (record { B = b; columns = fs }) (omega arith) g))
      (λ g. lacks_end (suc (total_size a fs)) (record { B = b; columns = fs }) (omega arith) g) l
