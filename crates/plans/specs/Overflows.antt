-- Where a posting overflows: exactly where one of its add-products gives none, and nothing else can. Assumes nothing.
use Rattle.std.specs.Prelude.{◌≡◌, ℕ, ◌<◌, ◌↔◌, ◌⊎◌, List, [], ◌∷◌, Some, None}
use Rattle.kinds.specs.Kind.{Arithmetic}
use Rattle.plans.specs.Sheet.{Contents}
use Rattle.plans.specs.Posting.{Column, Work, stop, again, overflow, blank, topped, column_B, normalised, at, size_at, pivot_of, runner_up_of, turn, rounds, total_size, posted}

module _ {N C : Type 0} (a : Arithmetic N C) where
  -- an add-product of the running sum from s gives none
  abbrev pub LacksSum : N → List N → List N → Type 0
  LacksSum s [] xs = ⊥
  LacksSum s (c ∷ cs) [] = ⊥
  LacksSum s (c ∷ cs) (x ∷ xs) =
      (a.add_product s c x ≡ None) ⊎ ((t : N) × (a.add_product s c x ≡ Some t) × LacksSum t cs xs)

  -- the same of a move's top
  abbrev pub LacksTops : List N → List (List N) → Type 0
  LacksTops cs [] = ⊥
  LacksTops cs (v ∷ vs) = LacksSum a.zero cs v ⊎ LacksTops cs vs

  -- an add-product of u + q × v, entry by entry, gives none
  abbrev pub Lacks : List N → N → List N → Type 0
  Lacks [] q v = ⊥
  Lacks (x ∷ u) q [] = ⊥
  Lacks (x ∷ u) q (y ∷ v) = (a.add_product x q y ≡ None) ⊎ Lacks u q v

  -- the same of a column plus q × another
  abbrev pub LacksColumn : Column N → N → Column N → Type 0
  LacksColumn c q d = Lacks (c.top ∷ c.low) q (d.top ∷ d.low)

  -- the same of a column × the unit of its top
  abbrev pub LacksUnits : List (Column N) → Type 0
  LacksUnits [] = ⊥
  LacksUnits (c ∷ cs) = LacksColumn (blank a c) (a.unit c.top) c ⊎ LacksUnits cs

  -- the tops have a quotient, and an add-product of c less d × that gives none
  abbrev pub LacksReduced : Column N → Column N → Type 0
  LacksReduced c d = (q : N) × (a.quotient c.top d.top ≡ Some q) × LacksColumn c (a.negative q) d

  -- the same of the end: of b's top, or, only where that comes to size 0, of an entry below it
  abbrev pub LacksFinish : Column N → Column N → Type 0
  LacksFinish b d =
      (q : N) × (a.quotient b.top d.top ≡ Some q) ×
      ((a.add_product b.top (a.negative q) d.top ≡ None) ⊎
      ((t : N) × (a.add_product b.top (a.negative q) d.top ≡ Some t) ×
      (a.size t ≡ 0) × Lacks b.low (a.negative q) d.low))

  -- v comes from w by rounds
  pub data Comes : Work N → Work N → Type 0 where
    here : (w : Work N) → Comes w w
    onward : (w u v : Work N) → turn a w ≡ again u → Comes u v → Comes w v

  -- where the rounds from w lack a number: at a round, of the pivot l and a runner-up r whose top has not size 0
  pub record LacksRound (w : Work N) : Type 0 where
    pub work : Work N
    pub l : ℕ
    pub r : ℕ
    pub comes : Comes w work
    pub pivot : pivot_of a work.columns ≡ Some l
    pub runner_up : runner_up_of a work.columns l ≡ Some r
    pub goes_on : ¬ (size_at a work.columns r ≡ 0)
    pub lacks : LacksReduced work.B (at a work.columns l) ⊎ LacksReduced (at a work.columns l) (at a work.columns r)

  -- or at the end, where the pivot l is left
  pub record LacksEnd (w : Work N) : Type 0 where
    pub work : Work N
    pub l : ℕ
    pub comes : Comes w work
    pub stops : turn a work ≡ stop l
    pub lacks : LacksFinish work.B (at a work.columns l)

  -- an add-product of a posting gives none: of the moves' tops, of B's top, or, where not every move's top has size 0,
  -- of the columns normalised, of a round or of the end. One that comes after another that gives none counts too
  pub data Lacking (s : Contents N) (cs : List N) (right : N) : Type 0 where
    in_tops : LacksTops cs s.moves → Lacking s cs right
    in_B : LacksSum (a.negative right) cs s.fixed → Lacking s cs right
    in_units : (ds : List (Column N)) (b : Column N) →
        topped a cs s.moves ≡ Some ds → column_B a cs right s.fixed ≡ Some b → ¬ (total_size a ds ≡ 0) →
        LacksUnits ds → Lacking s cs right
    in_rounds : (ds fs : List (Column N)) (b : Column N) →
        topped a cs s.moves ≡ Some ds → column_B a cs right s.fixed ≡ Some b → ¬ (total_size a ds ≡ 0) →
        normalised a ds ≡ Some fs →
        LacksRound (record { B = b; columns = fs }) ⊎ LacksEnd (record { B = b; columns = fs }) → Lacking s cs right

  -- in a posting nothing but an add-product can give none
  pub record OnlyProducts : Type 0 where
    -- each round makes the sum of the tops' sizes smaller, so the turns are never used up
    pub falls : (w v : Work N) → turn a w ≡ again v → total_size a v.columns < total_size a w.columns
    -- by a number whose size is not 0, everything has a quotient
    pub quotients : (c d : N) → ¬ (a.size d ≡ 0) → (q : N) × (a.quotient c d ≡ Some q)
    -- where not every top has size 0 there is a pivot, and its top has not size 0 either
    pub pivot : (cs : List (Column N)) → ¬ (total_size a cs ≡ 0) →
        (l : ℕ) × (pivot_of a cs ≡ Some l) × ¬ (size_at a cs l ≡ 0)
    -- a round leaves the runner-up's top as it is, and the size of that is not 0
    pub stays : (w v : Work N) → turn a w ≡ again v → ¬ (total_size a v.columns ≡ 0)
    -- a unit makes no top 0
    pub normal : (cs ds : List (Column N)) → normalised a cs ≡ Some ds →
        ¬ (total_size a cs ≡ 0) → ¬ (total_size a ds ≡ 0)
    -- so the rounds come to none exactly where an add-product of one of them does
    pub never_out : (n : ℕ) (w : Work N) → ¬ (total_size a w.columns ≡ 0) → total_size a w.columns < n →
        (rounds a n w ≡ None) ↔ LacksRound w
    -- and a posting overflows exactly where one of its add-products gives none
    pub overflows : (s : Contents N) (cs : List N) (right : N) → (posted a s cs right ≡ overflow) ↔ Lacking s cs right

  -- no posting overflows, whatever a sheet holds
  abbrev pub NeverOverflows : Type 0
  NeverOverflows = (s : Contents N) (cs : List N) (right : N) → ¬ (posted a s cs right ≡ overflow)
