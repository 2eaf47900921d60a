-- Posting an equation to a sheet, step by step: which answer it gets, and what the sheet then holds. Assumes nothing.
use Rattle.std.specs.Prelude.{◌≡◌, ℕ, zero, suc, ◌+◌, ◌<◌, cond, List, [], ◌∷◌, map, length, Some, None, Option, ◌==◌, nat_lt, slice_index_or, slice_set}
use Rattle.std.specs.Option.{option_and_then}
use Rattle.kinds.specs.Kind.{Arithmetic}
use Rattle.plans.specs.Sheet.{Contents}

-- goes on with what came, if anything did
abbrev pub then : {X Y : Type 0} → Option X → (X → Option Y) → Option Y
then o f = option_and_then f o

-- a list without its place i
abbrev pub without : {X : Type 0} → List X → ℕ → List X
without [] i = []
without (x ∷ xs) zero = xs
without (x ∷ xs) (suc i) = x ∷ without xs i

-- the larger by f of what was best and n; what was best on a tie
abbrev pub larger : (ℕ → ℕ) → ℕ → Option ℕ → Option ℕ
larger f n (Some best) = Some (cond (nat_lt (f best) (f n)) n best)
larger f n None = Some n

-- the place, of the first n but `skip`, of the largest by f, the lowest on a tie
abbrev pub largest_of : (ℕ → ℕ) → ℕ → ℕ → Option ℕ
largest_of f skip zero = None
largest_of f skip (suc n) = cond (n == skip) (largest_of f skip n) (larger f n (largest_of f skip n))

-- a move or a fixed plan below its top
pub record Column (N : Type 0) : Type 0 where
  pub top : N
  pub low : List N

-- what is worked on: column B, and the moves' columns
pub record Work (N : Type 0) : Type 0 where
  pub B : Column N
  pub columns : List (Column N)

-- how a posting comes out
pub data Outcome (N : Type 0) : Type 0 where
  taken : Contents N → Outcome N
  implied : Outcome N
  contradicted : Outcome N
  overflow : Outcome N

-- what one turn of the rounds comes to
pub data Turn (N : Type 0) : Type 0 where
  stop : ℕ → Turn N
  again : Work N → Turn N
  fail : Turn N

module _ {N C : Type 0} (a : Arithmetic N C) where
  -- the running sum from s of coefficient × entry
  abbrev pub running : N → List N → List N → Option N
  running s [] xs = Some s
  running s (c ∷ cs) [] = Some s
  running s (c ∷ cs) (x ∷ xs) = then (a.add_product s c x) (λ t. running t cs xs)

  -- u + q × v, entry by entry
  abbrev pub adds : List N → N → List N → Option (List N)
  adds [] q v = Some []
  adds (x ∷ u) q [] = Some (x ∷ u)
  adds (x ∷ u) q (y ∷ v) = then (a.add_product x q y) (λ r. then (adds u q v) (λ rs. Some (r ∷ rs)))

  -- a column plus q × another, from the top down
  abbrev pub adds_column : Column N → N → Column N → Option (Column N)
  adds_column c q d =
      then (a.add_product c.top q d.top) (λ t. then (adds c.low q d.low) (λ l. Some (record { top = t; low = l })))

  abbrev pub blank : Column N → Column N
  blank c = record { top = a.zero; low = map (λ _. a.zero) c.low }

  -- (tops) each move below its top
  abbrev pub topped : List N → List (List N) → Option (List (Column N))
  topped cs [] = Some []
  topped cs (v ∷ vs) =
      then (running a.zero cs v) (λ t. then (topped cs vs) (λ ds. Some (record { top = t; low = v } ∷ ds)))

  -- (column B) the fixed plan, with the running sum from minus the right side as its top
  abbrev pub column_B : List N → N → List N → Option (Column N)
  column_B cs right fixed = then (running (a.negative right) cs fixed) (λ t. Some (record { top = t; low = fixed }))

  -- (normalise) each column × the unit of its top
  abbrev pub normalised : List (Column N) → Option (List (Column N))
  normalised [] = Some []
  normalised (c ∷ cs) = then (adds_column (blank c) (a.unit c.top) c) (λ d. then (normalised cs) (λ ds. Some (d ∷ ds)))

  -- column j, and the size of its top
  abbrev pub at : List (Column N) → ℕ → Column N
  at cs j = slice_index_or cs j (record { top = a.zero; low = [] })

  abbrev pub size_at : List (Column N) → ℕ → ℕ
  size_at cs j = a.size (at cs j).top

  -- (choose) the pivot, and the runner-up among the others
  abbrev pub pivot_of : List (Column N) → Option ℕ
  pivot_of cs = largest_of (size_at cs) (length cs) (length cs)

  abbrev pub runner_up_of : List (Column N) → ℕ → Option ℕ
  runner_up_of cs l = largest_of (size_at cs) l (length cs)

  -- c less d × the quotient of their tops
  abbrev pub reduced : Column N → Column N → Option (Column N)
  reduced c d = then (a.quotient c.top d.top) (λ q. adds_column c (a.negative q) d)

  -- (round) B reduced by the pivot l, and the pivot by the runner-up r
  abbrev pub round : Work N → ℕ → ℕ → Option (Work N)
  round w l r =
      then (reduced w.B (at w.columns l))
      (λ b. then (reduced (at w.columns l) (at w.columns r))
      (λ d. Some (record { B = b; columns = slice_set w.columns l d })))

  abbrev pub turned : Option (Work N) → Turn N
  turned (Some w) = again w
  turned None = fail

  abbrev pub turn_by : Work N → ℕ → Option ℕ → Turn N
  turn_by w l None = stop l
  turn_by w l (Some r) = cond (size_at w.columns r == 0) (stop l) (turned (round w l r))

  abbrev pub turn_at : Work N → Option ℕ → Turn N
  turn_at w None = fail
  turn_at w (Some l) = turn_by w l (runner_up_of w.columns l)

  abbrev pub turn : Work N → Turn N
  turn w = turn_at w (pivot_of w.columns)

  -- what a turn leads on to
  abbrev pub on : (Work N → Option (ℕ × Work N)) → Work N → Turn N → Option (ℕ × Work N)
  on rest w (stop l) = Some (l, w)
  on rest w (again v) = rest v
  on rest w fail = None

  -- the rounds, until no runner-up is left: the pivot's place, and the columns then. At most n turns are made
  abbrev pub rounds : ℕ → Work N → Option (ℕ × Work N)
  rounds zero w = None
  rounds (suc n) w = on (rounds n) w (turn w)

  -- the sum of the tops' sizes falls with each round, so one turn more than that is enough
  abbrev pub total_size : List (Column N) → ℕ
  total_size [] = 0
  total_size (c ∷ cs) = a.size c.top + total_size cs

  -- (finish) B reduced by the pivot l: its top first, and if that comes to 0 the lower entries
  abbrev pub closed : List (Column N) → ℕ → Option (List N) → Outcome N
  closed cs l None = overflow
  closed cs l (Some fixed) = taken (record { fixed = fixed; moves = map (λ c. c.low) (without cs l) })

  abbrev pub settled : Work N → ℕ → N → Option N → Outcome N
  settled w l q None = overflow
  settled w l q (Some t) =
      cond (a.size t == 0) (closed w.columns l (adds w.B.low (a.negative q) (at w.columns l).low)) contradicted

  abbrev pub finish_by : Work N → ℕ → Option N → Outcome N
  finish_by w l None = overflow
  finish_by w l (Some q) = settled w l q (a.add_product w.B.top (a.negative q) (at w.columns l).top)

  abbrev pub finish : Option (ℕ × Work N) → Outcome N
  finish None = overflow
  finish (Some (l, w)) = finish_by w l (a.quotient w.B.top (at w.columns l).top)

  abbrev pub worked : Column N → Option (List (Column N)) → Outcome N
  worked b None = overflow
  worked b (Some cs) = finish (rounds (suc (total_size cs)) (record { B = b; columns = cs }))

  -- (flat) where every top has size 0, the equation is implied or contradicted
  abbrev pub flat : List (Column N) → Column N → Outcome N → Outcome N
  flat cs b rest = cond (total_size cs == 0) (cond (a.size b.top == 0) implied contradicted) rest

  abbrev pub prepared : Option (List (Column N)) → Option (Column N) → Outcome N
  prepared None b = overflow
  prepared (Some cs) None = overflow
  prepared (Some cs) (Some b) = flat cs b (worked b (normalised cs))

  -- a posting of coefficients and a right side to what a sheet holds
  abbrev pub posted : Contents N → List N → N → Outcome N
  posted s cs right = prepared (topped cs s.moves) (column_B cs right s.fixed)

  -- the turns are enough: any number of them beyond the sum of the tops' sizes comes to the same
  abbrev pub EnoughTurns : Type 0
  EnoughTurns = (n m : ℕ) (w : Work N) → total_size w.columns < n → total_size w.columns < m → rounds n w ≡ rounds m w
