-- An input whose lines are handed to a sink. Assumes nothing.
use Rattle.std.specs.Prelude.{◌≡◌, ℕ, Bool, true, List, [], ◌++◌, ◌⊎◌, Option, IfSome, Result, Ok, Err, OnOk, IfErr}
use Rattle.std.specs.Io.{StartsWith}
use Rattle.std.specs.Io.KnownBytes.{Consumes}
use Rattle.input.specs.Cutting.{lines, every_line}

module _ {S E : Type 0} (takes : S → List (List ℕ) → Result (Unit {0}) E → S → Type 0) where
  -- the sink fails at a line, or behind it; bytes were taken from the input, and those shown stand behind them
  pub record FailsAtLine (sink : S) (known : Option (List ℕ)) (bytes : List ℕ) (error : E) (last : S) : Type 0 where
    pub shown : List ℕ
    pub front : IfSome known (λ xs. StartsWith xs (bytes ++ shown))
    -- the lines up to this one, and what came of them
    pub handed : List (List ℕ)
    pub rest : List (List ℕ)
    pub split : every_line (bytes ++ shown) ≡ handed ++ rest
    pub taken : takes sink handed (Err error) last

  -- what reading the lines of an input comes to. known: the bytes that the input has, where a reader says so; left:
  -- those that it has in the end; done: whether the sink has enough
  pub record LinesTaken (done : S → Bool) (sink : S) (known : Option (List ℕ)) (result : Result (Unit {0}) E)
      (last : S) (left : Option (List ℕ)) : Type 0 where
    -- the bytes that were taken from the input
    pub bytes : List ℕ
    pub consumed : Consumes known left bytes
    -- without a failure they are all that the input has, and the sink took every line; or it is done, and took the
    -- lines that end in them
    pub taken : OnOk result ((IfSome known (λ xs. xs ≡ bytes) × takes sink (every_line bytes) (Ok tt) last)
        ⊎ ((done last ≡ true) × takes sink (lines [] bytes) (Ok tt) last))
    -- where the reading failed, it took the lines that end in them; or the sink failed
    pub failed : IfErr result
        (λ error. takes sink (lines [] bytes) (Ok tt) last ⊎ FailsAtLine sink known bytes error last)
