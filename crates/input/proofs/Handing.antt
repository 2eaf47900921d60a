-- Lines that are handed to a sink one after another.
use Rattle.std.proofs.Common.{◌≡◌, ℕ, List, [], ◌∷◌, ◌++◌, take, Some, None, Result, Ok, Err, MatchResult, refl, sym, ap, subst, ◌∙◌}
use Rattle.input.specs.Cutting.{line, rest, lines, Handed}
use Rattle.input.specs.declared.TheConstants.{KEEP}
use Rattle.input.proofs.Cuts.{lines_found, lines_missed}

-- the lines of a text that has a line feed, where others are those that follow the first
lines_with : (old xs ys new : List ℕ) (others : List (List ℕ)) → rest xs ≡ Some ys → new ≡ [] → lines new ys ≡ others → lines old xs ≡ take KEEP (old ++ line xs) ∷ others
lines_with old xs ys new others e n is =
    let one : List ℕ = take KEEP (old ++ line xs) in
    lines_found old xs ys e ∙ ap (λ (t : List (List ℕ)). one ∷ t) (ap (λ (t : List ℕ). lines t ys) (sym n) ∙ is)

-- how the lines that were handed on end
abbrev Ends : {E : Type 0} → Result (Unit {0}) E → List (List ℕ) → List (List ℕ) → List ℕ → Type 0
Ends result handed xs held =
    MatchResult result (λ _. handed ≡ xs) (λ _. (before rest : List (List ℕ)) × (handed ≡ before ++ held ∷ []) × (xs ≡ before ++ held ∷ rest))

ends_behind : {E : Type 0} (result : Result (Unit {0}) E) (first : List ℕ) (handed xs all : List (List ℕ)) (held : List ℕ) → all ≡ first ∷ xs → Ends result handed xs held → Ends result (first ∷ handed) all held
ends_behind (Ok _) first handed xs all held e is = ap (λ (t : List (List ℕ)). first ∷ t) is ∙ sym e
ends_behind (Err _) first handed xs all held e (before, rest, handed_is, xs_is) =
    (first ∷ before, rest, ap (λ (t : List (List ℕ)). first ∷ t) handed_is, e ∙ ap (λ (t : List (List ℕ)). first ∷ t) xs_is)

module _ {S E : Type 0} (takes : S → List (List ℕ) → Result (Unit {0}) E → S → Type 0) where
  -- the sink takes the first line, and the others are handed to it
  pub handed_on : ((x y z : S) (xs ys : List (List ℕ)) (result : Result (Unit {0}) E) → takes x xs (Ok tt) y → takes y ys result z → takes x (xs ++ ys) result z)
      → (f g last : S) (old xs ys new : List ℕ) (result : Result (Unit {0}) E) (held : List ℕ) → rest xs ≡ Some ys → new ≡ []
      → takes f (take KEEP (old ++ line xs) ∷ []) (Ok tt) g → Handed takes g (lines new ys) result last held → Handed takes f (lines old xs) result last held
  handed_on both f g last old xs ys new result held e n call others = record {
    handed = take KEEP (old ++ line xs) ∷ others.handed;
    taken = both f g last (take KEEP (old ++ line xs) ∷ []) others.handed result call others.taken;
    ends = ends_behind result (take KEEP (old ++ line xs)) others.handed (lines new ys) (lines old xs) held (lines_with old xs ys new (lines new ys) e n refl) others.ends;
  }

  -- it refuses the first line, which is held
  pub handed_until : (f last : S) (old xs ys : List ℕ) (error : E) (result : Result (Unit {0}) E) (held : List ℕ) → rest xs ≡ Some ys → result ≡ Err error
      → held ≡ take KEEP (old ++ line xs) → takes f (take KEEP (old ++ line xs) ∷ []) (Err error) last → Handed takes f (lines old xs) result last held
  handed_until f last old xs ys error result held e failed kept call =
      subst (λ r. Handed takes f (lines old xs) r last held) (sym failed) (record {
        handed = take KEEP (old ++ line xs) ∷ [];
        taken = call;
        ends = ([], lines [] ys, ap (λ (t : List ℕ). t ∷ []) (sym kept), lines_found old xs ys e ∙ ap (λ (t : List ℕ). t ∷ lines [] ys) (sym kept));
      })

  -- there is no line
  pub handed_all : (f : S) (old xs held : List ℕ) → takes f [] (Ok tt) f → rest xs ≡ None → Handed takes f (lines old xs) (Ok tt) f held
  handed_all f old xs held none e = record { handed = []; taken = none; ends = sym (lines_missed old xs e) }
