-- A run over the steps of a slice: what is known when some of the calls are made.
use Rattle.std.proofs.Common.{◌≡◌, ℕ, ◌+◌, ◌<◌, ◌≤◌, List, [], ◌∷◌, ◌++◌, map, length, get_or, take, drop, set, sym, refl, ap, ◌∙◌, subst, append_assoc, add-zero, arith}
use Rattle.std.proofs.lemmas.Grind.{drop_more_same}
use Rattle.std.proofs.lemmas.List.{length-take-le, get_or-drop, take_more_set, take_more, take_all, drop_more, drop_all, drop-set-lt, append-nil}
use lib.Seq.{map-set_same}
use Rattle.kinds.specs.Kind.{Arithmetic}
use Rattle.runs.specs.declared.step.Step.{Step}
use Rattle.sheets.specs.Answers.{Answer}
use Rattle.sheets.specs.Calls.{SheetCall, sheet_call, answer_to, sheet_after, memory_after}
use Rattle.sheets.specs.Law.{CallLaw}
use Rattle.sheets.specs.Sheet.{Model}
use Rattle.runs.specs.Run.{memory_of, memory_names, calls_in, calls_lent, CallMade, calls_made, made_on, run_of, sheet_left, CallsLaw}

-- the calls made of more steps
calls_made-append : (ss ts us vs : List Step) → length ss ≡ length ts → calls_made (ss ++ us) (ts ++ vs) ≡ calls_made ss ts ++ calls_made us vs
calls_made-append [] [] us vs l = refl
calls_made-append [] (t ∷ ts) us vs l = absurd (omega arith)
calls_made-append (s ∷ ss) [] us vs l = absurd (omega arith)
calls_made-append (s ∷ ss) (t ∷ ts) us vs l =
    ap (λ (cs : List CallMade). record { call = sheet_call s.call; lent = memory_of s; answer = t.answer; left = memory_of t } ∷ cs) (calls_made-append ss ts us vs (omega arith))

-- of the steps `first`, i are made on the sheet m, which is now t: what is left to be made comes to what all do
pub record Made {N C : Type 0} (a : Arithmetic N C) (m t : Model C) (first steps : List Step) (i : ℕ) : Type 0 where
  pub calls : calls_in steps ≡ calls_in first
  pub names : map memory_names steps ≡ map memory_names first
  pub untouched : drop i steps ≡ drop i first
  pub so_far : calls_made (take i first) (take i steps) ++ run_of a t (calls_lent (drop i first)) ≡ run_of a m (calls_lent first)
  pub behind : sheet_left a t (calls_in (drop i first)) ≡ sheet_left a m (calls_in first)
  pub lawful : CallsLaw a t (calls_lent (drop i first)) → CallsLaw a m (calls_lent first)

module _ {N C : Type 0} (a : Arithmetic N C) (m : Model C) (first : List Step) where
  -- one call more is made, on the sheet t, which is then u
  pub made_more : (t u : Model C) (steps : List Step) (i : ℕ) (d step : Step) → i < length first → length steps ≡ length first →
      memory_names step ≡ memory_names (get_or steps i d) → step.call ≡ (get_or steps i d).call →
      step.answer ≡ answer_to a t (memory_of (get_or steps i d)) (sheet_call (get_or steps i d).call) →
      memory_of step ≡ memory_after a t (memory_of (get_or steps i d)) (sheet_call (get_or steps i d).call) →
      u ≡ sheet_after a t (sheet_call (get_or steps i d).call) →
      CallLaw a t (sheet_call (get_or steps i d).call) (memory_of (get_or steps i d)) step.answer u (memory_of step) →
      Made a m t first steps i → Made a m u first (set steps i step) (i + 1)
  made_more t u steps i d step h k names same answer left after law made =
      let s : Step = get_or steps i d in
      let c : SheetCall = sheet_call s.call in
      let first_is : get_or first i d ≡ s = sym (get_or-drop_zero first i) ∙ ap (λ (xs : List Step). get_or xs 0 d) (sym made.untouched) ∙ get_or-drop_zero steps i in
      let next : drop i first ≡ s ∷ drop (i + 1) first = drop_more first i d h ∙ ap (λ (x : Step). x ∷ drop (i + 1) first) first_is in
      let step_made : CallMade = record { call = c; lent = memory_of s; answer = step.answer; left = memory_of step } in
      let is_made : step_made ≡ made_on a t (c, memory_of s) = λ j. record { call = c; lent = memory_of s; answer = answer j; left = left j } in
      let first_more : take (i + 1) first ≡ take i first ++ s ∷ [] = take_more first i d h ∙ ap (λ (x : Step). take i first ++ x ∷ []) first_is in
      let steps_more : take (i + 1) (set steps i step) ≡ take i steps ++ step ∷ [] = take_more_set steps i step (omega arith) in
      let lf = length-take-le i first (omega arith) in
      let ls = length-take-le i steps (omega arith) in
      let rest = calls_lent (drop (i + 1) first) in
      record {
        calls = map-set_same (λ x. sheet_call x.call) steps i step d (ap sheet_call same) ∙ made.calls;
        names = map-set_same memory_names steps i step d names ∙ made.names;
        untouched = drop-set-lt (i + 1) steps i step (omega arith) ∙ drop_more_same steps first i made.untouched;
        so_far =
            (λ j. calls_made (first_more j) (steps_more j) ++ run_of a u rest)
            ∙ ap (λ (cs : List CallMade). cs ++ run_of a u rest) (calls_made-append (take i first) (take i steps) (s ∷ []) (step ∷ []) (lf ∙ sym ls))
            ∙ append_assoc (calls_made (take i first) (take i steps)) (step_made ∷ []) (run_of a u rest)
            ∙ (λ j. calls_made (take i first) (take i steps) ++ (is_made j ∷ run_of a (after j) rest))
            ∙ ap (λ (xs : List Step). calls_made (take i first) (take i steps) ++ run_of a t (calls_lent xs)) (sym next)
            ∙ made.so_far;
        behind = ap (λ (v : Model C). sheet_left a v (calls_in (drop (i + 1) first))) after ∙ ap (λ (xs : List Step). sheet_left a t (calls_in xs)) (sym next) ∙ made.behind;
        lawful = λ laws. made.lawful (subst (λ (xs : List Step). CallsLaw a t (calls_lent xs)) (sym next) (
          subst (λ (r : Answer). CallLaw a t c (memory_of s) r (sheet_after a t c) (memory_after a t (memory_of s) c)) answer
              (subst (λ (v : Model C). CallLaw a t c (memory_of s) step.answer v (memory_after a t (memory_of s) c)) after
              (subst (CallLaw a t c (memory_of s) step.answer u) left law)),
          subst (λ (v : Model C). CallsLaw a v rest) after laws,
        ));
      }
    where
      get_or-drop_zero : (xs : List Step) (i : ℕ) → get_or (drop i xs) 0 d ≡ get_or xs i d
      get_or-drop_zero xs i = get_or-drop i xs 0 d ∙ ap (λ (k : ℕ). get_or xs k d) (add-zero i)

  -- before the first
  pub made_none : Made a m m first first 0
  made_none = record { calls = refl; names = refl; untouched = refl; so_far = refl; behind = refl; lawful = λ laws. laws }

  -- behind the last
  pub made_all : (t : Model C) (steps : List Step) (i : ℕ) → length first ≤ i → length steps ≡ length first → Made a m t first steps i →
      (calls_made first steps ≡ run_of a m (calls_lent first)) × (t ≡ sheet_left a m (calls_in first)) × CallsLaw a m (calls_lent first)
  made_all t steps i h k made =
      let none : drop i first ≡ [] = drop_all i first h in
      let all_first : first ≡ take i first = sym (take_all i first h) in
      let all_steps : steps ≡ take i steps = sym (take_all i steps (omega arith)) in (
        sym (append-nil (calls_made first steps))
            ∙ (λ j. calls_made (all_first j) (all_steps j) ++ run_of a t (calls_lent (sym none j)))
            ∙ made.so_far,
        ap (λ (xs : List Step). sheet_left a t (calls_in xs)) (sym none) ∙ made.behind,
        made.lawful (subst (λ (xs : List Step). CallsLaw a t (calls_lent xs)) (sym none) tt),
      )

-- the calls of those with their memory
pub calls_of_lent : (steps : List Step) → map (λ r. r.0) (calls_lent steps) ≡ calls_in steps
calls_of_lent [] = refl
calls_of_lent (s ∷ steps) = ap (λ (cs : List SheetCall). sheet_call s.call ∷ cs) (calls_of_lent steps)
