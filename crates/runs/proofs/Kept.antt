-- The promise of a run, from the law of its opening and those of single calls.
use Rattle.std.proofs.Common.{◌≡◌, ℕ, List, [], ◌∷◌, ◌++◌, map, refl, sym, ◌∙◌, subst}
use Rattle.kinds.specs.Kind.{Arithmetic}
use Rattle.kinds.specs.Equation.{Equation}
use Rattle.sheets.specs.Calls.{SheetCall, Memory, answer_to, sheet_after, memory_after, in_force_after}
use Rattle.sheets.specs.Law.{StandsFor, Sound, SpareZero, Rightly}
use Rattle.sheets.specs.Sheet.{Model, contents_of}
use Rattle.runs.specs.Run.{CallMade, made_on, run_of, sheet_left, CallsLaw}
use Rattle.runs.specs.Promise.{in_force_from, in_force, sheet_behind, Promise}

module _ {N C : Type 0} (a : Arithmetic N C) where
  -- the sheet m has n unknowns and stands for es, its cells pass their checks and the spare ones hold zero
  pub record Keeps (n : ℕ) (es : List Equation) (m : Model C) : Type 0 where
    pub unknowns : m.unknowns ≡ n
    pub stands : StandsFor a m es
    pub sound : Sound a m
    pub spare : SpareZero a m

  -- after any list of calls it stands for the equations in force
  run_keeps : (n : ℕ) (es : List Equation) (m : Model C) (lent_calls : List (SheetCall × Memory)) → CallsLaw a m lent_calls → Keeps n es m →
      Keeps n (in_force_from n es (run_of a m lent_calls)) (sheet_left a m (map (λ r. r.0) lent_calls))
  run_keeps n es m [] laws k = k
  run_keeps n es m (r ∷ lent_calls) laws k =
      let law = laws.0 in
      let es_after : ℕ → List Equation = λ x. in_force_after x r.0 (answer_to a m r.1 r.0) es in
      run_keeps n (es_after n) (sheet_after a m r.0) lent_calls laws.1
      (record {
        unknowns = law.unknowns ∙ k.unknowns;
        stands = subst (λ (x : ℕ). StandsFor a (sheet_after a m r.0) (es_after x)) k.unknowns (law.in_force es k.stands);
        sound = law.sound k.sound;
        spare = law.spare k.spare;
      })

  run_list : (m : Model C) (lent_calls : List (SheetCall × Memory)) → CallsLaw a m lent_calls → (sheet_left a m (map (λ r. r.0) lent_calls)).list ≡ m.list
  run_list m [] laws = refl
  run_list m (r ∷ lent_calls) laws = run_list (sheet_after a m r.0) lent_calls laws.1 ∙ laws.0.list

  -- and each call among them, wherever it stands, is rightly answered
  run_right : (n : ℕ) (es : List Equation) (m : Model C) (lent_calls : List (SheetCall × Memory)) → CallsLaw a m lent_calls → Keeps n es m →
      (before behind : List CallMade) (c : CallMade) → run_of a m lent_calls ≡ before ++ (c ∷ behind) →
      Rightly a n (in_force_from n es before) (contents_of a (sheet_behind a m before)) c.call c.lent c.answer c.left
  run_right n es m [] laws k [] behind c e = absurd cc
  run_right n es m [] laws k (b ∷ before) behind c e = absurd cc
  run_right n es m (r ∷ lent_calls) laws k [] behind c e =
      let first : made_on a m r ≡ c = cc in
      subst (λ (x : CallMade). Rightly a n es (contents_of a m) x.call x.lent x.answer x.left) first
      (subst (λ (x : ℕ). Rightly a x es (contents_of a m) r.0 r.1 (answer_to a m r.1 r.0) (memory_after a m r.1 r.0)) k.unknowns (laws.0.rightly es k.stands))
  run_right n es m (r ∷ lent_calls) laws k (b ∷ before) behind c e =
      let first : made_on a m r ≡ b = cc in
      let rest : run_of a (sheet_after a m r.0) lent_calls ≡ before ++ (c ∷ behind) = cc in
      let law = laws.0 in
      let es_after : ℕ → List Equation = λ x. in_force_after x r.0 (answer_to a m r.1 r.0) es in
      subst (λ (x : CallMade). Rightly a n (in_force_from n (in_force_after n x.call x.answer es) before) (contents_of a (sheet_behind a (sheet_after a m x.call) before)) c.call c.lent c.answer c.left) first
      (run_right n (es_after n) (sheet_after a m r.0) lent_calls laws.1
      (record {
        unknowns = law.unknowns ∙ k.unknowns;
        stands = subst (λ (x : ℕ). StandsFor a (sheet_after a m r.0) (es_after x)) k.unknowns (law.in_force es k.stands);
        sound = law.sound k.sound;
        spare = law.spare k.spare;
      })
      before behind c rest)

  -- the promise, of calls made from the opening on
  pub run_promised : (m : Model C) (lent_calls : List (SheetCall × Memory)) → CallsLaw a m lent_calls → Keeps m.unknowns [] m → Promise a m (run_of a m lent_calls) (sheet_left a m (map (λ r. r.0) lent_calls))
  run_promised m lent_calls laws k =
      let after = sheet_left a m (map (λ r. r.0) lent_calls) in
      let kept = run_keeps m.unknowns [] m lent_calls laws k in
      let n_is : m.unknowns ≡ after.unknowns = sym kept.unknowns in
      record {
        unknowns = kept.unknowns;
        list = run_list m lent_calls laws;
        general = subst (λ (x : ℕ). StandsFor a after (in_force x (run_of a m lent_calls))) n_is kept.stands;
        rightly = λ before behind c e. subst (λ (x : ℕ). Rightly a x (in_force x before) (contents_of a (sheet_behind a m before)) c.call c.lent c.answer c.left) n_is
            (run_right m.unknowns [] m lent_calls laws k before behind c e);
        sound = kept.sound;
        spare = kept.spare;
      }
