-- `Table::rounds`: its loops keep what holds at each turn, they end, and its clauses hold where it returns.
use Rattle.std.proofs.Common.{◌≡◌, ℕ, ◌+◌, ◌*◌, ◌<◌, ◌≤◌, List, length, Some, None, Err, sym, refl, ap, ◌∙◌, subst, rules, arith}
use Rattle.std.proofs.lemmas.Result.{err_from_is_err_and}
use Rattle.kinds.specs.Kind.{Arithmetic}
use Rattle.plans.specs.Posting.{fail, turned, turn, largest_of}
use Rattle.sheets.specs.declared.shape.Shape.{Shape}
use Rattle.sheets.specs.declared.table.Table.{Table}
use Rattle.sheets.specs.Cells.{main_cells, number_at, top_size}
use Rattle.sheets.specs.Combining.{Within}
use Rattle.sheets.specs.Work.{work_at, work_cells, Ended, unless_zero, factors}
use Rattle.sheets.proofs.Limits.{within_same}
use Rattle.sheets.proofs.RoundWalk.{RoundAt, round_start, round_entry, round_stops_at_B, round_stops_at_pivot, round_ends}
use Rattle.sheets.proofs.Rounding.{no_round}
use Rattle.sheets.proofs.Tables.{work_in}
use Rattle.sheets.proofs.Turning.{pivots, pivot_below, turn_stop, turn_round, pivot_not_runner, next as next_pivot, falls, so_far_more, so_far_none, so_far_fail, so_far_stop}
use Rattle.sheets.proofs.table.Table.rounds.Goals as goal
use Rattle.sheets.proofs.table.Table.rounds.Goals.{then-is_none-via-then-is_none, then-is_none-via-else-is_none+then-is_none-2}

-- the runner-up, at an equal shape
runner_at : {N C : Type 0} (a : Arithmetic N C) (cs : List C) (l : ℕ) {s t : Shape} → s ≡ t
    → unless_zero (top_size a cs (main_cells t.unknowns + (t.unknowns + 1)) t.unknowns) (largest_of (top_size a cs (main_cells t.unknowns + (t.unknowns + 1)) t.unknowns) l t.moves)
    ≡ unless_zero (top_size a cs (main_cells s.unknowns + (s.unknowns + 1)) s.unknowns) (largest_of (top_size a cs (main_cells s.unknowns + (s.unknowns + 1)) s.unknowns) l s.moves)
runner_at a cs l e = sym (ap (λ (t : Shape). unless_zero (top_size a cs (main_cells t.unknowns + (t.unknowns + 1)) t.unknowns) (largest_of (top_size a cs (main_cells t.unknowns + (t.unknowns + 1)) t.unknowns) l t.moves)) e)

-- and what a round multiplies by
tops_at : {N C : Type 0} (a : Arithmetic N C) (cs : List C) (l r : ℕ) {s t : Shape} → s ≡ t
    → factors a (number_at a cs (main_cells s.unknowns)) (number_at a cs (main_cells s.unknowns + (s.unknowns + 1) + l * (s.unknowns + 1))) (number_at a cs (main_cells s.unknowns + (s.unknowns + 1) + r * (s.unknowns + 1)))
    ≡ factors a (number_at a cs (main_cells t.unknowns)) (number_at a cs (main_cells t.unknowns + (t.unknowns + 1) + l * (t.unknowns + 1))) (number_at a cs (main_cells t.unknowns + (t.unknowns + 1) + r * (t.unknowns + 1)))
tops_at a cs l r e =
    ap (λ (t : Shape). factors a (number_at a cs (main_cells t.unknowns)) (number_at a cs (main_cells t.unknowns + (t.unknowns + 1) + l * (t.unknowns + 1))) (number_at a cs (main_cells t.unknowns + (t.unknowns + 1) + r * (t.unknowns + 1)))) e

pub returns-in_err-pivot-clause-ended : goal.returns-in_err-pivot-clause-ended
returns-in_err-pivot-clause-ended g c =
    let a = g.K.Kind.arith in
    let s = c.args.self.now in
    let n = s.shape.unknowns in
    let e : c.largest.result ≡ None = search rules in
    let q = err_from_is_err_and c.from_residual.result c.from_residual.ensures.1 in
    rw q.1 (so_far_none a g.met.K.Kind.kept n (main_cells n) s.shape.moves s.cells.now (pivots a n (main_cells n) s.shape.moves s.cells.now ∙ sym c.largest.ensures.value ∙ e), within_same)

pub rounds-init : goal.rounds-init
rounds-init g c =
    let a = g.K.Kind.arith in
    let s = c.args.self.now in
    let n = s.shape.unknowns in
    let e : c.largest.result ≡ Some c.in_ok-pivot.pivot = search rules in
    record {
      held = refl;
      shape = refl;
      pivot = pivots a n (main_cells n) s.shape.moves s.cells.now ∙ sym c.largest.ensures.value ∙ e;
      so_far = record { inside = within_same; same = refl };
    }

pub factors-requires-clause-pivot : goal.factors-requires-clause-pivot
factors-requires-clause-pivot g c =
    let s = c.args.self.now.shape in
    let b = pivot_below g.K.Kind.arith s.unknowns (main_cells s.unknowns) s.moves c.rounds.self.cells.now c.rounds.pivot c.rounds.invariant.pivot in
    subst (λ (t : Shape). c.rounds.pivot < t.moves) (sym c.rounds.invariant.shape) b

pub column-p-requires : goal.column-p-requires
column-p-requires g c =
    let s = c.args.self.now.shape in
    let b = pivot_below g.K.Kind.arith s.unknowns (main_cells s.unknowns) s.moves c.rounds.self.cells.now c.rounds.pivot c.rounds.invariant.pivot in
    subst (λ (t : Shape). c.rounds.pivot < t.moves) (sym c.rounds.invariant.shape) b

pub returns-in_default-clause-ended : goal.returns-in_default-clause-ended
returns-in_default-clause-ended g c =
    let a = g.K.Kind.arith in
    let s = c.args.self.now.shape in
    let n = s.unknowns in
    let p = main_cells n in
    let k = s.moves in
    let cs = c.rounds.self.cells.now in
    let l = c.rounds.pivot in
    let e : c.runner_up.result ≡ None = search rules in
    let v = runner_at a cs l c.rounds.invariant.shape in
    so_far_stop a g.met.K.Kind.kept n p k c.args.self.now.cells.now cs l c.rounds.invariant.so_far (pivot_below a n p k cs l c.rounds.invariant.pivot)
    (turn_stop a n p k cs l c.rounds.invariant.pivot (v ∙ sym c.runner_up.ensures.value ∙ e))

pub loop-i-init : goal.loop-i-init
loop-i-init g c =
    let a = g.K.Kind.arith in
    let s = c.args.self.now.shape in
    let n = s.unknowns in
    let p = main_cells n in
    let k = s.moves in
    let cs = c.rounds.self.cells.now in
    let l = c.rounds.pivot in
    let r = c.in-Some.runner in
    let es = c.rounds.invariant.shape in
    let e : c.runner_up.result ≡ Some r = search rules in
    let er = runner_at a cs l es ∙ sym c.runner_up.ensures.value ∙ e in
    let el = c.rounds.invariant.pivot in
    let eb : c.spare-b.result ≡ main_cells c.rounds.self.shape.unknowns = c.spare-b.ensures.value ∙ ap (λ (t : Shape). main_cells t.unknowns) (sym es) in
    let f : c.factors.result ≡ Some c.in-Some-factors.factors = search rules in
    let round : RoundAt a n p k cs l r c.spare-b.result c.column-p.result c.column-r.result c.in-Some-factors.factors.0 c.in-Some-factors.factors.1
    = record {
      room = subst (λ (t : Shape). main_cells t.unknowns + ((t.unknowns + 1) + t.moves * (t.unknowns + 1)) ≤ length cs) es (work_in c.rounds.self);
      pivot_below = pivot_below a n p k cs l el;
      runner_below = subst (λ (t : Shape). r < t.moves) es (search rules);
      other = pivot_not_runner a n p k cs l el r er;
      B_place = c.spare-b.ensures.value;
      pivot_place = c.column-p.ensures.value ∙ ap (λ (t : Shape). main_cells t.unknowns + (t.unknowns + 1) + l * (t.unknowns + 1)) es;
      runner_place = c.column-r.ensures.value ∙ ap (λ (t : Shape). main_cells t.unknowns + (t.unknowns + 1) + r * (t.unknowns + 1)) es;
      quotients = (λ j. factors a (number_at a cs (eb j)) (number_at a cs (c.column-p.ensures.value j)) (number_at a cs (c.column-r.ensures.value j))) ∙ sym c.factors.ensures ∙ f;
      goes_on = turn_round a n p k cs l el r er;
    } in
    record {
      held = c.rounds.invariant.held;
      shape = es;
      round = round;
      walked = round_start a g.met.K.Kind.kept n p k cs l r c.spare-b.result c.column-p.result c.column-r.result c.in-Some-factors.factors.0 c.in-Some-factors.factors.1 round;
    }

pub returns-in_default-factors-clause-ended : goal.returns-in_default-factors-clause-ended
returns-in_default-factors-clause-ended g c =
    let a = g.K.Kind.arith in
    let s = c.args.self.now.shape in
    let n = s.unknowns in
    let p = main_cells n in
    let k = s.moves in
    let cs = c.rounds.self.cells.now in
    let l = c.rounds.pivot in
    let r = c.in-Some.runner in
    let es = c.rounds.invariant.shape in
    let e : c.runner_up.result ≡ Some r = search rules in
    let f : c.factors.result ≡ None = search rules in
    let t = turn_round a n p k cs l c.rounds.invariant.pivot r (runner_at a cs l es ∙ sym c.runner_up.ensures.value ∙ e) in
    let q = tops_at a cs l r (sym es) ∙ sym c.factors.ensures ∙ f in
    so_far_fail a g.met.K.Kind.kept n p k c.args.self.now.cells.now cs cs c.rounds.invariant.so_far (t ∙ ap (turned a) (no_round a n p k l r cs (pivot_below a n p k cs l c.rounds.invariant.pivot) (subst (λ (t : Shape). r < t.moves) es (search rules)) q)) within_same

pub loop-i-preserved : goal.loop-i-preserved
loop-i-preserved g c =
    let s = c.args.self.now.shape in
    let v = c.loop-i.invariant in
    let e : c.add_number.result ≡ Some tt = search rules in
    let f : c.add_number-else-is_none.result ≡ Some tt = search rules in
    record {
      held = v.held;
      shape = v.shape;
      round = v.round;
      walked =
          round_entry g.K.Kind.arith g.met.K.Kind.kept s.unknowns (main_cells s.unknowns) s.moves _ _ _ _ _ _ _ _ v.round c.loop-i.i (omega arith) _ _ v.walked _ c.add_number.ensures e
          _ _ c.add_number-else-is_none.ensures f;
    }

pub rounds-preserved : goal.rounds-preserved
rounds-preserved g c =
    let a = g.K.Kind.arith in
    let s = c.args.self.now.shape in
    let n = s.unknowns in
    let p = main_cells n in
    let k = s.moves in
    let cs = c.rounds.self.cells.now in
    let next = c.add_number-else-is_none.new.cells in
    let l = c.rounds.pivot in
    let r = c.in-Some.runner in
    let v = c.loop-i.invariant in
    let e : c.add_number.result ≡ Some tt = search rules in
    let f : c.add_number-else-is_none.result ≡ Some tt = search rules in
    let h : c.runner_up.result ≡ Some r = search rules in
    let d = round_entry a g.met.K.Kind.kept n p k cs l r _ _ _ _ _ v.round c.loop-i.i (omega arith) _ _ v.walked _ c.add_number.ensures e next _ c.add_number-else-is_none.ensures f in
    let t = round_ends a g.met.K.Kind.kept n p k cs l r _ _ _ _ _ v.round c.loop-i.i next (omega arith) d in
    record {
      held = v.held;
      shape = v.shape;
      pivot = next_pivot a n p k cs l c.rounds.invariant.pivot r (runner_at a cs l c.rounds.invariant.shape ∙ sym c.runner_up.ensures.value ∙ h) g.met.K.Kind.kept next t.0;
      so_far = so_far_more a g.met.K.Kind.kept n p k c.args.self.now.cells.now cs next c.rounds.invariant.so_far t.0 t.1;
    }

pub rounds-smaller : goal.rounds-smaller
rounds-smaller g c =
    let a = g.K.Kind.arith in
    let s = c.args.self.now.shape in
    let n = s.unknowns in
    let p = main_cells n in
    let k = s.moves in
    let cs = c.rounds.self.cells.now in
    let next = c.add_number-else-is_none.new.cells in
    let v = c.loop-i.invariant in
    let e : c.add_number.result ≡ Some tt = search rules in
    let f : c.add_number-else-is_none.result ≡ Some tt = search rules in
    let d = round_entry a g.met.K.Kind.kept n p k cs _ _ _ _ _ _ _ v.round c.loop-i.i (omega arith) _ _ v.walked _ c.add_number.ensures e next _ c.add_number-else-is_none.ensures f in
    let t = round_ends a g.met.K.Kind.kept n p k cs _ _ _ _ _ _ _ v.round c.loop-i.i next (omega arith) d in
    falls a g.met.K.Kind.kept n p k cs next t.0

pub returns-then-is_none-clause-ended : goal.returns-then-is_none-clause-ended
returns-then-is_none-clause-ended g c =
    let a = g.K.Kind.arith in
    let s = c.args.self.now.shape in
    let n = s.unknowns in
    let p = main_cells n in
    let k = s.moves in
    let start = c.args.self.now.cells.now in
    let cs = c.rounds.self.cells.now in
    let now = c.then-is_none.self.cells.now in
    let v = c.loop-i.invariant in
    let h : c.loop-i.i < n + 1 = omega arith in
    let cells : Table g.row.K.Denot g.row.K-Cell.Denot g.K.Kind → List g.row.K-Cell.Denot = λ t. t.cells.now in
    let ended : (ds : List g.row.K-Cell.Denot) → now ≡ ds → (turn a (work_at a cs n p k) ≡ fail) × Within p (work_cells a n k) cs ds → Ended a n p k start (Err (record {})) now
    = λ ds is t. subst (λ x. Ended a n p k start (Err (record {})) x) (sym is) (so_far_fail a g.met.K.Kind.kept n p k start cs ds c.rounds.invariant.so_far t.0 t.1) in
    elim c.then-is_none.branch [
      | then-is_none-via-then-is_none w ↦
          (let e : c.add_number.result ≡ None = search rules in
          ended _ (ap cells w.self-is) (round_stops_at_B a g.met.K.Kind.kept n p k cs _ _ _ _ _ _ _ v.round c.loop-i.i h _ c.add_number.new.cells v.walked _ c.add_number.ensures e))
      | then-is_none-via-else-is_none+then-is_none-2 w ↦
          (let e : c.add_number.result ≡ Some tt = search rules in
          let f : w.add_number-else-is_none.result ≡ None = search rules in
          ended _ (ap cells w.self-is)
          (round_stops_at_pivot a g.met.K.Kind.kept n p k cs _ _ _ _ _ _ _ v.round c.loop-i.i h _ c.add_number.new.cells v.walked _ c.add_number.ensures e w.add_number-else-is_none.new.cells _ w.add_number-else-is_none.ensures f))
    ]
