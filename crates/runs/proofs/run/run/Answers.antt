-- `run`: its clauses hold where it returns.
use Rattle.std.proofs.Common.{◌≡◌, [], map, refl, sym, ap, ◌∙◌, subst₂, rules}
use Rattle.sheets.specs.Sheet.{model_of, opened}
use Rattle.sheets.proofs.NewSheets.{open_law, open_sound, open_spare}
use Rattle.runs.specs.Promise.{Promise}
use Rattle.runs.specs.Run.{calls_in, calls_lent, calls_made, run_of, sheet_left, CallsLaw}
use Rattle.runs.proofs.Kept.{Keeps, run_promised}
use Rattle.runs.proofs.Steps.{calls_of_lent}
use Rattle.runs.proofs.run.run.Goals as goal

pub returns-clause-promise : goal.returns-clause-promise
returns-clause-promise g c =
    let a = g.K.Kind.arith in
    let kind = g.met.K.Kind.kept in
    let m = opened a c.args.unknowns c.args.list c.args.cells.now in
    let lent_calls = calls_lent c.args.steps.now in
    let laws : CallsLaw a m lent_calls = search rules in
    let opening : Keeps a m.unknowns [] m = record {
      unknowns = refl;
      stands = open_law a kind c.args.unknowns c.args.list c.args.cells.now;
      sound = open_sound a kind c.args.unknowns c.args.list c.args.cells.now;
      spare = open_spare a kind c.args.unknowns c.args.list c.args.cells.now;
    } in
    let made : calls_made c.args.steps.now c.make_steps.new.steps ≡ run_of a m lent_calls = search rules in
    let left : model_of _ c.outline.result ≡ sheet_left a m (calls_in c.args.steps.now) = search rules in
    let behind : sheet_left a m (map (λ r. r.0) lent_calls) ≡ model_of _ c.outline.result = ap (sheet_left a m) (calls_of_lent c.args.steps.now) ∙ sym left in
    subst₂ (Promise a m) (sym made) behind (run_promised a m lent_calls laws opening)
