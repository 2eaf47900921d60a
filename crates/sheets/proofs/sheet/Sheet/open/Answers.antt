-- `Sheet::open`: its clauses hold where it returns.
use Rattle.std.proofs.Common.{◌≡◌, [], sym, refl, subst, rules}
use Rattle.sheets.specs.Law.{StandsFor, Sound, SpareZero}
use Rattle.sheets.specs.Sheet.{Model, model, opened}
use Rattle.sheets.proofs.NewSheets.{open_law, open_sound, open_spare}
use Rattle.sheets.proofs.sheet.Sheet.open.Goals as goal

pub returns-in_default-clause-law : goal.returns-in_default-clause-law
returns-in_default-clause-law g c =
    let a = g.K.Kind.arith in
    let e : model c.empty.result ≡ opened a c.args.unknowns c.args.list c.args.cells.now = search rules in
    subst (λ (x : Model g.row.K-Cell.Denot). StandsFor a x []) (sym e) (open_law a g.met.K.Kind.kept c.args.unknowns c.args.list c.args.cells.now)

pub returns : goal.returns
returns g c =
    let a = g.K.Kind.arith in
    let laws = g.met.K.Kind.kept in
    let cells = c.args.cells.now in
    let m : Model g.row.K-Cell.Denot = record { cells = c.lay_sheet-shape.new.cells; unknowns = c.lay_sheet-shape.result.unknowns; moves = c.lay_sheet-shape.result.moves; list = c.in-Ok.list } in
    let e : m ≡ opened a c.args.unknowns c.args.list cells = search rules in
    record {
      held = refl;
      model = e;
      law = subst (λ (x : Model g.row.K-Cell.Denot). StandsFor a x []) (sym e) (open_law a laws c.args.unknowns c.args.list cells);
      sound = subst (Sound a) (sym e) (open_sound a laws c.args.unknowns c.args.list cells);
      spare = subst (SpareZero a) (sym e) (open_spare a laws c.args.unknowns c.args.list cells);
    }
