-- `Sheet::write_rows`: its loop keeps what holds at each turn, its calls may be made, and its clauses hold.
use Rattle.std.proofs.Common.{◌≡◌, ℕ, ◌+◌, ◌-◌, ◌*◌, length, sym, refl, ap, ◌∙◌, subst, arith}
use Rattle.std.proofs.lemmas.List.{length-take, length-drop}
use Rattle.lines.specs.Page.{model, with_text, HasRoom}
use Rattle.sheets.specs.Cells.{part, numbers}
use Rattle.sheets.specs.Showing.{row_text}
use Rattle.sheets.proofs.Places.{rows_in}
use Rattle.sheets.proofs.Shows.{no_text, rows_room, shows_more, shows_end}
use Rattle.sheets.proofs.sheet.Sheet.write_rows.Goals as goal

pub loop-j-init : goal.loop-j-init
loop-j-init g c =
    let a = g.K.Kind.arith in (
      refl,
      no_text (model c.args.page.now) (row_text a 131 (numbers a (part 0 c.args.self.now.shape.unknowns c.args.self.now.cells.now))) (model c.write_row.new.page) c.write_row.ensures.model,
    )

pub write_row-requires-in-loop-j : goal.write_row-requires-in-loop-j
write_row-requires-in-loop-j g c =
    let a = g.K.Kind.arith in
    let cells = c.args.self.now.cells.now in
    let m = model c.args.page.now in
    let m1 = model c.write_row.new.page in
    let from = c.row-from.result in
    let l : length (part from ((from + c.args.self.now.shape.unknowns) - from) cells) ≡ c.args.self.now.shape.unknowns = simp (length-take, length-drop) (omega (arith, c.row-from.ensures.within, c.requires.room)) in
    record {
      few = omega (arith, l, c.args.self.now.shape.small);
      page =
          subst (λ (k : ℕ). HasRoom (model c.loop-j.page) (5 + 8 * k)) (sym l)
          (rows_room a cells c.args.self.now.shape.unknowns c.args.self.now.shape.moves (rows_in c.args.self.now.shape.unknowns c.args.self.now.shape.moves (length c.args.self.now.cells.now) c.args.self.now.shape.few c.requires.room) m m1 c.requires.page.room c.write_row.ensures.model (model c.loop-j.page) c.loop-j.j c.loop-j-test.true c.loop-j.invariant.1);
    }

pub loop-j-preserved : goal.loop-j-preserved
loop-j-preserved g c =
    let a = g.K.Kind.arith in
    let from = c.row-from.result in
    let e : (from + c.args.self.now.shape.unknowns) - from ≡ c.args.self.now.shape.unknowns = omega arith in
    let r = c.write_row-in-loop-j.ensures.model ∙ ap (λ (k : ℕ). with_text (model c.loop-j.page) (row_text a 132 (numbers a (part from k c.args.self.now.cells.now)))) e in (
      c.write_row-in-loop-j.ensures.held ∙ c.loop-j.invariant.0,
      shows_more a c.args.self.now.cells.now c.args.self.now.shape.unknowns c.args.self.now.shape.moves (rows_in c.args.self.now.shape.unknowns c.args.self.now.shape.moves (length c.args.self.now.cells.now) c.args.self.now.shape.few c.requires.room) (model c.args.page.now) (model c.write_row.new.page) c.requires.page.room c.write_row.ensures.model
          (model c.loop-j.page) (model c.write_row-in-loop-j.new.page) c.loop-j.j c.row-from.result c.loop-j-test.true c.row-from.ensures.value c.loop-j.invariant.1 r,
    )

pub returns : goal.returns
returns g c =
    let a = g.K.Kind.arith in
    record {
      held = c.loop-j.invariant.0 ∙ c.write_row.ensures.held;
      model =
          shows_end a c.args.self.now.cells.now c.args.self.now.shape.unknowns c.args.self.now.shape.moves (rows_in c.args.self.now.shape.unknowns c.args.self.now.shape.moves (length c.args.self.now.cells.now) c.args.self.now.shape.few c.requires.room) (model c.args.page.now) (model c.write_row.new.page) c.requires.page.room c.write_row.ensures.model
          (model c.loop-j.page) c.loop-j.j (omega arith) c.loop-j.invariant.1;
    }
