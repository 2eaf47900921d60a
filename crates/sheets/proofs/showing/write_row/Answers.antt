-- `write_row`: its loop keeps what holds at each turn and its clauses hold where it returns.
use Rattle.std.proofs.Common.{◌≡◌, ℕ, ◌+◌, map, length, get_or, fold, pos, sym, ap, ◌∙◌, arith, w32, to_z, of_z, rules}
use Rattle.std.proofs.lemmas.List.{length-map, get_or-map, take_all}
use Rattle.std.proofs.lemmas.List.Sums.{fold_more}
use Rattle.std.proofs.lemmas.Int.{to_z-of_z}
use Rattle.lines.specs.Page.{Model, model, with_word, begun_page, closed_page}
use Rattle.lines.proofs.Filling.{line_stands, begun_stands, close_begun}
use Rattle.sheets.specs.Cells.{number, numbers}
use Rattle.sheets.proofs.showing.write_row.Goals as goal

pub loop-cell-preserved : goal.loop-cell-preserved
loop-cell-preserved g c =
    let a = g.K.Kind.arith in
    let i = c.loop-cell.cell-index in
    let row = c.args.row.now in
    let ns = numbers a row in
    let ws = map a.write ns in
    let ln = length-map row (number a) in
    let lw = length-map ns a.write in
    let w = to_z w32 (of_z w32 c.write.result) in
    let x : c.number.result ≡ get_or ns i a.zero = c.number.ensures ∙ ap (number a) c.cell-item.is ∙ sym (get_or-map (number a) row i c.cell-item.result a.zero c.loop-cell-test.true) in
    let v : w ≡ get_or ws i (pos 0)
    = to_z-of_z w32 c.write.result (record { sfits = c.write.type_inv }) ∙ c.write.ensures ∙ ap a.write x ∙ sym (get_or-map a.write ns i a.zero (pos 0) (omega (arith, ln, c.loop-cell-test.true))) in
    let e : model c.put.new.self ≡ with_word (model c.loop-cell.page) w = search rules in (
      c.put.ensures.held ∙ c.loop-cell.invariant.0,
      e ∙ (λ j. with_word (c.loop-cell.invariant.1 j) (v j)) ∙ sym (fold_more with_word (model c.begin.new.self) ws i (pos 0) (omega (arith, ln, lw, c.loop-cell-test.true))),
      ap (λ (m : Model). m.begun) e ∙ c.loop-cell.invariant.2,
      ap (λ (m : Model). m.put) e ∙ ap (λ (n : ℕ). n + 1) c.loop-cell.invariant.3,
      ap (λ (m : Model). m.room) e ∙ c.loop-cell.invariant.4,
    )

pub returns-clause-model : goal.returns-clause-model
returns-clause-model g c =
    let a = g.K.Kind.arith in
    let m = model c.args.page.now in
    let row = c.args.row.now in
    let ns = numbers a row in
    let ws = map a.write ns in
    let l : length ws ≡ length row = length-map ns a.write ∙ length-map row (number a) in
    let d = begun_stands m (model c.begin.new.self) c.args.frame (length row) c.unwrap-token.result (sym c.begin.ensures.answer ∙ c.unwrap-token.ensures) c.begin.ensures.left in
    let b : model c.begin.new.self ≡ begun_page m c.args.frame (length ws) = d.1 ∙ ap (begun_page m c.args.frame) (sym l) in
    let p : model c.loop-cell.page ≡ fold with_word (begun_page m c.args.frame (length ws)) ws
    = c.loop-cell.invariant.1 ∙ (λ j. fold with_word (b j) (take_all c.loop-cell.cell-index ws (omega (arith, l, c.loop-cell-test.false)) j)) in
    c.close.ensures.left
    ∙ close_begun (model c.loop-cell.page) c.loop-cell.invariant.2
    ∙ ap closed_page p
    ∙ line_stands m c.args.frame ws (omega (arith, l, c.requires.page.room))
