-- `answers`: a line is still begun on the first page when it is to be ended.
use Rattle.std.proofs.Common.{◌≡◌, true, ap, sym, List, [], ◌∷◌, replicate, pos}
use Rattle.kinds.specs.Whole.{wholes}
use Rattle.kinds.specs.declared.whole.WholeCell.{WholeCell}
use Rattle.lines.proofs.Filling.{begun_stands}
use Rattle.lines.specs.Page.{Model, model}
use Rattle.runs.specs.declared.step.Step.{Step}
use Rattle.sheets.specs.Sheet.{opened}
use Rattle.lending.proofs.Begun.{first_begun}
use Rattle.lending.proofs.list.answers.Goals as goal

pub end_line-requires : goal.end_line-requires
end_line-requires c =
    let lent = c.step-begun.result in
    let stands = begun_stands (model lent.page) (model c.begin.new.self) 130 1 c.in-Ok.token (sym c.in-Ok.ensures.answer) c.in-Ok.ensures.left in
    let begun : (model c.begin.new.self).begun ≡ true = ap (λ (m : Model). m.begun) stands.1 in
    let cell : WholeCell = record { value = pos 0 } in
    let first : Step = record { call = lent.call; words = lent.words; page = c.begin.new.self; answer = lent.answer } in
    let others : List Step =
    c.step.result ∷ (c.step-2.result ∷ (c.step-3.result ∷ (c.step-4.result ∷ (c.step-5.result ∷ (c.step-6.result ∷ (c.step-7.result
    ∷ (c.step-8.result ∷ (c.step-9.result ∷ (c.step-10.result ∷ (c.step-11.result ∷ (c.step-12.result ∷ (c.step-13.result ∷ [])))))))))))) in
    first_begun wholes (opened wholes (pos 2) (pos 9) (replicate 15 cell)) first others c.run.new.steps _ begun c.run.ensures.made
