-- `ask_on`: its faults can be placed in their line.
use Rattle.std.proofs.Common.{sym, subst}
use Rattle.sheets.specs.Sheet.{model}
use Rattle.sessions.proofs.Placing.{AllPlaceable, all_placeable, request_placeable}
use Rattle.sessions.proofs.sheet_calls.ask_on.Goals as goal

pub map_err-requires : goal.map_err-requires
map_err-requires g c =
    let m = model c.resume.new.self in
    λ e h. all_placeable c.ask-answer.result e (subst AllPlaceable (sym c.ask-answer.ensures.answer) (request_placeable g.K.Kind.arith m c.args.numbers.now c.requires.few c.args.request)) h
