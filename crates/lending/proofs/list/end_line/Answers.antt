-- `end_line`: closing the line is not refused.
use Rattle.std.proofs.Common.{rules, ◌≡◌, true}
use Rattle.lines.specs.Page.{model}
use Rattle.lending.proofs.Begun.{put_keeps, begun_closes}
use Rattle.lending.proofs.list.end_line.Goals as goal

pub unreachable-requires : goal.unreachable-requires
unreachable-requires c =
    let begun : (model c.put.new.self).begun ≡ true = search (rules, put_keeps) in
    let closed = begun_closes (model c.put.new.self) c.args.token begun in
    let answered = c.close.ensures.answer in
    search rules
