-- `answer_lines`: its clauses hold where it returns.
use Rattle.std.proofs.Common.{◌≡◌, rules, OnOk, subst}
use Rattle.sessions.specs.Session.{view}
use Rattle.stream.specs.Replies.{Answered}
use Rattle.stream.proofs.Answering.{answered, known_on_ok}
use Rattle.stream.proofs.answer_lines.Goals as goal

pub returns-clause-answered : goal.returns-clause-answered
returns-clause-answered g c =
    let start = c.new-answerer.result in
    let sink = c.take_lines.new.sink in
    let contents = g.W.Write.contents in
    let known = g.R.Read.remaining c.args.input.now in
    let left = g.R.Read.remaining c.take_lines.new.input in
    let all = answered _ _ (λ x. view x.session) (λ x. x.count) (λ x. contents x.to.now) (λ x y xs it. it.1) (λ x is. search rules) start sink c.new-answerer.ensures.session c.new-answerer.ensures.count known left
    c.take_lines.result c.take_lines.ensures in
    let from : OnOk c.take_lines.result (Answered known left (contents c.args.to.now) (contents sink.to.now)) =
    subst (λ w. OnOk c.take_lines.result (Answered known left (contents w) (contents sink.to.now))) c.new-answerer.ensures.kept all in
    let to_end : (w : _) → sink.to.now ≡ w → OnOk c.take_lines.result (Answered known left (contents c.args.to.now) (contents w)) =
    λ w e. subst (λ w. OnOk c.take_lines.result (Answered known left (contents c.args.to.now) (contents w))) e from in
    to_end _ (search rules)

pub returns-clause-written : goal.returns-clause-written
returns-clause-written g c =
    known_on_ok c.take_lines.result (g.R.Read.remaining c.args.input.now) (g.R.Read.remaining c.take_lines.new.input) (g.W.Write.contents c.args.to.now) _ (returns-clause-answered g c)
