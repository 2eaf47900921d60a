-- `Cutter::each_line`: its loop keeps what holds at each turn and its clauses hold where it returns.
use Rattle.std.proofs.Common.{◌≡◌, ℕ, List, [], ◌∷◌, sym, subst, ◌∙◌, ap, option_copied, Some, Ok, Err, rules}
use Rattle.input.specs.Cutting.{rest}
use Rattle.input.proofs.Cuts.{left_on, left_missed}
use Rattle.input.proofs.Handing.{handed_on, handed_until, handed_all}
use Rattle.input.proofs.Cutter.each_line.Goals as goal

pub returns-in_err-take-clause-handed : goal.returns-in_err-take-clause-handed
returns-in_err-take-clause-handed g c =
    let takes = g.S.LineSink.takes in
    let old = c.loop-rest.self in
    let xs = c.loop-rest.text.now in
    let ys = c.in-Some.rest.now in
    let error = c.in_err-take.field-0.0 in
    let last = c.take.new.self in
    let found : rest xs ≡ Some ys = sym c.feed.ensures.value ∙ ap option_copied c.in-Some.is in
    let failed : c.from_residual.result ≡ Err error = search rules in
    let call = subst (λ (t : List ℕ). takes c.loop-rest.sink (t ∷ []) (Err error) last) (c.line.ensures.value ∙ c.feed.ensures.held) c.in_err-take.ensures in
    c.loop-rest.invariant.0 c.from_residual.result last c.feed.new.self
    (handed_until takes c.loop-rest.sink last old xs ys error c.from_residual.result c.feed.new.self found failed c.feed.ensures.held call)

pub loop-rest-preserved : goal.loop-rest-preserved
loop-rest-preserved g c =
    let takes = g.S.LineSink.takes in
    let old = c.loop-rest.self in
    let xs = c.loop-rest.text.now in
    let ys = c.in-Some.rest.now in
    let found : rest xs ≡ Some ys = sym c.feed.ensures.value ∙ ap option_copied c.in-Some.is in
    let call = subst (λ (t : List ℕ). takes c.loop-rest.sink (t ∷ []) (Ok tt) c.take.new.self) (c.line.ensures.value ∙ c.feed.ensures.held) c.in_ok-take.ensures in (
      λ result last held others.
          c.loop-rest.invariant.0 result last held
          (handed_on takes g.met.S.LineSink.takes_both c.loop-rest.sink c.take.new.self last old xs ys c.clear.new.self result held found c.clear.ensures call others),
      left_on old xs ys c.clear.new.self found c.clear.ensures ∙ c.loop-rest.invariant.1,
    )

pub returns-clause-handed : goal.returns-clause-handed
returns-clause-handed g c =
    c.loop-rest.invariant.0 _ _ _
    (handed_all g.S.LineSink.takes c.loop-rest.sink c.loop-rest.self c.loop-rest.text.now c.feed.new.self (g.met.S.LineSink.takes_none c.loop-rest.sink)
    (sym c.feed.ensures.value ∙ ap option_copied c.in_default.is))

pub returns-clause-kept : goal.returns-clause-kept
returns-clause-kept g c =
    c.feed.ensures.held ∙ sym (left_missed c.loop-rest.self c.loop-rest.text.now (sym c.feed.ensures.value ∙ ap option_copied c.in_default.is)) ∙ c.loop-rest.invariant.1
