-- `Cutter::feed`: its clauses hold where it returns.
use Rattle.std.proofs.Common.{ℕ, List, ◌++◌, take, ap, sym, ◌∙◌, arith}
use Rattle.std.proofs.lemmas.Grind.{common_steps}
use Rattle.input.proofs.Cuts.{line_found, rest_found, line_missed, rest_missed}
use Rattle.input.proofs.Cutter.feed.Goals as goal

pub returns-in_default-clause-held : goal.returns-in_default-clause-held
returns-in_default-clause-held c =
    c.keep.ensures ∙ ap (λ (t : List ℕ). take 205 (c.args.self.now ++ t)) (sym (line_missed c.args.chunk.now (sym c.find_feed.ensures ∙ c.in_default.is)))

pub returns-in_default-clause-value : goal.returns-in_default-clause-value
returns-in_default-clause-value c = sym (rest_missed c.args.chunk.now (sym c.find_feed.ensures ∙ c.in_default.is))

pub returns-clause-held : goal.returns-clause-held
returns-clause-held c =
    c.keep-2.ensures ∙ ap (λ (t : List ℕ). take 205 (c.args.self.now ++ t)) (sym (line_found c.args.chunk.now c.in-Some.n (sym c.find_feed.ensures ∙ c.in-Some.is)))

pub returns-clause-value : goal.returns-clause-value
returns-clause-value c =
    grind (arith, common_steps, rest_found c.args.chunk.now c.in-Some.n (sym c.find_feed.ensures ∙ c.in-Some.is))
