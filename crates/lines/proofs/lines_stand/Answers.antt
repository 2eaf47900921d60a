-- `lines_stand`: the theorems that it carries.
use Rattle.std.proofs.Common.{◌≡◌, [], ◌∷◌, replicate, pos, None, refl}
use Rattle.lines.specs.Line.{line_text, refusal}
use Rattle.lines.proofs.lines_stand.Goals as goal

pub returns-clause-too_long : goal.returns-clause-too_long
returns-clause-too_long c h = let e : refusal (2 ∷ []) (line_text 2 (replicate 26 (pos 0))) ≡ None = (h (2 ∷ []) refl refl).0 in cc
