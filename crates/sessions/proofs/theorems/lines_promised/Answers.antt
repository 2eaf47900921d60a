-- `lines_promised`: the theorem that it carries.
use Rattle.sessions.proofs.Promised.{lines_promised}
use Rattle.sessions.proofs.theorems.lines_promised.Goals as goal

pub returns : goal.returns
returns c = lines_promised
