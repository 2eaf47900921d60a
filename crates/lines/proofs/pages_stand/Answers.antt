-- `pages_stand`: the theorems that it carries.
use Rattle.lines.proofs.Filling.{short_line, given_line, room_exact}
use Rattle.lines.proofs.pages_stand.Goals as goal

pub returns-clause-short : goal.returns-clause-short
returns-clause-short c = short_line

pub returns-clause-given_up : goal.returns-clause-given_up
returns-clause-given_up c = given_line

pub returns-clause-room : goal.returns-clause-room
returns-clause-room c = room_exact
