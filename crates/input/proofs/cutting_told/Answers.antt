-- `cutting_told`: the theorems that it carries.
use Rattle.input.proofs.Notes.{lines_noted, bytes_noted}
use Rattle.input.proofs.cutting_told.Goals as goal

pub returns-clause-lines : goal.returns-clause-lines
returns-clause-lines c = lines_noted

pub returns-clause-bytes : goal.returns-clause-bytes
returns-clause-bytes c = bytes_noted
