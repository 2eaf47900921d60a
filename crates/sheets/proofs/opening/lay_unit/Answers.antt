-- `lay_unit`: its clauses hold where it returns.
use Rattle.sheets.proofs.Fresh.{unit_laid}
use Rattle.sheets.proofs.opening.lay_unit.Goals as goal

pub returns : goal.returns
returns g c = unit_laid g.K.Kind.arith c.args.n c.args.from c.args.j c.args.cells.now c.wipe.new.cells c.write.new.cells c.one.result c.requires.room c.requires.there c.wipe.ensures c.one.ensures c.write.ensures
