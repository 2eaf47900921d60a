-- `lay_column`: its clauses hold where it returns.
use Rattle.sheets.proofs.Laying.{laid}
use Rattle.sheets.proofs.columns.lay_column.Goals as goal

pub returns : goal.returns
returns g c =
    laid g.K.Kind.arith g.met.K.Kind.kept c.args.cells.now c.write.new.cells c.copy.new.cells c.args.n c.args.to c.args.from c.args.top c.requires.to c.requires.from c.write.ensures c.copy.ensures
