-- `copy`: its loop keeps what holds at each turn.
use Rattle.sheets.proofs.Walks.{copy_start, copy_more}
use Rattle.sheets.proofs.cells.copy.Goals as goal

pub loop-i-init : goal.loop-i-init
loop-i-init g c = copy_start g.K.Kind.arith c.args.cells.now c.args.to c.args.from c.args.n c.requires.to c.requires.from c.requires.apart

pub loop-i-preserved : goal.loop-i-preserved
loop-i-preserved g c =
    copy_more g.K.Kind.arith c.args.cells.now c.args.to c.args.from c.args.n c.requires.to c.requires.from c.requires.apart
    c.loop-i.i c.loop-i.cells c.write.new.cells c.read-x.result c.loop-i-test.true c.loop-i.invariant c.read-x.ensures c.write.ensures
