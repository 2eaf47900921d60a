-- `scale`: its loop keeps what holds at each turn and its clauses hold where it returns.
use Rattle.std.proofs.Common.{◌≡◌, false, None, inl, arith, rules}
use Rattle.std.proofs.lemmas.Result.{err_from_is_err_and}
use Rattle.sheets.proofs.Walks.{walk_more, walk_stop, walk_only}
use Rattle.sheets.proofs.Limits.{only_within}
use Rattle.sheets.proofs.cells.scale.Goals as goal

pub returns-in_err-x : goal.returns-in_err-x
returns-in_err-x g c =
    let r = err_from_is_err_and c.from_residual.result c.from_residual.ensures.1 in
    let e : g.K.Kind.arith.add_product c.zero.result c.args.u c.read.result ≡ None = search rules in
    rw r.1 (
      walk_stop g.K.Kind.arith c.args.u false c.args.cells.now c.args.at c.args.at c.args.height c.requires c.requires (inl (omega arith))
          c.loop-i.i c.loop-i.cells c.zero.result c.read.result c.loop-i.invariant c.loop-i-test.true c.zero.ensures c.read.ensures e,
      only_within (g.K.Kind.arith.to_cell g.K.Kind.arith.zero) c.args.at c.loop-i.i c.args.at c.args.height c.args.cells.now c.loop-i.cells
          (walk_only g.K.Kind.arith c.args.u false c.args.cells.now c.args.at c.args.at c.args.height c.requires c.requires (inl (omega arith)) c.loop-i.i c.loop-i.cells c.loop-i.invariant)
          (omega (arith, c.requires)) (omega arith) (omega arith),
    )

pub loop-i-preserved : goal.loop-i-preserved
loop-i-preserved g c =
    walk_more g.K.Kind.arith c.args.u false c.args.cells.now c.args.at c.args.at c.args.height c.requires c.requires (inl (omega arith))
    c.loop-i.i c.loop-i.cells c.write.new.cells c.zero.result c.read.result c.in_ok-x.x c.loop-i.invariant c.loop-i-test.true c.zero.ensures c.read.ensures
    (search rules) c.write.ensures
