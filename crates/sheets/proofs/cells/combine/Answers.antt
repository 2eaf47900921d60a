-- `combine`: its loop keeps what holds at each turn and its clauses hold where it returns.
use Rattle.std.proofs.Common.{◌≡◌, ◌+◌, true, None, Some, Option, refl, subst, arith, rules}
use Rattle.std.proofs.lemmas.Result.{err_from_is_err_and}
use Rattle.sheets.specs.Cells.{number_at}
use Rattle.sheets.specs.Combining.{Put}
use Rattle.sheets.proofs.Walks.{walk_start, walk_more, walk_stop, walk_only}
use Rattle.sheets.proofs.Limits.{only_within}
use Rattle.sheets.proofs.cells.combine.Goals as goal

pub loop-i-init : goal.loop-i-init
loop-i-init g c = walk_start g.K.Kind.arith c.args.q true c.args.cells.now c.args.to c.args.from c.args.height c.requires.to c.requires.from c.requires.apart

pub loop-i-preserved : goal.loop-i-preserved
loop-i-preserved g c =
    let a = g.K.Kind.arith in
    let cs = c.loop-i.cells in
    let i = c.loop-i.i in
    let e : c.add_number.result ≡ Some tt = search rules in
    let w = subst (λ (r : Option Unit). Put a (a.add_product (number_at a cs (c.args.to + i)) c.args.q (number_at a cs (c.args.from + i))) (c.args.to + i) cs r c.add_number.new.cells) e c.add_number.ensures in
    walk_more a c.args.q true c.args.cells.now c.args.to c.args.from c.args.height c.requires.to c.requires.from c.requires.apart
    i cs c.add_number.new.cells (number_at a cs (c.args.to + i)) (number_at a cs (c.args.from + i)) w.0 c.loop-i.invariant c.loop-i-test.true refl refl w.1.0 w.1.1

pub returns-in_err-ok_or : goal.returns-in_err-ok_or
returns-in_err-ok_or g c =
    let a = g.K.Kind.arith in
    let cs = c.loop-i.cells in
    let i = c.loop-i.i in
    let r = err_from_is_err_and c.from_residual.result c.from_residual.ensures.1 in
    let e : c.add_number.result ≡ None = search rules in
    let w = subst (λ (r : Option Unit). Put a (a.add_product (number_at a cs (c.args.to + i)) c.args.q (number_at a cs (c.args.from + i))) (c.args.to + i) cs r c.add_number.new.cells) e c.add_number.ensures in
    rw (r.1, w.1) (
      walk_stop a c.args.q true c.args.cells.now c.args.to c.args.from c.args.height c.requires.to c.requires.from c.requires.apart
          i cs (number_at a cs (c.args.to + i)) (number_at a cs (c.args.from + i)) c.loop-i.invariant c.loop-i-test.true refl refl w.0,
      only_within (a.to_cell a.zero) c.args.to i c.args.to c.args.height c.args.cells.now cs
          (walk_only a c.args.q true c.args.cells.now c.args.to c.args.from c.args.height c.requires.to c.requires.from c.requires.apart i cs c.loop-i.invariant)
          (omega (arith, c.requires.to)) (omega arith) (omega arith),
    )
