-- `check_words`: its loop keeps what holds at each turn and its clauses hold where it returns.
use Rattle.std.proofs.Common.{◌≡◌, true, false, pos, not, get_or, is_some, sym, ap, ◌∙◌, rules, w32, SFits}
use Rattle.std.proofs.ByRecursion.{All-more}
use Rattle.std.proofs.lemmas.Int.{to_z-of_z}
use Rattle.faults.specs.Refusing.{done_unless}
use Rattle.lines.proofs.Finding.{find_here, find_on}
use Rattle.sheets.specs.Sheet.{word_fault}
use Rattle.sheets.specs.Words.{is_refused}
use Rattle.sheets.proofs.words.check_words.Goals as goal

pub returns-then-is_none-clause-value : goal.returns-then-is_none-clause-value
returns-then-is_none-clause-value g c =
    let a = g.K.Kind.arith in
    let z = get_or c.args.words.now c.loop-i.i (pos 0) in
    let fits : SFits w32 z = search rules in
    let e = ap is_some (sym (c.read.ensures ∙ ap a.read (to_z-of_z w32 z fits))) ∙ c.is_none.ensures in
    let t : is_refused a z ≡ true = ap not (e ∙ ap not c.if-is_none.true) in
    let h = find_here (is_refused a) c.args.words.now c.loop-i.i (pos 0) c.loop-i-test.true t in
    ap (λ o. done_unless (word_fault o)) (sym h ∙ c.loop-i.invariant.0)

pub loop-i-preserved : goal.loop-i-preserved
loop-i-preserved g c =
    let a = g.K.Kind.arith in
    let z = get_or c.args.words.now c.loop-i.i (pos 0) in
    let fits : SFits w32 z = search rules in
    let e = ap is_some (sym (c.read.ensures ∙ ap a.read (to_z-of_z w32 z fits))) ∙ c.is_none.ensures in
    let t : is_refused a z ≡ false = ap not (e ∙ ap not c.if-is_none.false) in (
      sym (find_on (is_refused a) c.args.words.now c.loop-i.i (pos 0) c.loop-i-test.true t) ∙ c.loop-i.invariant.0,
      All-more (SFits w32) c.args.words.now c.loop-i.i (pos 0) c.loop-i-test.true c.loop-i.invariant.1 fits,
    )
