-- `Sheet::plan_words`: what holds at each turn of its loop.
use Rattle.sheets.specs.Sheet.{contents_of, model}
use Rattle.sheets.specs.Words.{numbers_of}
use Rattle.sheets.proofs.Plans.{Filled}
use Rattle.sheets.proofs.sheet.Sheet.plan_words.Given as goal

abbrev pub invariant-loop-i : goal.invariant-loop-i
invariant-loop-i g l = let a = g.K.Kind.arith in Filled a (contents_of a (model l.self)) (numbers_of a l.choice) l.self.shape.unknowns l.i l.word-items
