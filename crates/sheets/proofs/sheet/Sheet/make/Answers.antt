-- `Sheet::make`: its law is that of the call that it makes.
use Rattle.std.proofs.Common.{◌≡◌, sym, subst, subst₂, rules}
use Rattle.lines.specs.Page.{model as page_model}
use Rattle.sheets.specs.declared.call.Call.{Call}
use Rattle.sheets.specs.Answers.{Answer, plain_answer}
use Rattle.sheets.specs.Calls.{sheet_call, memory}
use Rattle.sheets.specs.Law.{CallLaw}
use Rattle.sheets.specs.Sheet.{model}
use Rattle.sheets.proofs.sheet.Sheet.make.Goals as goal

pub returns-in-Post-clause-law : goal.returns-in-Post-clause-law
returns-in-Post-clause-law g c =
    let lent = memory c.args.words.now (page_model c.args.page.now) in
    subst (λ (call : Call). CallLaw g.K.Kind.arith (model c.args.self.now) (sheet_call call) lent c.post.result (model c.post.new.self) lent) (sym c.in-Post.is) (c.post.ensures.law lent)

pub returns-in-Clear-clause-law : goal.returns-in-Clear-clause-law
returns-in-Clear-clause-law g c =
    let lent = memory c.args.words.now (page_model c.args.page.now) in
    let answer : c.map.result ≡ plain_answer c.clear.result = search rules in
    subst₂ (λ (call : Call) (r : Answer). CallLaw g.K.Kind.arith (model c.args.self.now) (sheet_call call) lent r (model c.clear.new.self) lent) (sym c.in-Clear.is) (sym answer) (c.clear.ensures.law lent)

pub returns-in-Pick-clause-law : goal.returns-in-Pick-clause-law
returns-in-Pick-clause-law g c =
    let m = model c.args.self.now in
    let page = page_model c.args.page.now in
    let answer : c.map-in-Pick.result ≡ plain_answer c.pick.result = search rules in
    subst₂ (λ (call : Call) (r : Answer). CallLaw g.K.Kind.arith m (sheet_call call) (memory c.args.words.now page) r m (memory c.pick.new.plan page)) (sym c.in-Pick.is) (sym answer) (c.pick.ensures.law page)

pub returns-in-Show-clause-law : goal.returns-in-Show-clause-law
returns-in-Show-clause-law g c =
    let m = model c.args.self.now in
    let words = c.args.words.now in
    let answer : c.map-in-Show.result ≡ plain_answer c.show.result = search rules in
    subst₂ (λ (call : Call) (r : Answer). CallLaw g.K.Kind.arith m (sheet_call call) (memory words (page_model c.args.page.now)) r m (memory words (page_model c.show.new.page))) (sym c.in-Show.is) (sym answer) (c.show.ensures.law words)
