-- `ask`: where it is refused it leaves the page as it was.
use Rattle.std.proofs.Common.{◌≡◌, [], sym, ap, ◌∙◌, rules}
use Rattle.lines.specs.Page.{model as page_model, with_text}
use Rattle.sheets.specs.Sheet.{model}
use Rattle.sessions.specs.Requests.{request_text}
use Rattle.sessions.proofs.Memories.{blank_page}
use Rattle.sessions.proofs.sheet_calls.ask.Goals as goal

pub returns-then-not-stands-clause-page : goal.returns-then-not-stands-clause-page
returns-then-not-stands-clause-page g c =
    let none : request_text g.K.Kind.arith (model c.args.sheet.now) c.args.request c.args.numbers.now ≡ [] = search rules in
    sym (ap (with_text (page_model c.args.page.now)) none ∙ blank_page c.args.page.now c.requires.idle)

pub returns-in_err-call-clause-page : goal.returns-in_err-call-clause-page
returns-in_err-call-clause-page g c =
    let none : request_text g.K.Kind.arith (model c.args.sheet.now) c.args.request c.args.numbers.now ≡ [] = search rules in
    sym (ap (with_text (page_model c.args.page.now)) none ∙ blank_page c.args.page.now c.requires.idle)
