-- `make_call`: its clauses hold where it returns.
use Rattle.std.proofs.Common.{◌≡◌, List, take, replicate, ℤ, pos, Bor, refl, ap, ◌∙◌, rules}
use Rattle.lines.specs.Page.{model as page_model}
use Rattle.sheets.specs.Calls.{sheet_call, picking, Memory, memory, answer_to, memory_after}
use Rattle.sheets.specs.declared.call.Call.{Call}
use Rattle.sheets.specs.declared.call.Call.TheVariants.{Post, Clear, Pick, Show}
use Rattle.sheets.specs.Sheet.{model, most_unknowns}
use Rattle.sessions.proofs.Memories.{blank_page, answer_same, page_behind}
use Rattle.sessions.proofs.sheet_calls.make_call.Goals as goal

-- a call that is no picking
picks_none : (call : Call) → ((x : Bor (List ℤ)) → ¬ (call ≡ Pick x)) → (choice : List ℤ) → ¬ (sheet_call call ≡ picking choice)
picks_none (Post words) n choice e = absurd cc
picks_none Clear n choice e = absurd cc
picks_none (Pick x) n choice e = absurd (n x refl)
picks_none Show n choice e = absurd cc

pub returns-in_default : goal.returns-in_default
returns-in_default g c =
    let a = g.K.Kind.arith in
    let m = model c.args.sheet.now in
    let call = sheet_call c.args.call.now in
    let shape = c.args.sheet.now.shape in
    let p = page_model c.args.page.now in
    let blank = blank_page c.args.page.now c.requires.idle in
    let made = c.make-answer.ensures in
    let zeros : List ℤ = replicate most_unknowns (pos 0) in
    let words : take c.unknowns.result zeros ≡ take m.unknowns zeros = search rules in
    let answer : c.make-answer.result ≡ answer_to a m (memory (take m.unknowns zeros) p) call = made.answer ∙ ap (λ (ws : List ℤ). answer_to a m (memory ws p) call) words in
    let page : page_model c.make-answer.new.page ≡ (memory_after a m (memory (take m.unknowns zeros) p) call).page
    = ap (λ (x : Memory). x.page) made.memory ∙ ap (λ (ws : List ℤ). (memory_after a m (memory ws p) call).page) words in
    let not_pick : (choice : List ℤ) → ¬ (call ≡ picking choice) = picks_none c.args.call.now c.in_default.not-Pick in
    record {
      held = made.held;
      page_held = made.page_held;
      answer = answer ∙ answer_same a m shape.small shape.few p c.requires.idle blank c.requires.room call;
      sheet = made.sheet;
      page = page ∙ page_behind a m shape.small shape.few p c.requires.idle blank c.requires.room call _ not_pick;
    }
