-- What a call on a sheet can be answered, and the number of each answer. Assumes nothing.
use Rattle.std.specs.Prelude.{ℕ, Ok, Err, Result}
use Rattle.faults.specs.Faults.{sheet_fault}
use Rattle.faults.specs.declared.SheetFault.{SheetFault}
use Rattle.faults.specs.declared.SheetFault.TheVariants.{Contradicted}
use Rattle.plans.specs.Solution.{Judgement, is_taken, is_implied, is_contradicted}
use Rattle.sheets.specs.declared.call.Success.{Success}
use Rattle.sheets.specs.declared.call.Success.TheVariants.{Done, Implied}

abbrev pub Answer : Type 0
Answer = Result Success SheetFault

-- the answer to a call that is done or refused, and nothing else
abbrev pub plain_answer : Result Unit SheetFault → Answer
plain_answer (Ok _) = Ok Done
plain_answer (Err fault) = Err fault

-- an answer as one number, as lines carry it
abbrev pub answer_number : Answer → ℕ
answer_number (Ok Done) = 0
answer_number (Ok Implied) = 1
answer_number (Err fault) = sheet_fault fault

-- the answer to a posting that says a judgement
abbrev pub verdict_answer : Judgement → Answer
verdict_answer is_taken = Ok Done
verdict_answer is_implied = Ok Implied
verdict_answer is_contradicted = Err Contradicted
