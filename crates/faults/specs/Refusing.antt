-- What a call that may be refused answers, and what it leaves. Assumes nothing.
use Rattle.std.specs.Prelude.{Some, None, Ok, Err, Option, Result}

-- the value, unless the call is refused
abbrev pub ok_unless : {E X : Type 0} → Option E → X → Result X E
ok_unless None x = Ok x
ok_unless (Some fault) x = Err fault

-- done, unless the call is refused
abbrev pub done_unless : {E : Type 0} → Option E → Result Unit E
done_unless refusal = ok_unless refusal tt

-- what is there afterwards: what was there before where the call is refused, and else what it makes of it
abbrev pub left_unless : {E X : Type 0} → Option E → X → X → X
left_unless None before after = after
left_unless (Some fault) before after = before
