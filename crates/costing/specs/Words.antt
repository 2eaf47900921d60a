-- What a refusal says in words. Assumes nothing.
use Rattle.std.specs.Prelude.{ℕ, List, ◌++◌, codes}
use Rattle.std.specs.Fmt.{signed_decimal}
use Rattle.faults.specs.Faults.{line_place}
use Rattle.faults.specs.Words.{line_words}
use Rattle.costing.specs.declared.Refusal.{Refusal}
use Rattle.costing.specs.declared.Refusal.TheVariants.{Equation, Plan, Count, Overflow}

abbrev pub refusal_words : Refusal → List ℕ
refusal_words (Equation fault) =
    codes "the equation's line " ++ line_words fault ++ codes ", place " ++ signed_decimal (line_place fault)
refusal_words (Plan fault) =
    codes "the plan's line " ++ line_words fault ++ codes ", place " ++ signed_decimal (line_place fault)
refusal_words Count = codes "the plan has not 1 to 24 numbers, or the equation has not one more"
refusal_words Overflow = codes "a running sum is not within -2147483647 to 2147483647"
