-- `Table::all_zero`: its clauses hold where it returns.
use Rattle.std.proofs.Common.{◌≡◌, ℕ, ◌+◌, ◌*◌, Bool, eqb, ◌&&◌, List, [], ◌∷◌, map, refl, ap, ◌∙◌, rules, tests, arith}
use Rattle.std.proofs.lemmas.Iterator.{YieldsList-from_range}
use Rattle.std.proofs.lemmas.Iterator.Search.{all_from_yields_List}
use Rattle.std.specs.List.{range_with_len, list_all}
use Rattle.kinds.specs.Kind.{Arithmetic}
use Rattle.plans.specs.Posting.{Column, total_size}
use Rattle.sheets.specs.Table.{first_of, size_of}
use Rattle.sheets.specs.Work.{column_at}
use Rattle.sheets.proofs.table.Table.all_zero.Goals as goal

sum_zero : (x y : ℕ) → eqb x 0 && eqb y 0 ≡ eqb (x + y) 0
sum_zero x y = grind arith

-- every top has size 0 where their sum is 0
all_small : {N C : Type 0} (a : Arithmetic N C) (column : ℕ → Column N) (js : List ℕ) → list_all (λ j. eqb (a.size (column j).top) 0) js ≡ eqb (total_size a (map column js)) 0
all_small a column [] = refl
all_small a column (j ∷ js) = ap (λ (t : Bool). eqb (a.size (column j).top) 0 && t) (all_small a column js) ∙ sum_zero (a.size (column j).top) (total_size a (map column js))

pub returns : goal.returns
returns g c =
    let a = g.K.Kind.arith in
    let s = c.args.self.now in
    let k = s.shape.moves in
    let e : c.all.result ≡ list_all (λ j. eqb (size_of s j) 0) (range_with_len 0 k)
    = all_from_yields_List {v = λ x. x} (λ j. eqb (size_of s j) 0) _ _ c.all.result c.all.ensures.ran (YieldsList-from_range 0 k k (cc) (omega arith)) (λ x b q h. search (rules, tests)) in
    e ∙ all_small a (λ j. column_at a s.cells.now s.shape.unknowns (first_of s + j * (s.shape.unknowns + 1))) (range_with_len 0 k)
