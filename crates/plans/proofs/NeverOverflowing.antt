-- No posting of weekday numbers overflows, and some of whole numbers does.
use Rattle.std.proofs.Common.{◌≡◌, List, [], ◌∷◌, pos, negsuc, None, refl, ⊎_elim}
use Rattle.kinds.specs.Kind.{Arithmetic, Laws}
use Rattle.kinds.specs.Weekday.{weekdays}
use Rattle.kinds.specs.Weekdays.{weekday_laws}
use Rattle.kinds.specs.Whole.{nearest, wholes}
use Rattle.plans.specs.Overflows.{LacksSum, LacksTops, Lacks, LacksColumn, LacksUnits, LacksReduced, LacksFinish, LacksRound, LacksEnd, Lacking, in_tops, in_B, in_units, in_rounds, NeverOverflows}
use Rattle.plans.specs.Posting.{Column, Work, blank, at}
use Rattle.plans.specs.Sheet.{Contents}
use Rattle.plans.proofs.Lacking.{only_products}

-- where every add-product gives a number, none of a posting gives none
module _ {N C : Type 0} (a : Arithmetic N C) (adds : (c q d : N) → ¬ (a.add_product c q d ≡ None)) where
  no_sum : (s : N) (cs xs : List N) → ¬ LacksSum a s cs xs
  no_sum s [] xs h = h
  no_sum s (c ∷ cs) [] h = h
  no_sum s (c ∷ cs) (x ∷ xs) h = ⊎_elim (adds s c x) (λ r. no_sum r.0 cs xs r.2) h

  no_tops : (cs : List N) (vs : List (List N)) → ¬ LacksTops a cs vs
  no_tops cs [] h = h
  no_tops cs (v ∷ vs) h = ⊎_elim (no_sum a.zero cs v) (no_tops cs vs) h

  none_lacks : (u : List N) (q : N) (v : List N) → ¬ Lacks a u q v
  none_lacks [] q v h = h
  none_lacks (x ∷ u) q [] h = h
  none_lacks (x ∷ u) q (y ∷ v) h = ⊎_elim (adds x q y) (none_lacks u q v) h

  no_column : (c : Column N) (q : N) (d : Column N) → ¬ LacksColumn a c q d
  no_column c q d h = none_lacks (c.top ∷ c.low) q (d.top ∷ d.low) h

  no_units : (cs : List (Column N)) → ¬ LacksUnits a cs
  no_units [] h = h
  no_units (c ∷ cs) h = ⊎_elim (no_column (blank a c) (a.unit c.top) c) (no_units cs) h

  no_reduced : (c d : Column N) → ¬ LacksReduced a c d
  no_reduced c d h = no_column c (a.negative h.0) d h.2

  no_finish : (b d : Column N) → ¬ LacksFinish a b d
  no_finish b d h = ⊎_elim (adds b.top (a.negative h.0) d.top) (λ t. none_lacks b.low (a.negative h.0) d.low t.3) h.2

  none_lacking : (s : Contents N) (cs : List N) (right : N) → ¬ Lacking a s cs right
  none_lacking s cs right (in_tops h) = no_tops cs s.moves h
  none_lacking s cs right (in_B h) = no_sum (a.negative right) cs s.fixed h
  none_lacking s cs right (in_units ds b t u z h) = no_units ds h
  none_lacking s cs right (in_rounds ds fs b t u z n h) =
      let w : Work N = record { B = b; columns = fs } in
      ⊎_elim (λ (r : LacksRound a w). ⊎_elim (no_reduced r.work.B (at a r.work.columns r.l)) (no_reduced (at a r.work.columns r.l) (at a r.work.columns r.r)) r.lacks)
      (λ (e : LacksEnd a w). no_finish e.work.B (at a e.work.columns e.l) e.lacks) h

  pub never_overflows : Laws a → NeverOverflows a
  never_overflows laws s cs right e = none_lacking s cs right (((only_products a laws).overflows s cs right).0 e)

pub weekdays_never : NeverOverflows weekdays
weekdays_never = never_overflows weekdays (λ c q d e. absurd cc) weekday_laws

-- 1 x + 1 y = 0, posted to a sheet whose move is -2147483647, -1
pub wholes_may : ¬ NeverOverflows wholes
wholes_may never =
    let zero = nearest (pos 0) in
    let one = nearest (pos 1) in
    never (record { fixed = zero ∷ (zero ∷ []); moves = (nearest (negsuc 2147483646) ∷ (nearest (negsuc 0) ∷ [])) ∷ [] }) (one ∷ (one ∷ [])) zero refl
