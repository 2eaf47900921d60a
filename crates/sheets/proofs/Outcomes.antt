-- What a posting comes to, from its steps.
use Rattle.std.proofs.Common.{◌≡◌, ℕ, suc, ◌+◌, ◌-◌, ◌*◌, ◌<◌, ◌≤◌, List, [], ◌++◌, map, length, get_or, take, drop, Some, None, Ok, sym, refl, ap, ◌∙◌, subst, inr, zero-add, mul-one, mul-add, arith}
use Rattle.std.proofs.ByRecursion.{All-from_get_or}
use Rattle.std.proofs.lemmas.List.{length-replicate, take_at, drop_at, drop-drop, get_or-take}
use Rattle.kinds.specs.Kind.{Arithmetic}
use Rattle.lines.specs.Page.{over}
use Rattle.plans.specs.Posting.{Column, Outcome, taken, contradicted, overflow, normalised, rounds, total_size, finish, worked, without}
use Rattle.plans.specs.Sheet.{Contents}
use Rattle.sheets.specs.declared.call.Success.TheVariants.{Done}
use Rattle.sheets.specs.Answers.{Answer}
use Rattle.sheets.specs.Cells.{main_cells, spare_cells, needed, part, number, numbers, number_at, zero_cells, main_of}
use Rattle.sheets.specs.Combining.{Within}
use Rattle.sheets.specs.Posted.{answer_of, main_after, cells_after, Settled}
use Rattle.sheets.specs.Work.{Only, column_at, columns_at, work_at, work_cells, rounds_at, left_at}
use Rattle.sheets.proofs.Closing.{each_left, length_L}
use Rattle.sheets.proofs.Laying.{part_before}
use Rattle.sheets.proofs.Limits.{only_within, within_wider, within_trans}
use Rattle.sheets.proofs.Numbers.{length_numbers_part}
use Rattle.sheets.proofs.Places.{column_in}
use Rattle.sheets.proofs.Reading.{length_main}
use Rattle.sheets.proofs.Rounding.{columns_kept}
use Rattle.sheets.proofs.Standing.{length_over}

module _ {N C : Type 0} (a : Arithmetic N C) (n p k : ℕ) (place : p ≡ n * (n + 1)) where
  -- an outcome that leaves the main cells
  pub settled_kept : (o : Outcome N) (r : Answer) (cs ds : List C) → r ≡ answer_of o → main_after a o n cs ≡ take (main_cells n) cs → Within p (work_cells a n k) cs ds → Settled a o n p k cs r ds
  settled_kept o r cs ds e m w =
      record {
        answer = e;
        len = w.len;
        main = ap (λ (i : ℕ). take i ds) (sym place) ∙ w.front ∙ ap (λ (i : ℕ). take i cs) place ∙ sym m;
        back = w.back;
      }

  -- the main cells written
  pub settled_taken : (s : Contents N) (cs ds es : List C) → Within p (work_cells a n k) cs ds → length (main_of a n s) ≡ main_cells n → p ≤ length cs → es ≡ over ds 0 (main_of a n s) → Settled a (taken s) n p k cs (Ok Done) es
  settled_taken s cs ds es w l h e =
      let M = main_of a n s in
      let z = zero-add (length M) in
      let ld = w.len in
      let le : length es ≡ length ds = ap length e ∙ length_over ds M 0 (omega arith) in
      record {
        answer = refl;
        len = le ∙ ld;
        main = ap (take (main_cells n)) e ∙ take_at M (drop (0 + length M) ds) (main_cells n) l;
        back = back M ds es z e (omega arith) ∙ w.back;
      }
    where
      back : (M ds es : List C) → 0 + length M ≡ length M → es ≡ over ds 0 M → length M ≤ p → drop (p + work_cells a n k) es ≡ drop (p + work_cells a n k) ds
      back M ds es z e h =
          let d = (p + work_cells a n k) - length M in
          let q : length M + d ≡ p + work_cells a n k = omega arith in
          ap (λ (i : ℕ). drop i es) (sym q) ∙ sym (drop-drop d (length M) es)
          ∙ ap (drop d) (ap (drop (length M)) e ∙ drop_at M (drop (0 + length M) ds) (length M) refl ∙ ap (λ (i : ℕ). drop i ds) z)
          ∙ drop-drop d (length M) ds ∙ ap (λ (i : ℕ). drop i ds) q

-- the main cells of what a posting leaves
pub length_left : {N C : Type 0} (a : Arithmetic N C) (n p k l : ℕ) (cs : List C) → p ≡ n * (n + 1) → k ≤ n → p + ((n + 1) + k * (n + 1)) ≤ length cs → l < k → length (main_of a n (left_at a cs n p k l)) ≡ main_cells n
length_left a n p k l cs place few room hl =
    let m = mul-add n n 1 in
    let o = mul-one n in
    let main : n + n * n ≤ p = omega arith in
    let s = left_at a cs n p k l in
    length_main a n (k - 1) s
    (record {
      fixed_length = length_numbers_part a cs (p + 1) n (omega arith);
      moves_length = All-from_get_or (λ v. length v ≡ n) s.moves [] (each_left a n p k l cs main few room hl);
      many = length_L a n p k l cs main few room hl;
    })
    (omega arith)

module _ {N C : Type 0} (a : Arithmetic N C) (n p k : ℕ) (cs : List C) (place : p ≡ n * (n + 1)) (few : k ≤ n) (room : p + ((n + 1) + k * (n + 1)) ≤ length cs) where
  abbrev O : Outcome N
  O = worked a (column_at a cs n p) (normalised a (columns_at a cs n (p + (n + 1)) k))

  pub normal_fails : (r : Answer) (ds : List C) → r ≡ answer_of {N = N} overflow → normalised a (columns_at a cs n (p + (n + 1)) k) ≡ None → Within (p + (n + 1)) (k * (n + 1)) cs ds → Settled a O n p k cs r ds
  normal_fails r ds er e w =
      let o : O ≡ overflow = ap (worked a (column_at a cs n p)) e in
      settled_kept a n p k place O r cs ds (er ∙ ap answer_of (sym o)) (ap (λ (x : Outcome N). main_after a x n cs) o) (within_wider w (omega arith) (omega arith))

  module _ (ds : List C) (e1 : normalised a (columns_at a cs n (p + (n + 1)) k) ≡ Some (columns_at a ds n (p + (n + 1)) k)) (w1 : Within (p + (n + 1)) (k * (n + 1)) cs ds) where
    B_same : column_at a ds n p ≡ column_at a cs n p
    B_same =
        let z = a.to_cell a.zero in
        let h : p < p + (n + 1) = omega arith in
        let t : number_at a ds p ≡ number_at a cs p = ap (number a) (sym (get_or-take (p + (n + 1)) ds p z h) ∙ ap (λ (x : List C). get_or x p z) w1.front ∙ get_or-take (p + (n + 1)) cs p z h) in
        let u : numbers a (part (p + 1) n ds) ≡ numbers a (part (p + 1) n cs) = ap (numbers a) (part_before (p + (n + 1)) (k * (n + 1)) (p + 1) n cs ds w1 (omega arith)) in
        λ i. record { top = t i; low = u i }

    after_normal : O ≡ finish a (rounds_at a ds n p k)
    after_normal =
        ap (worked a (column_at a cs n p)) e1
        ∙ ap (λ (b : Column N). finish a (rounds a (suc (total_size a (columns_at a ds n (p + (n + 1)) k))) (record { B = b; columns = columns_at a ds n (p + (n + 1)) k }))) (sym B_same)

    wide1 : Within p (work_cells a n k) cs ds
    wide1 = within_wider w1 (omega arith) (omega arith)

    pub rounds_fail : (r : Answer) (es : List C) → r ≡ answer_of {N = N} overflow → rounds_at a ds n p k ≡ None → Within p (work_cells a n k) ds es → Settled a O n p k cs r es
    rounds_fail r es er e w =
        let o : O ≡ overflow = after_normal ∙ ap (finish a) e in
        settled_kept a n p k place O r cs es (er ∙ ap answer_of (sym o)) (ap (λ (x : Outcome N). main_after a x n cs) o) (within_trans wide1 w)

    module _ (l : ℕ) (es : List C) (e2 : rounds_at a ds n p k ≡ Some (l, work_at a es n p k)) (hl : l < k) (w2 : Within p (work_cells a n k) ds es) where
      after_rounds : O ≡ finish a (Some (l, work_at a es n p k))
      after_rounds = after_normal ∙ ap (finish a) e2

      wide2 : Within p (work_cells a n k) cs es
      wide2 = within_trans wide1 w2

      pub length_2 : length es ≡ length cs
      length_2 = wide2.len

      pub finish_fails : (r : Answer) (fs : List C) → r ≡ answer_of {N = N} overflow → finish a (Some (l, work_at a es n p k)) ≡ overflow → Within p (work_cells a n k) es fs → Settled a O n p k cs r fs
      finish_fails r fs er e w =
          let o : O ≡ overflow = after_rounds ∙ e in
          settled_kept a n p k place O r cs fs (er ∙ ap answer_of (sym o)) (ap (λ (x : Outcome N). main_after a x n cs) o) (within_trans wide2 w)

      pub finish_against : (fs : List C) → finish a (Some (l, work_at a es n p k)) ≡ contradicted → fs ≡ es → Settled a O n p k cs (answer_of {N = N} contradicted) fs
      finish_against fs e s =
          let o : O ≡ contradicted = after_rounds ∙ e in
          let w : Within p (work_cells a n k) cs fs = subst (Within p (work_cells a n k) cs) (sym s) wide2 in
          settled_kept a n p k place O (answer_of {N = N} contradicted) cs fs (ap answer_of (sym o)) (ap (λ (x : Outcome N). main_after a x n cs) o) w

      -- finish took the equation, and the moves' columns are those before it
      pub finish_takes : (fs gs : List C)
          → finish a (Some (l, work_at a es n p k)) ≡ taken (record { fixed = numbers a (part (p + 1) n fs); moves = map (λ c. c.low) (without (columns_at a es n (p + (n + 1)) k) l) })
          → Only (p + 1) n es fs → gs ≡ over fs 0 (main_of a n (left_at a fs n p k l)) → Settled a O n p k cs (Ok Done) gs
      finish_takes fs gs e o g =
          let z = a.to_cell a.zero in
          let le = length_2 in
          let m : left_at a fs n p k l ≡ record { fixed = numbers a (part (p + 1) n fs); moves = map (λ c. c.low) (without (columns_at a es n (p + (n + 1)) k) l) }
          = ap (λ (x : List (Column N)). record { fixed = numbers a (part (p + 1) n fs); moves = map (λ c. c.low) (without x l) }) (columns_kept a n (p + (n + 1)) k es fs (omega arith) (p + 1) n o (omega arith) (inr (omega arith))) in
          let w3 : Within p (work_cells a n k) es fs = only_within z (p + 1) n p (work_cells a n k) es fs o (omega arith) (omega arith) (omega arith) in
          let q : O ≡ taken (left_at a fs n p k l) = after_rounds ∙ e ∙ ap taken (sym m) in
          let w : Within p (work_cells a n k) cs fs = within_trans wide2 w3 in
          let lf = w.len in
          subst (λ (x : Outcome N). Settled a x n p k cs (Ok Done) gs) (sym q)
          (settled_taken a n p k place (left_at a fs n p k l) cs fs gs w (length_left a n p k l fs place few (omega arith) hl) (omega arith) g)

-- the spare cells wiped at the end
pub all_cells : {N C : Type 0} (a : Arithmetic N C) (o : Outcome N) (n p k : ℕ) (cs ds es : List C) (r : Answer) → p ≡ n * (n + 1) → k ≤ n → p + spare_cells n ≤ length cs → Settled a o n p k cs r ds → es ≡ over ds p (zero_cells a (spare_cells n)) → es ≡ cells_after a o n cs
all_cells {N} {C} a o n p k cs ds es r place few room s e =
    let z = length-replicate (spare_cells n) (a.to_cell a.zero) in
    let m : take p ds ≡ main_after a o n cs = ap (λ (i : ℕ). take i ds) place ∙ s.main in
    let q : p + length (zero_cells a (spare_cells n)) ≡ needed n = omega arith in
    let b : drop (needed n) ds ≡ drop (needed n) cs = back (needed n - (p + work_cells a n k)) (let w : (n + 1) + k * (n + 1) ≤ spare_cells n = wide in omega arith) in
    e ∙ (λ i. m i ++ (zero_cells a (spare_cells n) ++ drop (q i) ds)) ∙ ap (λ (x : List C). main_after a o n cs ++ (zero_cells a (spare_cells n) ++ x)) b
  where
    wide : (n + 1) + k * (n + 1) ≤ spare_cells n
    wide = let t = column_in k (n + 1) (n + 1) (omega arith) in omega arith

    back : (d : ℕ) → p + work_cells a n k + d ≡ needed n → drop (needed n) ds ≡ drop (needed n) cs
    back d f =
        ap (λ (i : ℕ). drop i ds) (sym f) ∙ sym (drop-drop d (p + work_cells a n k) ds) ∙ ap (drop d) s.back ∙ drop-drop d (p + work_cells a n k) cs ∙ ap (λ (i : ℕ). drop i cs) f
