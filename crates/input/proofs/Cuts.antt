-- A text cut at its first line feed, where a search for it stops, and over chunks.
use Rattle.std.proofs.Common.{◌≡◌, ℕ, ◌+◌, ◌-◌, ◌≤◌, min, Bool, true, false, cond, eqb, ltb, List, [], ◌∷◌, ◌++◌, length, take, drop, Option, Some, None, position, option_map, zero, suc, suc-add, sym, refl, ap, ◌∙◌, arith}
use Rattle.std.specs.List.{position_or_len}
use Rattle.std.proofs.lemmas.Grind.{common_steps}
use Rattle.std.proofs.lemmas.List.{take_all, take_min, append-nil, append_assoc}
use Rattle.std.proofs.Math.Seq.{take-append-add}
use Rattle.std.proofs.lemmas.Bool.Decides.{nat_tests}
use Rattle.input.specs.Cutting.{line, ended, rest, lines, left}
use Rattle.input.specs.declared.TheConstants.{KEEP}

-- whether a byte is a line feed
abbrev pub is_feed : ℕ → Bool
is_feed b = eqb b 10

pub length-line : (xs : List ℕ) → length (line xs) ≡ position_or_len is_feed xs
length-line [] = refl
length-line (b ∷ xs) = grind (arith, common_steps, nat_tests, length-line xs)

pub ended_is : (xs : List ℕ) → ended xs ≡ ltb (position_or_len is_feed xs) (length xs)
ended_is [] = refl
ended_is (b ∷ xs) = grind (arith, common_steps, nat_tests, ended_is xs)

pub line_front : (xs : List ℕ) → line xs ≡ take (length (line xs)) xs
line_front [] = refl
line_front (b ∷ xs) =
    elim (eqb b 10) as (λ t. cond t [] (b ∷ line xs) ≡ take (length (cond t [] (b ∷ line xs))) (b ∷ xs)) [ true ↦ refl | false ↦ ap (λ (t : List ℕ). b ∷ t) (line_front xs) ]

-- a line feed is found at n
pub line_found : (xs : List ℕ) (n : ℕ) → position is_feed xs ≡ Some n → line xs ≡ take n xs
line_found xs n e =
    let at : length (line xs) ≡ n = grind (arith, common_steps, length-line xs) in
    line_front xs ∙ ap (λ (k : ℕ). take k xs) at

pub rest_found : (xs : List ℕ) (n : ℕ) → position is_feed xs ≡ Some n → rest xs ≡ Some (drop (n + 1) xs)
rest_found xs n e = grind (arith, common_steps, length-line xs, ended_is xs)

-- none is found
pub line_missed : (xs : List ℕ) → position is_feed xs ≡ None → line xs ≡ xs
line_missed xs e =
    let all : length xs ≤ length (line xs) = grind (arith, common_steps, length-line xs) in
    line_front xs ∙ take_all (length (line xs)) xs all

pub rest_missed : (xs : List ℕ) → position is_feed xs ≡ None → rest xs ≡ None
rest_missed xs e = grind (arith, common_steps, ended_is xs)

-- the first k bytes of what was held and what follows it
pub kept : (old s : List ℕ) (n k : ℕ) → length old ≤ k → n ≡ min (length s) (k - length old) → old ++ take n s ≡ take k (old ++ s)
kept old s n k le e =
    let m : n ≡ min (k - length old) (length s) = omega arith in
    let q : length old + (k - length old) ≡ k = omega arith in
    ap (λ (i : ℕ). old ++ take i s) m
    ∙ ap (λ (t : List ℕ). old ++ t) (take_min (k - length old) s)
    ∙ sym (take-append-add old s (k - length old))
    ∙ ap (λ (i : ℕ). take i (old ++ s)) q

-- what follows the first line feed of b and xs, by whether b is one
abbrev pub after : Bool → ℕ → List ℕ → Option (List ℕ)
after v b xs = option_map (λ k. drop k (b ∷ xs)) (cond (cond v true (ended xs)) (Some (length (cond v [] (b ∷ line xs)) + 1)) None)

-- past a byte that is no line feed
rest_past : (b : ℕ) (xs : List ℕ) → option_map (λ k. drop k (b ∷ xs)) (cond (ended xs) (Some (suc (length (line xs)) + 1)) None) ≡ rest xs
rest_past b xs =
    elim (ended xs) as (λ v. option_map (λ k. drop k (b ∷ xs)) (cond v (Some (suc (length (line xs)) + 1)) None) ≡ option_map (λ k. drop k xs) (cond v (Some (length (line xs) + 1)) None)) [
      | true ↦ ap (λ (n : ℕ). Some (drop n (b ∷ xs))) (suc-add (length (line xs)) 1)
      | false ↦ refl
    ]

-- the lines of a text that has a line feed: the first, and those of what follows it
pub lines_found : (held xs ys : List ℕ) → rest xs ≡ Some ys → lines held xs ≡ take KEEP (held ++ line xs) ∷ lines [] ys
lines_found held [] ys = λ e. cc
lines_found held (b ∷ xs) ys =
    elim (eqb b 10) as (λ v. after v b xs ≡ Some ys → cond v (take KEEP held ∷ lines [] xs) (lines (held ++ b ∷ []) xs) ≡ take KEEP (held ++ cond v [] (b ∷ line xs)) ∷ lines [] ys) [
      | true ↦ λ e. let same : xs ≡ ys = cc in ap (λ (t : List ℕ). take KEEP held ∷ lines [] t) same ∙ ap (λ (t : List ℕ). take KEEP t ∷ lines [] ys) (sym (append-nil held))
      | false ↦ λ e. lines_found (held ++ b ∷ []) xs ys (sym (rest_past b xs) ∙ e) ∙ ap (λ (t : List ℕ). take KEEP t ∷ lines [] ys) (append_assoc held (b ∷ []) (line xs))
    ]

pub left_found : (held xs ys : List ℕ) → rest xs ≡ Some ys → left held xs ≡ left [] ys
left_found held [] ys = λ e. cc
left_found held (b ∷ xs) ys =
    elim (eqb b 10) as (λ v. after v b xs ≡ Some ys → cond v (left [] xs) (left (held ++ b ∷ []) xs) ≡ left [] ys) [
      | true ↦ λ e. let same : xs ≡ ys = cc in ap (left []) same
      | false ↦ λ e. left_found (held ++ b ∷ []) xs ys (sym (rest_past b xs) ∙ e)
    ]

-- a text that has none
pub lines_missed : (held xs : List ℕ) → rest xs ≡ None → lines held xs ≡ []
lines_missed held [] = λ e. refl
lines_missed held (b ∷ xs) =
    elim (eqb b 10) as (λ v. after v b xs ≡ None → cond v (take KEEP held ∷ lines [] xs) (lines (held ++ b ∷ []) xs) ≡ []) [
      | true ↦ λ e. cc
      | false ↦ λ e. lines_missed (held ++ b ∷ []) xs (sym (rest_past b xs) ∙ e)
    ]

pub left_missed : (held xs : List ℕ) → rest xs ≡ None → left held xs ≡ take KEEP (held ++ line xs)
left_missed held [] = λ e. ap (take KEEP) (sym (append-nil held))
left_missed held (b ∷ xs) =
    elim (eqb b 10) as (λ v. after v b xs ≡ None → cond v (left [] xs) (left (held ++ b ∷ []) xs) ≡ take KEEP (held ++ cond v [] (b ∷ line xs))) [
      | true ↦ λ e. cc
      | false ↦ λ e. left_missed (held ++ b ∷ []) xs (sym (rest_past b xs) ∙ e) ∙ ap (take KEEP) (append_assoc held (b ∷ []) (line xs))
    ]

-- the next line begins with nothing held
pub left_on : (held xs ys new : List ℕ) → rest xs ≡ Some ys → new ≡ [] → left new ys ≡ left held xs
left_on held xs ys new e n = ap (λ (t : List ℕ). left t ys) n ∙ sym (left_found held xs ys e)

-- the lines of a text that has a line feed, where others are those that follow the first
lines_with : (old xs ys new : List ℕ) (others : List (List ℕ)) → rest xs ≡ Some ys → new ≡ [] → lines new ys ≡ others → lines old xs ≡ take KEEP (old ++ line xs) ∷ others
lines_with old xs ys new others e n is =
    let one : List ℕ = take KEEP (old ++ line xs) in
    lines_found old xs ys e ∙ ap (λ (t : List (List ℕ)). one ∷ t) (ap (λ (t : List ℕ). lines t ys) (sym n) ∙ is)

-- of what is held only the first bytes count
take_front : (k : ℕ) (xs ys : List ℕ) → take k (take k xs ++ ys) ≡ take k (xs ++ ys)
take_front zero xs ys = refl
take_front (suc k) [] ys = refl
take_front (suc k) (b ∷ xs) ys = ap (λ (t : List ℕ). b ∷ t) (take_front k xs ys)

held_same : (h i xs : List ℕ) → take KEEP h ≡ take KEEP i → take KEEP (h ++ xs) ≡ take KEEP (i ++ xs)
held_same h i xs e = sym (take_front KEEP h xs) ∙ ap (λ (t : List ℕ). take KEEP (t ++ xs)) e ∙ take_front KEEP i xs

lines_same : (h i xs : List ℕ) → take KEEP h ≡ take KEEP i → lines h xs ≡ lines i xs
lines_same h i [] e = refl
lines_same h i (b ∷ xs) e =
    elim (eqb b 10) as (λ v. cond v (take KEEP h ∷ lines [] xs) (lines (h ++ b ∷ []) xs) ≡ cond v (take KEEP i ∷ lines [] xs) (lines (i ++ b ∷ []) xs)) [
      | true ↦ ap (λ (t : List ℕ). t ∷ lines [] xs) e
      | false ↦ lines_same (h ++ b ∷ []) (i ++ b ∷ []) xs (held_same h i (b ∷ []) e)
    ]

left_same : (h i xs : List ℕ) → take KEEP h ≡ take KEEP i → left h xs ≡ left i xs
left_same h i [] e = e
left_same h i (b ∷ xs) e =
    elim (eqb b 10) as (λ v. cond v (left [] xs) (left (h ++ b ∷ []) xs) ≡ cond v (left [] xs) (left (i ++ b ∷ []) xs)) [
      | true ↦ refl
      | false ↦ left_same (h ++ b ∷ []) (i ++ b ∷ []) xs (held_same h i (b ∷ []) e)
    ]

cut_again : (h : List ℕ) → take KEEP h ≡ take KEEP (take KEEP h)
cut_again h = ap (take KEEP) (sym (append-nil h)) ∙ sym (take_front KEEP h []) ∙ ap (take KEEP) (append-nil (take KEEP h))

-- the lines of two chunks are those of the first, and those of the second behind what is left of the first
pub lines_append : (h xs ys : List ℕ) → lines h (xs ++ ys) ≡ lines h xs ++ lines (left h xs) ys
lines_append h [] ys = lines_same h (take KEEP h) ys (cut_again h)
lines_append h (b ∷ xs) ys =
    elim (eqb b 10) as (λ v. cond v (take KEEP h ∷ lines [] (xs ++ ys)) (lines (h ++ b ∷ []) (xs ++ ys)) ≡ cond v (take KEEP h ∷ lines [] xs) (lines (h ++ b ∷ []) xs) ++ lines (cond v (left [] xs) (left (h ++ b ∷ []) xs)) ys) [
      | true ↦ ap (λ (t : List (List ℕ)). take KEEP h ∷ t) (lines_append [] xs ys)
      | false ↦ lines_append (h ++ b ∷ []) xs ys
    ]

pub left_append : (h xs ys : List ℕ) → left h (xs ++ ys) ≡ left (left h xs) ys
left_append h [] ys = left_same h (take KEEP h) ys (cut_again h)
left_append h (b ∷ xs) ys =
    elim (eqb b 10) as (λ v. cond v (left [] (xs ++ ys)) (left (h ++ b ∷ []) (xs ++ ys)) ≡ left (cond v (left [] xs) (left (h ++ b ∷ []) xs)) ys) [
      | true ↦ left_append [] xs ys
      | false ↦ left_append (h ++ b ∷ []) xs ys
    ]
