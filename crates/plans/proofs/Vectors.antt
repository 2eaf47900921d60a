-- Lists of whole numbers as vectors: what more of a move, a changed move or a dropped move makes, and a top above each.
use Rattle.std.proofs.Common.{◌≡◌, ℕ, zero, suc, ◌<◌, ◌≢◌, List, [], ◌∷◌, map, length, get_or, set, ℤ, pos, ◌+ℤ◌, ◌*ℤ◌, neg_ℤ, sym, refl, ap, ◌∙◌, subst, ap₂, le_of_suc-le-suc, arith}
use native.Mathlib.Nat.{suc_inj}
use borrow.Author.Differences.{ints}
use lib.IntN.{+ℤ_comm}
use Rattle.std.specs.List.{AllByRecursion}
use Rattle.kinds.specs.Kind.{Same}
use Rattle.kinds.specs.Equation.{dot}
use Rattle.kinds.specs.Ring.{ring}
use Rattle.kinds.specs.Sames.{same_eq, same_refl, same_trans, same_add, same_mul, same_neg}
use Rattle.plans.specs.Posting.{without}
use Rattle.plans.specs.Solution.{SameLists, ended, also, plus, made, Sized}
use Rattle.plans.proofs.SameLists.{lists_refl, lists_length, lists_head, lists_tail, SameColumns, ended_all, also_all}

cons : {x y : ℤ} {u v : List ℤ} → x ≡ y → u ≡ v → ◌≡◌ {A = List ℤ} (x ∷ u) (y ∷ v)
cons p q = ap₂ ◌∷◌ p q

-- u + y × v
pub plus_length : (u : List ℤ) (y : ℤ) (v : List ℤ) → length (plus u y v) ≡ length u
plus_length [] y v = refl
plus_length (a ∷ u) y [] = refl
plus_length (a ∷ u) y (b ∷ v) = ap suc (plus_length u y v)

pub made_length : (u : List ℤ) (vs : List (List ℤ)) (y : List ℤ) → length (made u vs y) ≡ length u
made_length u [] y = refl
made_length u (v ∷ vs) [] = refl
made_length u (v ∷ vs) (y ∷ ys) = made_length (plus u y v) vs ys ∙ plus_length u y v

plus_swap : (u : List ℤ) (y : ℤ) (v : List ℤ) (z : ℤ) (w : List ℤ) → plus (plus u y v) z w ≡ plus (plus u z w) y v
plus_swap [] y v z w = refl
plus_swap (a ∷ u) y [] z [] = refl
plus_swap (a ∷ u) y [] z (c ∷ w) = refl
plus_swap (a ∷ u) y (b ∷ v) z [] = refl
plus_swap (a ∷ u) y (b ∷ v) z (c ∷ w) = cons (simp ring) (plus_swap u y v z w)

plus_twice : (u : List ℤ) (y z : ℤ) (v : List ℤ) → plus (plus u y v) z v ≡ plus u (y +ℤ z) v
plus_twice [] y z v = refl
plus_twice (a ∷ u) y z [] = refl
plus_twice (a ∷ u) y z (b ∷ v) = cons (simp ring) (plus_twice u y z v)

plus_none : (u v : List ℤ) → plus u (pos 0) v ≡ u
plus_none [] v = refl
plus_none (a ∷ u) [] = refl
plus_none (a ∷ u) (b ∷ v) = cons (simp ring) (plus_none u v)

plus_plus : (u : List ℤ) (y : ℤ) (v : List ℤ) (q : ℤ) (w : List ℤ) → length w ≡ length v → plus u y (plus v q w) ≡ plus (plus u y v) (y *ℤ q) w
plus_plus [] y v q w h = refl
plus_plus (a ∷ u) y [] q [] h = refl
plus_plus (a ∷ u) y [] q (c ∷ w) h = absurd (omega arith)
plus_plus (a ∷ u) y (b ∷ v) q [] h = refl
plus_plus (a ∷ u) y (b ∷ v) q (c ∷ w) h = cons (simp ring) (plus_plus u y v q w (suc_inj h))

sum_up : (a x y b d e : ℤ) → a *ℤ (x +ℤ y *ℤ b) +ℤ (d +ℤ y *ℤ e) ≡ (a *ℤ x +ℤ d) +ℤ y *ℤ (a *ℤ b +ℤ e)
sum_up a x y b d e = simp ring

dot_plus : (c u : List ℤ) (y : ℤ) (v : List ℤ) → length v ≡ length u → dot c (plus u y v) ≡ dot c u +ℤ y *ℤ dot c v
dot_plus [] u y v h = simp ring
dot_plus (a ∷ c) [] y [] h = simp ring
dot_plus (a ∷ c) [] y (b ∷ v) h = absurd (omega arith)
dot_plus (a ∷ c) (x ∷ u) y [] h = absurd (omega arith)
dot_plus (a ∷ c) (x ∷ u) y (b ∷ v) h = ap (λ z. a *ℤ (x +ℤ y *ℤ b) +ℤ z) (dot_plus c u y v (suc_inj h)) ∙ sum_up a x y b (dot c u) (dot c v)

-- a choice with z more at place j
abbrev pub shift : ℕ → ℤ → List ℤ → List ℤ
shift j z [] = []
shift zero z (y ∷ ys) = (y +ℤ z) ∷ ys
shift (suc j) z (y ∷ ys) = y ∷ shift j z ys

pub shift_length : (j : ℕ) (z : ℤ) (ys : List ℤ) → length (shift j z ys) ≡ length ys
shift_length zero z [] = refl
shift_length (suc j) z [] = refl
shift_length zero z (y ∷ ys) = refl
shift_length (suc j) z (y ∷ ys) = ap suc (shift_length j z ys)

-- z more in the choice at place j is z times the move at place j more in the fixed plan
pub made_shift : (u : List ℤ) (vs : List (List ℤ)) (j : ℕ) (z : ℤ) (ys : List ℤ) → length ys ≡ length vs → j < length vs →
    made u vs (shift j z ys) ≡ made (plus u z (get_or vs j [])) vs ys
made_shift u [] j z ys h k = absurd (omega arith)
made_shift u (v ∷ vs) j z [] h k = absurd (omega arith)
made_shift u (v ∷ vs) zero z (y ∷ ys) h k = ap (λ w. made w vs ys) (ap (λ x. plus u x v) (+ℤ_comm y z) ∙ sym (plus_twice u z y v))
made_shift u (v ∷ vs) (suc j) z (y ∷ ys) h k = made_shift (plus u y v) vs j z ys (suc_inj h) (le_of_suc-le-suc k) ∙ ap (λ w. made w vs ys) (plus_swap u y v z (get_or vs j []))

-- q times w more in the move at place l is its number in the choice times that more in the fixed plan
pub made_set : (u : List ℤ) (vs : List (List ℤ)) (l : ℕ) (q : ℤ) (w : List ℤ) (ys : List ℤ) → length ys ≡ length vs → l < length vs → length w ≡ length (get_or vs l []) →
    made u (set vs l (plus (get_or vs l []) q w)) ys ≡ made (plus u (get_or ys l (pos 0) *ℤ q) w) vs ys
made_set u [] l q w ys h i k = absurd (omega arith)
made_set u (v ∷ vs) l q w [] h i k = absurd (omega arith)
made_set u (v ∷ vs) zero q w (y ∷ ys) h i k = ap (λ x. made x vs ys) (plus_plus u y v q w k ∙ plus_swap u y v (y *ℤ q) w)
made_set u (v ∷ vs) (suc l) q w (y ∷ ys) h i k = made_set (plus u y v) vs l q w ys (suc_inj h) (le_of_suc-le-suc i) k ∙ ap (λ x. made x vs ys) (plus_swap u y v (get_or ys l (pos 0) *ℤ q) w)

-- laws of shift
pub shift_away : (j l : ℕ) (z : ℤ) (ys : List ℤ) → j ≢ l → get_or (shift j z ys) l (pos 0) ≡ get_or ys l (pos 0)
shift_away zero l z [] h = refl
shift_away (suc j) l z [] h = refl
shift_away zero zero z (y ∷ ys) h = absurd (h refl)
shift_away zero (suc l) z (y ∷ ys) h = refl
shift_away (suc j) zero z (y ∷ ys) h = refl
shift_away (suc j) (suc l) z (y ∷ ys) h = shift_away j l z ys (λ e. h (ap suc e))

undo : (y z : ℤ) → y +ℤ neg_ℤ z +ℤ z ≡ y
undo y z = omega (arith, ints)

pub shift_back : (j : ℕ) (z : ℤ) (ys : List ℤ) → shift j z (shift j (neg_ℤ z) ys) ≡ ys
shift_back zero z [] = refl
shift_back (suc j) z [] = refl
shift_back zero z (y ∷ ys) = cons (undo y z) refl
shift_back (suc j) z (y ∷ ys) = cons refl (shift_back j z ys)

cancel : {m : ℕ} {a b x y : ℤ} → Same m (a +ℤ x) (b +ℤ y) → Same m x y → Same m a b
cancel {m} {a} {b} {x} {y} h k = same_trans (same_eq (sym (move a x))) (same_trans (same_add h (same_neg k)) (same_eq (move b y)))
  where
    move : (a x : ℤ) → a +ℤ x +ℤ neg_ℤ x ≡ a
    move a x = omega (arith, ints)

pub shift_once : {m : ℕ} (j : ℕ) (z z' : ℤ) (ys ys' : List ℤ) → Same m z z' → SameLists m (shift j z ys) (shift j z' ys') → SameLists m ys ys'
shift_once zero z z' [] [] s h = ended
shift_once (suc j) z z' [] [] s h = ended
shift_once zero z z' [] (y ∷ ys) s h = absurd (omega (arith, lists_length h))
shift_once (suc j) z z' [] (y ∷ ys) s h = absurd (omega (arith, lists_length h))
shift_once zero z z' (y ∷ ys) [] s h = absurd (omega (arith, lists_length h))
shift_once (suc j) z z' (y ∷ ys) [] s h = absurd (omega (arith, lists_length h))
shift_once zero z z' (y ∷ ys) (y' ∷ ys') s h = also (cancel (lists_head h) s) (lists_tail h)
shift_once (suc j) z z' (y ∷ ys) (y' ∷ ys') s h = also (lists_head h) (shift_once j z z' ys ys' s (lists_tail h))

-- a choice with z put in at place j: with 0 there, the move at that place may be dropped
abbrev pub put_in : ℕ → ℤ → List ℤ → List ℤ
put_in zero z ys = z ∷ ys
put_in (suc j) z [] = z ∷ []
put_in (suc j) z (y ∷ ys) = y ∷ put_in j z ys

pub put_in_length : (j : ℕ) (z : ℤ) (ys : List ℤ) → length (put_in j z ys) ≡ suc (length ys)
put_in_length zero z ys = refl
put_in_length (suc j) z [] = refl
put_in_length (suc j) z (y ∷ ys) = ap suc (put_in_length j z ys)

pub without_length : {A : Type 0} (xs : List A) (i : ℕ) → i < length xs → suc (length (without xs i)) ≡ length xs
without_length [] i h = absurd (omega arith)
without_length (x ∷ xs) zero h = refl
without_length (x ∷ xs) (suc i) h = ap suc (without_length xs i (le_of_suc-le-suc h))

pub map_without : {A B : Type 0} (f : A → B) (xs : List A) (i : ℕ) → map f (without xs i) ≡ without (map f xs) i
map_without f [] i = refl
map_without f (x ∷ xs) zero = refl
map_without {B = B} f (x ∷ xs) (suc i) = ap {B = List B} (λ r. f x ∷ r) (map_without f xs i)

pub made_without : (u : List ℤ) (vs : List (List ℤ)) (l : ℕ) (ys : List ℤ) → l < length vs → length ys ≡ length (without vs l) →
    made u (without vs l) ys ≡ made u vs (put_in l (pos 0) ys)
made_without u [] l ys h k = absurd (omega arith)
made_without u (v ∷ vs) zero ys h k = ap (λ x. made x vs ys) (sym (plus_none u v))
made_without u (v ∷ vs) (suc l) [] h k = absurd (omega (arith, k))
made_without u (v ∷ vs) (suc l) (y ∷ ys) h k = made_without (plus u y v) vs l ys (le_of_suc-le-suc h) (suc_inj k)

pub put_in_without : {m : ℕ} (l : ℕ) (ys : List ℤ) → l < length ys → Same m (get_or ys l (pos 0)) (pos 0) → SameLists m ys (put_in l (pos 0) (without ys l))
put_in_without l [] h s = absurd (omega arith)
put_in_without zero (y ∷ ys) h s = also s (lists_refl ys)
put_in_without (suc l) (y ∷ ys) h s = also same_refl (put_in_without l ys (le_of_suc-le-suc h) s)

pub put_in_once : {m : ℕ} (l : ℕ) (z : ℤ) (ys ys' : List ℤ) → length ys ≡ length ys' → SameLists m (put_in l z ys) (put_in l z ys') → SameLists m ys ys'
put_in_once zero z ys ys' e h = lists_tail h
put_in_once (suc l) z [] [] e h = ended
put_in_once (suc l) z [] (y ∷ ys) e h = absurd (omega arith)
put_in_once (suc l) z (y ∷ ys) [] e h = absurd (omega arith)
put_in_once (suc l) z (y ∷ ys) (y' ∷ ys') e h = also (lists_head h) (put_in_once l z ys ys' (suc_inj e) (lists_tail h))

-- what `plus` and `made` make of same numbers
pub plus_same : {m : ℕ} {u u' v v' : List ℤ} {y y' : ℤ} → SameLists m u u' → Same m y y' → SameLists m v v' → SameLists m (plus u y v) (plus u' y' v')
plus_same ended s k = ended
plus_same (also h t) s ended = also h t
plus_same (also h t) s (also h' t') = also (same_add h (same_mul s h')) (plus_same t s t')

pub made_same : {m : ℕ} {vs vs' : List (List ℤ)} {ys ys' : List ℤ} {u u' : List ℤ} → SameColumns m vs vs' → SameLists m ys ys' → SameLists m u u' → SameLists m (made u vs ys) (made u' vs' ys')
made_same ended_all k h = h
made_same (also_all t ts) ended h = h
made_same (also_all t ts) (also k ks) h = made_same ts ks (plus_same h k t)

pub dot_same : {m : ℕ} {c c' u u' : List ℤ} → SameLists m c c' → SameLists m u u' → Same m (dot c u) (dot c' u')
dot_same ended k = same_refl
dot_same (also h t) ended = same_refl
dot_same (also h t) (also h' t') = same_add (same_mul h h') (dot_same t t')

-- the top of a column and what stands below it
abbrev pub first : List ℤ → ℤ
first [] = pos 0
first (a ∷ u) = a

abbrev pub rest : List ℤ → List ℤ
rest [] = []
rest (a ∷ u) = u

pub lists_rest : {m : ℕ} {u v : List ℤ} → SameLists m u v → SameLists m (rest u) (rest v)
lists_rest ended = ended
lists_rest (also h k) = k

-- the top that a choice makes of the top x and the moves' tops
abbrev pub top_made : ℤ → List ℤ → List ℤ → ℤ
top_made x [] ys = x
top_made x (t ∷ ts) [] = x
top_made x (t ∷ ts) (y ∷ ys) = top_made (x +ℤ y *ℤ t) ts ys

plus_empty : (u : List ℤ) (y : ℤ) → plus u y [] ≡ u
plus_empty [] y = refl
plus_empty (a ∷ u) y = refl

pub made_split : (x : ℤ) (u : List ℤ) (vs : List (List ℤ)) (ys : List ℤ) → made (x ∷ u) vs ys ≡ top_made x (map first vs) ys ∷ made u (map rest vs) ys
made_split x u [] ys = refl
made_split x u (v ∷ vs) [] = refl
made_split x u ([] ∷ vs) (y ∷ ys) = made_split x u vs ys ∙ ap₂ (λ (a : ℤ) (b : List ℤ). top_made a (map first vs) ys ∷ made b (map rest vs) ys) (simp ring) (sym (plus_empty u y))
made_split x u ((b ∷ v) ∷ vs) (y ∷ ys) = made_split (x +ℤ y *ℤ b) (plus u y v) vs ys

-- a move below its top, the sum of coefficient × entry; the top of a made plan is then its sum
abbrev pub under : List ℤ → List ℤ → List ℤ
under c v = dot c v ∷ v

reorder : (d y e b : ℤ) → d +ℤ b +ℤ y *ℤ e ≡ d +ℤ y *ℤ e +ℤ b
reorder d y e b = simp ring

pub made_under : (c : List ℤ) (b : ℤ) (u : List ℤ) (vs : List (List ℤ)) (ys : List ℤ) → Sized (length u) vs →
    made ((dot c u +ℤ b) ∷ u) (map (under c) vs) ys ≡ (dot c (made u vs ys) +ℤ b) ∷ made u vs ys
made_under c b u [] ys h = refl
made_under c b u (v ∷ vs) [] h = refl
made_under c b u (v ∷ vs) (y ∷ ys) h =
    ap (λ (x : ℤ). made (x ∷ plus u y v) (map (under c) vs) ys) (reorder (dot c u) y (dot c v) b ∙ ap (λ x. x +ℤ b) (sym (dot_plus c u y v h.0))) ∙
    made_under c b (plus u y v) vs ys (subst (λ k. Sized k vs) (sym (plus_length u y v)) h.1)

-- a top row that is 0 but at place l
vanish : {m : ℕ} (x y t : ℤ) → Same m t (pos 0) → Same m (x +ℤ y *ℤ t) x
vanish x y t h = same_trans (same_add {a = x} same_refl (same_mul {a = y} same_refl h)) (same_eq (simp ring))

pub top_made_none : {m : ℕ} (x : ℤ) (ts ys : List ℤ) → AllByRecursion (λ t. Same m t (pos 0)) ts → Same m (top_made x ts ys) x
top_made_none x [] ys h = same_refl
top_made_none x (t ∷ ts) [] h = same_refl
top_made_none x (t ∷ ts) (y ∷ ys) h = same_trans (top_made_none (x +ℤ y *ℤ t) ts ys h.1) (vanish x y t h.0)

pub top_made_one : {m : ℕ} (x : ℤ) (ts ys : List ℤ) (l : ℕ) → l < length ts → length ys ≡ length ts → AllByRecursion (λ t. Same m t (pos 0)) (without ts l) → Same m (top_made x ts ys) (x +ℤ get_or ys l (pos 0) *ℤ get_or ts l (pos 0))
top_made_one x [] ys l h e k = absurd (omega arith)
top_made_one x (t ∷ ts) [] l h e k = absurd (omega arith)
top_made_one x (t ∷ ts) (y ∷ ys) zero h e k = top_made_none (x +ℤ y *ℤ t) ts ys k
top_made_one x (t ∷ ts) (y ∷ ys) (suc l) h e k =
    same_trans (top_made_one (x +ℤ y *ℤ t) ts ys l (le_of_suc-le-suc h) (suc_inj e) k.1) (same_add {c = get_or ys l (pos 0) *ℤ get_or ts l (pos 0)} (vanish x y t k.0) same_refl)
