-- Changes of columns that keep what the choices make.
use Rattle.std.proofs.Common.{◌≡◌, ℕ, suc, ◌<◌, ◌≢◌, List, [], ◌∷◌, map, length, get_or, set, ℤ, pos, ◌*ℤ◌, neg_ℤ, sym, refl, ap, ◌∙◌, ap₂, arith, length-set}
use Rattle.kinds.specs.Kind.{Same}
use Rattle.kinds.specs.Ring.{ring, times_one, *ℤ-assoc}
use Rattle.kinds.specs.Sames.{same_eq, same_refl, same_sym, same_trans, same_mul}
use Rattle.plans.specs.Solution.{SameLists, ended, also, plus, made}
use Rattle.plans.proofs.SameLists.{lists_refl, lists_eq, lists_sym, lists_trans, lists_length, lists_at, lists_head, lists_tail, SameColumns, columns_refl, columns_length}
use Rattle.plans.proofs.Vectors.{shift, shift_length, made_shift, made_set, shift_away, shift_back, shift_once, plus_same, made_same}

-- the columns (u, vs) and (u', vs') make the same, by choices that answer each other
pub record Change (m : ℕ) (u : List ℤ) (vs : List (List ℤ)) (u' : List ℤ) (vs' : List (List ℤ)) : Type 0 where
  pub as_many : length vs' ≡ length vs
  pub to_old : List ℤ → List ℤ
  pub to_new : List ℤ → List ℤ
  pub old_length : (y : List ℤ) → length y ≡ length vs → length (to_old y) ≡ length vs
  pub new_length : (y : List ℤ) → length y ≡ length vs → length (to_new y) ≡ length vs
  pub old_made : (y : List ℤ) → length y ≡ length vs → SameLists m (made u' vs' y) (made u vs (to_old y))
  pub new_made : (y : List ℤ) → length y ≡ length vs → SameLists m (made u vs y) (made u' vs' (to_new y))
  pub once : (y z : List ℤ) → length y ≡ length vs → length z ≡ length vs → SameLists m (to_old y) (to_old z) → SameLists m y z

-- q times a move more in the fixed column
pub change_fixed : {m : ℕ} (u : List ℤ) (vs : List (List ℤ)) (u' : List ℤ) (l : ℕ) (q : ℤ) → l < length vs → SameLists m u' (plus u q (get_or vs l [])) → Change m u vs u' vs
change_fixed u vs u' l q i h = record {
  as_many = refl;
  to_old = λ y. shift l q y;
  to_new = λ y. shift l (neg_ℤ q) y;
  old_length = λ y e. shift_length l q y ∙ e;
  new_length = λ y e. shift_length l (neg_ℤ q) y ∙ e;
  old_made = λ y e. lists_trans (made_same (columns_refl vs) (lists_refl y) h) (lists_eq (sym (made_shift u vs l q y e i)));
  new_made = λ y e. lists_trans (lists_eq (ap (made u vs) (sym (shift_back l q y)) ∙ made_shift u vs l q (shift l (neg_ℤ q) y) (shift_length l (neg_ℤ q) y ∙ e) i))
      (made_same (columns_refl vs) (lists_refl (shift l (neg_ℤ q) y)) (lists_sym h));
  once = λ y z e f k. shift_once l q q y z same_refl k;
}

-- q times another move more in a move
pub change_move : {m : ℕ} (u : List ℤ) (vs vs' : List (List ℤ)) (l r : ℕ) (q : ℤ) → l < length vs → r < length vs → r ≢ l → length (get_or vs r []) ≡ length (get_or vs l []) →
    SameColumns m vs' (set vs l (plus (get_or vs l []) q (get_or vs r []))) → Change m u vs u vs'
change_move {m} u vs vs' l r q i j n s h = record {
  as_many = columns_length h ∙ length-set vs l (plus (get_or vs l []) q (get_or vs r []));
  to_old = old;
  to_new = new;
  old_length = λ y e. shift_length r (get_or y l (pos 0) *ℤ q) y ∙ e;
  new_length = λ y e. shift_length r (neg_ℤ (get_or y l (pos 0) *ℤ q)) y ∙ e;
  old_made = made_old;
  new_made = λ y e. lists_trans (lists_eq (ap (made u vs) (sym (old_new y)))) (lists_sym (made_old (new y) (shift_length r (neg_ℤ (get_or y l (pos 0) *ℤ q)) y ∙ e)));
  once = λ y z e f k. shift_once r (get_or y l (pos 0) *ℤ q) (get_or z l (pos 0) *ℤ q) y z (same_mul (at_l y z k) same_refl) k;
}
  where
    old : List ℤ → List ℤ
    old y = shift r (get_or y l (pos 0) *ℤ q) y

    new : List ℤ → List ℤ
    new y = shift r (neg_ℤ (get_or y l (pos 0) *ℤ q)) y

    made_old : (y : List ℤ) → length y ≡ length vs → SameLists m (made u vs' y) (made u vs (old y))
    made_old y e = lists_trans (made_same h (lists_refl y) (lists_refl u)) (lists_eq (made_set u vs l q (get_or vs r []) y e i s ∙ sym (made_shift u vs r (get_or y l (pos 0) *ℤ q) y e j)))

    old_new : (y : List ℤ) → old (new y) ≡ y
    old_new y = ap (λ x. shift r (x *ℤ q) (new y)) (shift_away r l (neg_ℤ (get_or y l (pos 0) *ℤ q)) y n) ∙ shift_back r (get_or y l (pos 0) *ℤ q) y

    at_l : (y z : List ℤ) → SameLists m (old y) (old z) → Same m (get_or y l (pos 0)) (get_or z l (pos 0))
    at_l y z k = same_trans (same_eq (sym (shift_away r l (get_or y l (pos 0) *ℤ q) y n))) (same_trans (lists_at l k) (same_eq (shift_away r l (get_or z l (pos 0) *ℤ q) z n)))

-- each move times a number that has an inverse
abbrev pub times : ℤ → List ℤ → List ℤ
times t v = map (λ x. t *ℤ x) v

pub data Scaled (m : ℕ) : List (List ℤ) → List (List ℤ) → Type 0 where
  none_scaled : Scaled m [] []
  one_scaled : {v v' : List ℤ} {vs vs' : List (List ℤ)} (t w : ℤ) → Same m (t *ℤ w) (pos 1) → SameLists m v' (times t v) → Scaled m vs vs' → Scaled m (v ∷ vs) (v' ∷ vs')

scaled_length : {m : ℕ} {vs vs' : List (List ℤ)} → Scaled m vs vs' → length vs' ≡ length vs
scaled_length none_scaled = refl
scaled_length (one_scaled t w i h k) = ap suc (scaled_length k)

scaled_by : (ℤ → ℤ → ℤ) → {m : ℕ} {vs vs' : List (List ℤ)} → Scaled m vs vs' → List ℤ → List ℤ
scaled_by f none_scaled ys = ys
scaled_by f (one_scaled t w i h k) [] = []
scaled_by f (one_scaled t w i h k) (y ∷ ys) = (y *ℤ f t w) ∷ scaled_by f k ys

scaled_by_length : (f : ℤ → ℤ → ℤ) {m : ℕ} {vs vs' : List (List ℤ)} (k : Scaled m vs vs') (ys : List ℤ) → length (scaled_by f k ys) ≡ length ys
unfolding scaled_by
scaled_by_length f none_scaled ys = refl
scaled_by_length f (one_scaled t w i h k) [] = refl
scaled_by_length f (one_scaled t w i h k) (y ∷ ys) = ap suc (scaled_by_length f k ys)

abbrev old_scaled : {m : ℕ} {vs vs' : List (List ℤ)} → Scaled m vs vs' → List ℤ → List ℤ
old_scaled k ys = scaled_by (λ t w. t) k ys

abbrev new_scaled : {m : ℕ} {vs vs' : List (List ℤ)} → Scaled m vs vs' → List ℤ → List ℤ
new_scaled k ys = scaled_by (λ t w. w) k ys

plus_times : (u : List ℤ) (y t : ℤ) (v : List ℤ) → plus u y (times t v) ≡ plus u (y *ℤ t) v
plus_times [] y t v = refl
plus_times (a ∷ u) y t [] = refl
plus_times (a ∷ u) y t (b ∷ v) = ap₂ ◌∷◌ (simp ring) (plus_times u y t v)

made_scaled : {m : ℕ} {vs vs' : List (List ℤ)} (k : Scaled m vs vs') (ys u u' : List ℤ) → SameLists m u' u → SameLists m (made u' vs' ys) (made u vs (old_scaled k ys))
unfolding scaled_by
made_scaled none_scaled ys u u' e = e
made_scaled (one_scaled t w i h k) [] u u' e = e
made_scaled (one_scaled {v = v} {v' = v'} t w i h k) (y ∷ ys) u u' e = made_scaled k ys (plus u (y *ℤ t) v) (plus u' y v') (lists_trans (plus_same e same_refl h) (lists_eq (plus_times u y t v)))

inverse : {m : ℕ} (y t w : ℤ) → Same m (t *ℤ w) (pos 1) → Same m (y *ℤ w *ℤ t) y
inverse y t w i = same_trans (same_eq (simp ring)) (same_trans (same_mul {a = y} same_refl i) (same_eq (times_one y)))

inverse' : {m : ℕ} (y t w : ℤ) → Same m (t *ℤ w) (pos 1) → Same m (y *ℤ t *ℤ w) y
inverse' y t w i = same_trans (same_eq (*ℤ-assoc y t w)) (same_trans (same_mul {a = y} same_refl i) (same_eq (times_one y)))

divide : {m : ℕ} (y z t w : ℤ) → Same m (t *ℤ w) (pos 1) → Same m (y *ℤ t) (z *ℤ t) → Same m y z
divide y z t w i s = same_trans (same_sym (inverse' y t w i)) (same_trans (same_mul {c = w} s same_refl) (inverse' z t w i))

scaled_back : {m : ℕ} {vs vs' : List (List ℤ)} (k : Scaled m vs vs') (ys : List ℤ) → SameLists m (old_scaled k (new_scaled k ys)) ys
unfolding scaled_by
scaled_back none_scaled ys = lists_refl ys
scaled_back (one_scaled t w i h k) [] = ended
scaled_back (one_scaled t w i h k) (y ∷ ys) = also (inverse y t w i) (scaled_back k ys)

scaled_once : {m : ℕ} {vs vs' : List (List ℤ)} (k : Scaled m vs vs') (ys zs : List ℤ) → SameLists m (old_scaled k ys) (old_scaled k zs) → SameLists m ys zs
unfolding scaled_by
scaled_once none_scaled ys zs e = e
scaled_once (one_scaled t w i h k) [] [] e = ended
scaled_once (one_scaled t w i h k) [] (z ∷ zs) e = absurd (omega (arith, lists_length e))
scaled_once (one_scaled t w i h k) (y ∷ ys) [] e = absurd (omega (arith, lists_length e))
scaled_once (one_scaled t w i h k) (y ∷ ys) (z ∷ zs) e = also (divide y z t w i (lists_head e)) (scaled_once k ys zs (lists_tail e))

pub change_scaled : {m : ℕ} (u : List ℤ) (vs vs' : List (List ℤ)) → Scaled m vs vs' → Change m u vs u vs'
change_scaled u vs vs' k = record {
  as_many = scaled_length k;
  to_old = old_scaled k;
  to_new = new_scaled k;
  old_length = λ y e. scaled_by_length (λ t w. t) k y ∙ e;
  new_length = λ y e. scaled_by_length (λ t w. w) k y ∙ e;
  old_made = λ y e. made_scaled k y u u (lists_refl u);
  new_made = λ y e. lists_trans (made_same (columns_refl vs) (lists_sym (scaled_back k y)) (lists_refl u)) (lists_sym (made_scaled k (new_scaled k y) u u (lists_refl u)));
  once = λ y z e f h. scaled_once k y z h;
}
