-- Lists that are the same number by number, and lists of such: congruences.
use Rattle.std.proofs.Common.{◌≡◌, ℕ, zero, suc, List, [], ◌∷◌, length, get_or, set, ℤ, pos, refl, ap, subst}
use Rattle.kinds.specs.Kind.{Same}
use Rattle.kinds.specs.Sames.{same_refl, same_sym, same_trans}
use Rattle.plans.specs.Solution.{SameLists, ended, also}

pub lists_refl : {m : ℕ} (u : List ℤ) → SameLists m u u
lists_refl [] = ended
lists_refl (a ∷ u) = also same_refl (lists_refl u)

pub lists_eq : {m : ℕ} {u v : List ℤ} → u ≡ v → SameLists m u v
lists_eq {m} {u} {v} e = subst (λ x. SameLists m u x) e (lists_refl u)

pub lists_sym : {m : ℕ} {u v : List ℤ} → SameLists m u v → SameLists m v u
lists_sym ended = ended
lists_sym (also h k) = also (same_sym h) (lists_sym k)

pub lists_trans : {m : ℕ} {u v w : List ℤ} → SameLists m u v → SameLists m v w → SameLists m u w
lists_trans ended k = k
lists_trans (also h t) (also h' t') = also (same_trans h h') (lists_trans t t')

pub lists_length : {m : ℕ} {u v : List ℤ} → SameLists m u v → length u ≡ length v
lists_length ended = refl
lists_length (also h k) = ap suc (lists_length k)

pub lists_at : {m : ℕ} {u v : List ℤ} (i : ℕ) → SameLists m u v → Same m (get_or u i (pos 0)) (get_or v i (pos 0))
lists_at i ended = same_refl
lists_at zero (also h k) = h
lists_at (suc i) (also h k) = lists_at i k

pub lists_head : {m : ℕ} {a b : ℤ} {u v : List ℤ} → SameLists m (a ∷ u) (b ∷ v) → Same m a b
lists_head (also h k) = h

pub lists_tail : {m : ℕ} {a b : ℤ} {u v : List ℤ} → SameLists m (a ∷ u) (b ∷ v) → SameLists m u v
lists_tail (also h k) = k

-- the same column by column
pub data SameColumns (m : ℕ) : List (List ℤ) → List (List ℤ) → Type 0 where
  ended_all : SameColumns m [] []
  also_all : {v w : List ℤ} {vs ws : List (List ℤ)} → SameLists m v w → SameColumns m vs ws → SameColumns m (v ∷ vs) (w ∷ ws)

pub columns_refl : {m : ℕ} (vs : List (List ℤ)) → SameColumns m vs vs
columns_refl [] = ended_all
columns_refl (v ∷ vs) = also_all (lists_refl v) (columns_refl vs)

pub columns_length : {m : ℕ} {vs ws : List (List ℤ)} → SameColumns m vs ws → length vs ≡ length ws
columns_length ended_all = refl
columns_length (also_all h k) = ap suc (columns_length k)

pub columns_set : {m : ℕ} (vs : List (List ℤ)) (i : ℕ) {v w : List ℤ} → SameLists m v w → SameColumns m (set vs i v) (set vs i w)
columns_set [] i h = ended_all
columns_set (x ∷ vs) zero h = also_all h (columns_refl vs)
columns_set (x ∷ vs) (suc i) h = also_all (lists_refl x) (columns_set vs i h)
