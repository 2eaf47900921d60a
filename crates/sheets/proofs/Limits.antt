-- Where a change of cells stays.
use Rattle.std.proofs.Common.{◌≡◌, ℕ, ◌+◌, ◌-◌, ◌≤◌, List, length, get_or, take, drop, sym, refl, ap, ◌∙◌, inr, arith}
use Rattle.std.proofs.lemmas.List.{length-take-le, length-drop, get_or-drop, take-append-le, take-take, drop-drop, ext_get_or}
use Rattle.sheets.specs.Combining.{Within}
use Rattle.sheets.specs.Work.{Only}
use Rattle.sheets.proofs.Standing.{length_over}
use Rattle.sheets.proofs.Walks.{get_or_over}

-- what changed within a part changed within a larger one
pub only_within : {C : Type 0} (z : C) (p h P H : ℕ) (cs ds : List C) → Only p h cs ds → p + h ≤ length cs → P ≤ p → p + h ≤ P + H → Within P H cs ds
only_within {C} z p h P H cs ds (s, (l, e)) b lo hi =
    let n : length ds ≡ length cs = ap length e ∙ length_over cs s p (omega arith) in
    record {
      len = n;
      front = ap (take P) e ∙ take-append-le P (take p cs) _ (let k = length-take-le p cs (omega arith) in omega arith) ∙ take-take P p cs lo;
      back =
          ext_get_or z (drop (P + H) ds) (drop (P + H) cs) (simp length-drop (omega arith))
          (λ i k. get_or-drop (P + H) ds i z ∙ ap (λ (x : List C). get_or x (P + H + i) z) e ∙ get_or_over cs s p (P + H + i) z (omega arith) (inr (omega arith)) ∙ sym (get_or-drop (P + H) cs i z));
    }

pub within_trans : {C : Type 0} {P H : ℕ} {cs ds es : List C} → Within P H cs ds → Within P H ds es → Within P H cs es
within_trans u v = record { len = v.len ∙ u.len; front = v.front ∙ u.front; back = v.back ∙ u.back }

pub within_same : {C : Type 0} {P H : ℕ} {cs : List C} → Within P H cs cs
within_same = record { len = refl; front = refl; back = refl }

pub within_wider : {C : Type 0} {p h P H : ℕ} {cs ds : List C} → Within p h cs ds → P ≤ p → p + h ≤ P + H → Within P H cs ds
within_wider {C} {p} {h} {P} {H} {cs} {ds} w lo hi =
    let k : p + h + ((P + H) - (p + h)) ≡ P + H = omega arith in
    let back : (xs : List C) → drop (P + H) xs ≡ drop ((P + H) - (p + h)) (drop (p + h) xs) = λ xs. ap (λ (i : ℕ). drop i xs) (sym k) ∙ sym (drop-drop ((P + H) - (p + h)) (p + h) xs) in
    record {
      len = w.len;
      front = sym (take-take P p ds lo) ∙ ap (take P) w.front ∙ take-take P p cs lo;
      back = back ds ∙ ap (drop ((P + H) - (p + h))) w.back ∙ sym (back cs);
    }
