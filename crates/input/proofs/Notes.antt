-- What a sink that notes its lines has noted of those that it is handed.
use Rattle.std.proofs.Common.{◌≡◌, ℕ, ◌+◌, ◌<◌, ◌≤◌, List, [], ◌∷◌, ◌++◌, length, take, Some, None, Result, Ok, Err, inl, inr, refl, sym, ap, subst, ◌∙◌, arith}
use Rattle.std.proofs.lemmas.List.{length-append, nil_from_length}
use Rattle.std.proofs.Math.Seq.{take-append_seam, take-append-add}
use Rattle.input.specs.Cutting.{every_line}
use Rattle.input.specs.Told.{LinesNoted, BytesNoted}

-- up to the one that is refused
up_to_refused : (n : ℕ) (xs last before rest : List (List ℕ)) (held : List ℕ) → length last ≡ n + 1 → last ≡ before ++ held ∷ [] → xs ≡ before ++ held ∷ rest
    → (n < length xs) × (last ≡ take (n + 1) xs) × (last ≡ take n xs ++ held ∷ [])
up_to_refused n xs last before rest held size noted split =
    let many : length xs ≡ length before + length (held ∷ rest) = ap length split ∙ length-append before (held ∷ rest) in
    let count : n ≡ length before = omega (arith, size, ap length noted ∙ length-append before (held ∷ [])) in
    let front : take n xs ≡ before = ap (take n) split ∙ ap (λ (k : ℕ). take k (before ++ held ∷ rest)) count ∙ take-append_seam before (held ∷ rest) in
    let next : take (n + 1) xs ≡ before ++ held ∷ [] =
    ap (take (n + 1)) split ∙ ap (λ (k : ℕ). take (k + 1) (before ++ held ∷ rest)) count ∙ take-append-add before (held ∷ rest) 1 in
    (omega (arith, count, many), noted ∙ sym next, noted ∙ ap (λ (t : List (List ℕ)). t ++ held ∷ []) (sym front))

pub lines_noted : LinesNoted
lines_noted n xs (Ok _) last held h = (subst (λ (t : List (List ℕ)). length t ≤ n) (h.taken.0 ∙ h.ends) h.taken.1, h.taken.0 ∙ h.ends)
lines_noted n xs (Err _) last held h =
    up_to_refused n xs last h.ends.0 h.ends.1 held h.taken.1 (h.taken.0 ∙ h.ends.2) h.ends.3

none_left : (front rest : List ℕ) → front ≡ front ++ rest → rest ≡ []
none_left front rest e = nil_from_length rest (omega (arith, ap length e ∙ length-append front rest))

no_failure : (error : Unit {0}) (result : Result (Unit {0}) (Unit {0})) → result ≡ Err error → ¬ (result ≡ Ok tt)
no_failure error result failed is = cc

pub bytes_noted : BytesNoted
bytes_noted bytes result last None h = absurd h.consumed
bytes_noted bytes (Ok _) last (Some ys) h =
    elim h.taken [
      | inl (all, notes) ↦ (notes.1 ∙ ap every_line (sym all), ap Some (none_left h.bytes ys (sym all ∙ h.consumed)))
      | inr (done, notes) ↦ cc
    ]
bytes_noted bytes (Err error) last (Some ys) h =
    elim h.failed [
      | inl unread ↦ (h.bytes, ys, h.consumed, refl, unread.1)
      | inr fails ↦ absurd (no_failure error (Err error) refl fails.taken.0)
    ]
