-- What was read into the first words is zero again.
use Rattle.std.proofs.Common.{◌≡◌, ℕ, ◌≤◌, min, List, ◌++◌, length, drop, replicate, ℤ, pos, ap, ◌∙◌, arith}
use Rattle.std.proofs.lemmas.List.{length-append, length-drop}
use Rattle.std.proofs.lemmas.Slice.{drop-append-drop}
use Rattle.sessions.specs.Wiped.{wiped, unpacked}

pub length_read : (ns old : List ℤ) (k : ℕ) → length ns ≡ k → k ≤ length old → length (ns ++ drop k old) ≡ length old
length_read ns old k l h = let a = length-append ns (drop k old) in let d = length-drop k old in omega arith

pub wiped_read : (ns old : List ℤ) (k : ℕ) → length ns ≡ k → k ≤ 25 → 25 ≤ length old → wiped (ns ++ drop k old) ≡ wiped old
wiped_read ns old k l h b =
    let n = length_read ns old k l (omega arith) in
    let e : unpacked (ns ++ drop k old) ≡ unpacked old = ap (λ (m : ℕ). min m 25) n in
    (λ j. replicate (e j) (pos 0) ++ drop (e j) (ns ++ drop k old)) ∙ ap (λ (t : List ℤ). replicate (unpacked old) (pos 0) ++ t) (drop-append-drop k old ns (unpacked old) (omega arith) l)
