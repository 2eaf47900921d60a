-- What an input is answered by whose lines a sink has taken.
use Rattle.std.proofs.Common.{◌≡◌, ℕ, ◌+◌, ◌-◌, ◌≤◌, Bool, true, List, [], ◌++◌, length, take, Option, Some, None, Result, Ok, Err, IfSome, OnOk, inl, inr, sym, ap, subst, ◌∙◌, arith}
use Rattle.std.proofs.lemmas.List.{append_assoc, length-take, take-append-le}
use Rattle.std.proofs.lemmas.Result.{on_ok_weaker}
use Rattle.std.specs.Io.KnownBytes.{Appends}
use Rattle.input.specs.Cutting.{lines, left as left_of, unended_line, every_line}
use Rattle.input.specs.Reading.{LinesTaken}
use Rattle.input.proofs.Cuts.{lines_append}
use Rattle.sessions.specs.Session.{View, new_session}
use Rattle.stream.specs.Replies.{replies_from, written_for, due, Answered, GoesOn}
use Rattle.stream.specs.declared.TheConstants.{LAST_LINE}

-- where as many lines end as are answered, nothing that follows them is
last_in : (front more : List (List ℕ)) → LAST_LINE ≤ length front → take LAST_LINE (front ++ more) ≡ take LAST_LINE front
last_in front more enough = take-append-le LAST_LINE front more enough

replies_front : (bytes rest : List ℕ) → LAST_LINE ≤ length (lines [] bytes) → written_for (bytes ++ rest) ≡ written_for bytes
replies_front bytes rest enough =
    let front = lines [] bytes in
    let more = lines (left_of [] bytes) rest in
    let all : every_line (bytes ++ rest) ≡ front ++ (more ++ unended_line (left_of [] (bytes ++ rest))) =
    ap (λ (t : List (List ℕ)). t ++ unended_line (left_of [] (bytes ++ rest))) (lines_append [] bytes rest) ∙ append_assoc front more (unended_line (left_of [] (bytes ++ rest))) in
    ap (λ (t : List (List ℕ)). replies_from new_session 1 t)
    (ap (take LAST_LINE) all ∙ last_in front (more ++ unended_line (left_of [] (bytes ++ rest))) enough ∙ sym (last_in front (unended_line (left_of [] bytes)) enough))

-- of an input whose bytes are known all are answered
known_answered : (known left before after : Option (List ℕ)) → Answered known left before after → IfSome known (λ bytes. Appends before after (written_for bytes))
known_answered None left before after h = tt
known_answered (Some xs) None before after h = absurd h.consumed
known_answered (Some xs) (Some ys) before after h =
    elim h.whole [
      | inl all ↦ subst (λ (t : List ℕ). Appends before after (written_for t)) (sym all) h.written
      | inr enough ↦ subst (Appends before after) (sym (ap written_for h.consumed ∙ replies_front h.bytes ys enough)) h.written
    ]

pub known_on_ok : {E : Type 0} (result : Result (Unit {0}) E) (known left before after : Option (List ℕ)) → OnOk result (Answered known left before after)
    → OnOk result (IfSome known (λ bytes. Appends before after (written_for bytes)))
known_on_ok result known left before after = on_ok_weaker result (known_answered known left before after)

-- what a new session answers
from_new : (v : View) (count : ℕ) (before after : Option (List ℕ)) (xs : List (List ℕ)) → v ≡ new_session → count ≡ 0 → Appends before after (replies_from v (count + 1) (due count xs))
    → Appends before after (replies_from new_session 1 (take LAST_LINE xs))
from_new v count before after xs new none =
    subst (λ x. Appends before after (replies_from x (count + 1) (due count xs)) → Appends before after (replies_from new_session 1 (take LAST_LINE xs))) (sym new)
    (subst (λ n. Appends before after (replies_from new_session (n + 1) (due n xs)) → Appends before after (replies_from new_session 1 (take LAST_LINE xs))) (sym none) (λ it. it))

-- so many lines were there, where so many were counted
enough_lines : (count total : ℕ) (xs : List (List ℕ)) → count ≡ 0 → total ≡ count + length (due count xs) → LAST_LINE ≤ total → LAST_LINE ≤ length xs
enough_lines count total xs none counted enough = omega (arith, none, counted, enough, length-take (LAST_LINE - count) xs)

module _ {S E : Type 0} (takes : S → List (List ℕ) → Result (Unit {0}) E → S → Type 0) (done : S → Bool) (session : S → View) (count : S → ℕ) (contents : S → Option (List ℕ))
    (goes : (x y : S) (xs : List (List ℕ)) → takes x xs (Ok tt) y → GoesOn (session x) (count x) (contents x) xs (session y) (count y) (contents y))
    (enough : (x : S) → done x ≡ true → LAST_LINE ≤ count x)
    (sink last : S) (new : session sink ≡ new_session) (none : count sink ≡ 0) (known left : Option (List ℕ)) where
  all_answered : LinesTaken takes done sink known (Ok tt) last left → Answered known left (contents sink) (contents last)
  all_answered h =
      elim h.taken [
        | inl (all, it) ↦
            record { bytes = h.bytes; consumed = h.consumed; written = from_new (session sink) (count sink) (contents sink) (contents last) (every_line h.bytes) new none (goes sink last (every_line h.bytes) it).written; whole = inl all }
        | inr (is_done, it) ↦
            let on = goes sink last (lines [] h.bytes) it in
            let many : LAST_LINE ≤ length (lines [] h.bytes) = enough_lines (count sink) (count last) (lines [] h.bytes) none on.counted (enough last is_done) in
            record {
              bytes = h.bytes;
              consumed = h.consumed;
              written = subst (λ (t : List (List ℕ)). Appends (contents sink) (contents last) (replies_from new_session 1 t)) (sym (last_in (lines [] h.bytes) (unended_line (left_of [] h.bytes)) many))
                  (from_new (session sink) (count sink) (contents sink) (contents last) (lines [] h.bytes) new none on.written);
              whole = inr many;
            }
      ]

  pub answered : (result : Result (Unit {0}) E) → LinesTaken takes done sink known result last left → OnOk result (Answered known left (contents sink) (contents last))
  answered (Ok _) h = all_answered h
  answered (Err _) h = tt
