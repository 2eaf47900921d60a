-- Answering lines keeps the laws of a sink. Assumes nothing.
use Rattle.std.specs.Prelude.{◌≡◌, ℕ, zero, suc, ◌+◌, ◌-◌, List, [], ◌∷◌, ◌++◌, length, take, pos, Option, Result, OnOk, refl}
use Rattle.std.proofs.Common.{sym, ap, subst, ◌∙◌, arith}
use Rattle.std.proofs.lemmas.List.{append_assoc, length-append}
use Rattle.std.proofs.lemmas.Result.{on_ok_weaker}
use Rattle.std.proofs.Math.Seq.{take-nil}
use Rattle.std.proofs.KnownBytes.{Appends-nil, Appends-trans}
use Rattle.std.specs.Io.KnownBytes.{Appends}
use Rattle.sessions.specs.Session.{View, reply, line_after}
use Rattle.stream.specs.Replies.{replies_from, session_behind, due, GoesOn}
use Rattle.stream.specs.declared.TheConstants.{LAST_LINE}

take_both : (n : ℕ) (xs ys : List (List ℕ)) → take n (xs ++ ys) ≡ take n xs ++ take (n - length (take n xs)) ys
take_both zero xs ys = refl
take_both (suc n) [] ys =
    let all : suc n ≡ suc n - 0 = omega arith in
    ap (λ k. take k ys) all
take_both (suc n) (x ∷ xs) ys =
    let rest : suc n - length (x ∷ take n xs) ≡ n - length (take n xs) = omega arith in
    ap (λ (t : List (List ℕ)). x ∷ t) (take_both n xs ys) ∙ ap (λ k. x ∷ take n xs ++ take k ys) (sym rest)

due_both : (count : ℕ) (xs ys : List (List ℕ))
    → due count (xs ++ ys) ≡ due count xs ++ due (count + length (due count xs)) ys
due_both count xs ys =
    let done : ℕ = length (due count xs) in
    let rest : LAST_LINE - count - done ≡ LAST_LINE - (count + done) = omega arith in
    take_both (LAST_LINE - count) xs ys ∙ ap (λ k. due count xs ++ take k ys) rest

replies_both : (v : View) (k : ℕ) (xs ys : List (List ℕ))
    → replies_from v k (xs ++ ys) ≡ replies_from v k xs ++ replies_from (session_behind v xs) (k + length xs) ys
replies_both v k [] ys = ap (λ n. replies_from v n ys) (omega arith)
replies_both v k (x ∷ xs) ys =
    let w = line_after v x in
    let front = replies_from w (k + 1) xs in
    let behind : ℕ → List ℕ = λ n. replies_from (session_behind w xs) n ys in
    let next : k + 1 + length xs ≡ k + length (x ∷ xs) = omega arith in
    ap (λ (t : List ℕ). reply v (pos k) x ++ t) (replies_both w (k + 1) xs ys)
    ∙ sym (append_assoc (reply v (pos k) x) front (behind (k + 1 + length xs)))
    ∙ ap (λ n. (reply v (pos k) x ++ front) ++ behind n) next

session_both : (v : View) (xs ys : List (List ℕ))
    → session_behind v (xs ++ ys) ≡ session_behind (session_behind v xs) ys
session_both v [] ys = refl
session_both v (x ∷ xs) ys = session_both (line_after v x) xs ys

pub goes_none : (v : View) (count : ℕ) (written : Option (List ℕ)) → GoesOn v count written [] v count written
goes_none v count written = record {
  session = ap (session_behind v) (sym (take-nil (LAST_LINE - count)));
  counted = omega (arith, ap length (take-nil {A = List ℕ} (LAST_LINE - count)));
  written =
      subst (λ (t : List (List ℕ)). Appends written written (replies_from v (count + 1) t))
      (sym (take-nil (LAST_LINE - count))) (Appends-nil written);
}

module _ (v w u : View) (count more all : ℕ) (before then after : Option (List ℕ)) (xs ys : List (List ℕ)) where
  goes_both : GoesOn v count before xs w more then → GoesOn w more then ys u all after
      → GoesOn v count before (xs ++ ys) u all after
  goes_both one two =
      let first : List (List ℕ) = due count xs in
      let second : List (List ℕ) = due more ys in
      let is : due count (xs ++ ys) ≡ first ++ second =
      due_both count xs ys ∙ ap (λ n. first ++ due n ys) (sym one.counted) in
      let next : count + 1 + length first ≡ more + 1 = omega (arith, one.counted) in
      let front : List ℕ = replies_from v (count + 1) first in
      let behind : List ℕ = replies_from w (more + 1) second in
      let text : replies_from v (count + 1) (due count (xs ++ ys)) ≡ front ++ behind =
      ap (replies_from v (count + 1)) is ∙ replies_both v (count + 1) first second
      ∙ ap (λ n. front ++ replies_from (session_behind v first) n second) next
      ∙ ap (λ x. front ++ replies_from x (more + 1) second) (sym one.session) in
      record {
        session =
            two.session ∙ ap (λ x. session_behind x second) one.session
            ∙ sym (session_both v first second) ∙ ap (session_behind v) (sym is);
        counted = omega (arith, one.counted, two.counted, ap length is, length-append first second);
        written =
            subst (Appends before after) (sym text)
            (Appends-trans before then after front behind one.written two.written);
      }

  pub goes_on : {E : Type 0} (result : Result (Unit {0}) E) → GoesOn v count before xs w more then
      → OnOk result (GoesOn w more then ys u all after) → OnOk result (GoesOn v count before (xs ++ ys) u all after)
  goes_on result one two = on_ok_weaker result (goes_both one) two
