-- Digits that are written are read, and digits that are read are written.
use Rattle.std.proofs.Common.{◌≡◌, ℕ, zero, suc, ◌+◌, ◌*◌, ◌/◌, ◌%◌, ◌^◌, ◌<◌, ◌≤◌, List, [], ◌∷◌, ◌++◌, map, length, get_or, take, ℤ, sym, refl, ap, ◌∙◌, lt_of_lt_of_le, mod-lt, div-lt_iff_lt-mul, pow-suc, div-add-mod', arith, w32, SFits, to_z, of_z}
use native.Mathlib.Nat.{pow-le-pow_right}
use mir.Facts.{Fits-of_z}
use Rattle.std.proofs.lemmas.Int.Digits.{number_push, number_lt}
use Rattle.std.proofs.ByRecursion.{All-append, All-map, All-take, All-get_or}
use Rattle.std.proofs.lemmas.List.{map_more, length-map, length-take, length-take-le, take_more, take_all}
use Rattle.std.proofs.lemmas.Int.{to_z-of_z, of_z-to_z}
use Rattle.std.proofs.lemmas.Bool.Decides.{nat_tests}
use Rattle.std.specs.Int.Digits.{number_from_digits, AllBelowBase}
use Rattle.lines.specs.Hex.{hex_value, hex_code, digits, Hex, word_of, number_of, text, word_text}

value_code : (v : ℕ) → v < 16 → hex_value (hex_code v) ≡ v
value_code v h = grind (arith, nat_tests)

code_value : (c : ℕ) → hex_value c < 16 → hex_code (hex_value c) ≡ c
code_value c h = grind (arith, nat_tests)

values_codes : (ds : List ℕ) → AllBelowBase 16 ds → map hex_value (map hex_code ds) ≡ ds
values_codes [] u = refl
values_codes (d ∷ ds) u = let a = value_code d u.0 in let b = values_codes ds u.1 in cc

codes_values : (cs : List ℕ) → Hex cs → map hex_code (map hex_value cs) ≡ cs
codes_values [] u = refl
codes_values (c ∷ cs) u = let a = code_value c u.0 in let b = codes_values cs u.1 in cc

digits_under : (k n : ℕ) → AllBelowBase 16 (digits k n)
digits_under zero n = tt
digits_under (suc k) n = All-append (λ d. d < 16) (digits k (n / 16)) (n % 16 ∷ []) (digits_under k (n / 16)) (mod-lt n (omega arith), tt)

number_digits : (k n : ℕ) → n < 16 ^ k → number_from_digits 16 (digits k n) ≡ n
number_digits zero n h = omega arith
number_digits (suc k) n h =
    let p : n < 16 ^ k * 16 = rw pow-suc at h in
    let q : n / 16 < 16 ^ k = (div-lt_iff_lt-mul (omega arith)).1 p in
    number_push 16 (digits k (n / 16)) (n % 16) ∙ ap (λ m. m * 16 + n % 16) (number_digits k (n / 16) q) ∙ div-add-mod' n 16

digits_number : (k : ℕ) (ds : List ℕ) → length ds ≡ k → AllBelowBase 16 ds → digits k (number_from_digits 16 ds) ≡ ds
digits_number zero [] l u = refl
digits_number zero (d ∷ ds) l u = absurd (omega arith)
digits_number (suc k) ds l u =
    let h : k < length ds = omega arith in
    let e : ds ≡ take k ds ++ get_or ds k 0 ∷ [] = sym (take_all (k + 1) ds (omega arith)) ∙ take_more ds k 0 h in
    let d = get_or ds k 0 in
    let s : d < 16 = All-get_or (λ d. d < 16) ds k 0 h u in
    let n = number_from_digits 16 (take k ds) in
    let w : number_from_digits 16 ds ≡ n * 16 + d = ap (number_from_digits 16) e ∙ number_push 16 (take k ds) d in
    let q : number_from_digits 16 ds / 16 ≡ n = omega arith in
    let r : number_from_digits 16 ds % 16 ≡ d = omega arith in
    let i = digits_number k (take k ds) (length-take-le k ds (omega arith)) (All-take (λ d. d < 16) k ds u) in
    (λ j. digits k (q j) ++ (r j ∷ [])) ∙ ap (λ (x : List ℕ). x ++ d ∷ []) i ∙ sym e

pub hex_text : (k n : ℕ) → Hex (text k n)
hex_text k n = codes (digits k n) (digits_under k n)
  where
    codes : (ds : List ℕ) → AllBelowBase 16 ds → Hex (map hex_code ds)
    codes [] u = tt
    codes (d ∷ ds) u = let a = value_code d u.0 in (omega arith, codes ds u.1)

-- a number written in k digits reads back
pub number_text : (k n : ℕ) → n < 16 ^ k → number_of (text k n) ≡ n
number_text k n h = ap (number_from_digits 16) (values_codes (digits k n) (digits_under k n)) ∙ number_digits k n h

-- k digits that were read are written again
pub text_number : (k : ℕ) (cs : List ℕ) → length cs ≡ k → Hex cs → text k (number_of cs) ≡ cs
text_number k cs l h =
    ap (map hex_code) (digits_number k (map hex_value cs) (length-map cs hex_value ∙ l) (All-map (λ d. d < 16) hex_value cs h)) ∙ codes_values cs h

number_below : (cs : List ℕ) → Hex cs → number_of cs < 16 ^ length cs
number_below cs h = let e = length-map cs hex_value in let l = number_lt 16 (map hex_value cs) (All-map (λ d. d < 16) hex_value cs h) in rw e at l

pub word_small : (cs : List ℕ) → Hex cs → length cs ≤ 8 → number_of cs < 2 ^ 32
word_small cs h l = lt_of_lt_of_le (number_below cs h) (pow-le-pow_right {n = 16} (omega arith) l)

pub word_word_text : (w : ℤ) → SFits w32 w → word_of (word_text w) ≡ w
word_word_text w f = ap (to_z w32) (number_text 8 (of_z w32 w) (omega (arith, Fits-of_z f))) ∙ to_z-of_z w32 w f

pub word_text_word : (cs : List ℕ) → length cs ≡ 8 → Hex cs → word_text (word_of cs) ≡ cs
word_text_word cs l h = ap (text 8) (of_z-to_z w32 (number_of cs) (word_small cs h (omega arith))) ∙ text_number 8 cs l h

pub digit_at : (cs : List ℕ) (i : ℕ) → Hex cs → i < length cs → hex_value (get_or cs i 0) < 16
digit_at cs i h l = All-get_or (λ c. hex_value c < 16) cs i 0 l h

-- one digit more
pub number_more : (cs : List ℕ) (i : ℕ) → i < length cs → number_of (take (i + 1) cs) ≡ number_of (take i cs) * 16 + hex_value (get_or cs i 0)
number_more cs i h =
    ap (number_from_digits 16) (map_more hex_value cs i 0 h) ∙ number_push 16 (map hex_value (take i cs)) (hex_value (get_or cs i 0))

pub number_front : (cs : List ℕ) (i : ℕ) → Hex cs → i < 8 → number_of (take i cs) < 2 ^ 28
number_front cs i h lt =
    let e : length (take i cs) ≤ 7 = simp length-take (omega arith) in
    lt_of_lt_of_le (number_below (take i cs) (All-take (λ c. hex_value c < 16) i cs h)) (pow-le-pow_right {n = 16} (omega arith) e)

-- what a step of reading a word needs
pub ruleset word_steps = (number_more, number_front, digit_at)
