-- The numbers of a line, one after another.
use Rattle.std.proofs.Common.{◌≡◌, ℕ, zero, suc, ◌+◌, ◌*◌, ◌<◌, List, length, get_or, take, drop, ℤ, refl, ap, ◌∙◌, arith}
use Rattle.std.proofs.lemmas.List.{drop-drop}
use Rattle.lines.specs.Hex.{word_of}
use Rattle.lines.specs.Line.{words_of}

pub length_words_of : (n : ℕ) (ds : List ℕ) → length (words_of n ds) ≡ n
length_words_of zero ds = refl
length_words_of (suc n) ds = ap suc (length_words_of n (drop 8 ds))

-- number k
pub word_at : (n : ℕ) (ds : List ℕ) (k : ℕ) → k < n → (d : ℤ) → get_or (words_of n ds) k d ≡ word_of (take 8 (drop (8 * k) ds))
word_at zero ds k h d = absurd (omega arith)
word_at (suc n) ds zero h d = refl
word_at (suc n) ds (suc k) h d =
    word_at n (drop 8 ds) k (omega arith) d ∙ ap (λ (xs : List ℕ). word_of (take 8 xs)) (drop-drop (8 * k) 8 ds ∙ ap (λ (m : ℕ). drop m ds) (omega arith))

pub number_at : (n : ℕ) (bytes : List ℕ) (k : ℕ) → k < n → (d : ℤ) → get_or (words_of n (drop 4 bytes)) k d ≡ word_of (take 8 (drop (4 + 8 * k) bytes))
number_at n bytes k h d = word_at n (drop 4 bytes) k h d ∙ ap (λ (xs : List ℕ). word_of (take 8 xs)) (drop-drop (8 * k) 4 bytes)
