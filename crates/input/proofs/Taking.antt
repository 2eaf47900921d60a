-- An input that is read a chunk at a time, and its lines handed to a sink.
use Rattle.std.proofs.Common.{◌≡◌, ℕ, ◌≤◌, Bool, true, List, [], ◌∷◌, ◌++◌, length, take, drop, Option, Some, None, Result, Ok, Err, IfSome, sym, ap, subst, inl, inr, refl, ◌∙◌}
use Rattle.std.proofs.lemmas.List.{take-append-drop, append-nil, append_assoc}
use Rattle.std.proofs.Math.Seq.{take-append_seam}
use Rattle.std.proofs.KnownBytes.{Consumes-kept, Consumes-trans}
use Rattle.std.specs.Io.{StartsWith}
use Rattle.std.specs.Io.BufRead.{DropsConsumable}
use Rattle.std.specs.Io.KnownBytes.{Keeps, Consumes}
use Rattle.input.specs.Cutting.{lines, left, unended_line, every_line, Handed}
use Rattle.input.specs.Reading.{LinesTaken}
use Rattle.input.proofs.Cuts.{lines_append, left_append}

-- what follows a front
front_and_rest : (xs front : List ℕ) → StartsWith xs front → xs ≡ front ++ drop (length front) xs
front_and_rest xs front h = sym (take-append-drop (length front) xs) ∙ ap (λ (t : List ℕ). t ++ drop (length front) xs) h

-- a reader that shows a chunk has consumed it, once it has consumed as many bytes
pub chunk_consumed : (a b c : Option (List ℕ)) (limit : Option ℕ) (chunk : List ℕ) → IfSome a (λ xs. StartsWith xs chunk) → Keeps a b → IfSome a (λ _. IfSome limit (λ k. length chunk ≤ k)) → DropsConsumable b c limit (length chunk) → Consumes a c chunk
chunk_consumed None b c limit chunk front kept fits drops = tt
chunk_consumed (Some xs) None c limit chunk front kept fits drops = absurd kept
chunk_consumed (Some xs) (Some ys) c limit chunk front kept fits drops =
    let left : c ≡ Some (drop (length chunk) xs) = drops fits ∙ ap (λ (t : List ℕ). Some (drop (length chunk) t)) kept in
    subst (λ o. Consumes (Some xs) o chunk) (sym left) (front_and_rest xs chunk front)

-- where a reader shows no byte, all bytes are consumed
all_consumed : (known here : Option (List ℕ)) (bytes chunk : List ℕ) → Consumes known here bytes → IfSome here (λ xs. length chunk ≡ 0 → xs ≡ []) → length chunk ≡ 0 → IfSome known (λ xs. xs ≡ bytes)
all_consumed None here bytes chunk taken end none = tt
all_consumed (Some xs) None bytes chunk taken end none = absurd taken
all_consumed (Some xs) (Some ys) bytes chunk taken end none = taken ∙ ap (λ (t : List ℕ). bytes ++ t) (end none) ∙ append-nil bytes

starts_of : (xs front rest : List ℕ) → xs ≡ front ++ rest → StartsWith xs front
starts_of xs front rest e = ap (take (length front)) e ∙ take-append_seam front rest

-- what a reader shows stands behind what was consumed
front_shown : (known here : Option (List ℕ)) (bytes chunk : List ℕ) → Consumes known here bytes → IfSome here (λ xs. StartsWith xs chunk) → IfSome known (λ xs. StartsWith xs (bytes ++ chunk))
front_shown None here bytes chunk taken front = tt
front_shown (Some xs) None bytes chunk taken front = absurd taken
front_shown (Some xs) (Some ys) bytes chunk taken front =
    starts_of xs (bytes ++ chunk) (drop (length chunk) ys) (taken ∙ ap (λ (t : List ℕ). bytes ++ t) (front_and_rest ys chunk front) ∙ sym (append_assoc bytes chunk (drop (length chunk) ys)))

nothing_shown : (here : Option (List ℕ)) → IfSome here (λ xs. StartsWith xs [])
nothing_shown None = tt
nothing_shown (Some xs) = refl

-- the lines of the bytes and the chunk, where cut is what is left of the bytes
pub lines_more : (bytes chunk cut : List ℕ) → cut ≡ left [] bytes → lines [] (bytes ++ chunk) ≡ lines [] bytes ++ lines cut chunk
lines_more bytes chunk cut is = lines_append [] bytes chunk ∙ ap (λ (t : List ℕ). lines [] bytes ++ lines t chunk) (sym is)

pub left_more : (bytes chunk cut after : List ℕ) → cut ≡ left [] bytes → after ≡ left cut chunk → after ≡ left [] (bytes ++ chunk)
left_more bytes chunk cut after is kept = kept ∙ ap (λ (t : List ℕ). left t chunk) is ∙ sym (left_append [] bytes chunk)

-- lines that stand before those of a chunk, of which they were handed on up to the one that is held
up_to_line : (front all handed before rest : List (List ℕ)) (held : List ℕ) → handed ≡ before ++ held ∷ [] → all ≡ before ++ held ∷ rest → front ++ all ≡ (front ++ handed) ++ rest
up_to_line front all handed before rest held handed_is all_is =
    ap (λ (t : List (List ℕ)). front ++ t) (all_is ∙ sym (append_assoc before (held ∷ []) rest) ∙ ap (λ (t : List (List ℕ)). t ++ rest) (sym handed_is))
    ∙ sym (append_assoc front handed rest)

module _ {S E : Type 0} (takes : S → List (List ℕ) → Result (Unit {0}) E → S → Type 0) (done : S → Bool)
    (both : (x y z : S) (xs ys : List (List ℕ)) (result : Result (Unit {0}) E) → takes x xs (Ok tt) y → takes y ys result z → takes x (xs ++ ys) result z)
    (sink mid last : S) (known here end : Option (List ℕ)) (bytes chunk cut : List ℕ) (is : cut ≡ left [] bytes) (before : takes sink (lines [] bytes) (Ok tt) mid) (consumed : Consumes known here bytes) where
  -- the input is at its end, and what was held is handed on
  pub at_end : (result : Result (Unit {0}) E) → Keeps here end → IfSome here (λ xs. length chunk ≡ 0 → xs ≡ []) → length chunk ≡ 0
      → takes mid (unended_line cut) result last → LinesTaken takes done sink known result last end
  at_end result kept shown none call =
      let taken : takes sink (every_line bytes) result last =
      both sink mid last (lines [] bytes) (unended_line (left [] bytes)) result before (subst (λ (t : List ℕ). takes mid (unended_line t) result last) is call) in
      let from = Consumes-kept known here end bytes consumed kept in
      elim result as (λ r. takes sink (every_line bytes) r last → LinesTaken takes done sink known r last end) [
        | Ok _ ↦ λ it. record { bytes = bytes; consumed = from; taken = inl (all_consumed known here bytes chunk consumed shown none, it); failed = tt }
        | Err error ↦ λ it. record {
          bytes = bytes;
          consumed = from;
          taken = tt;
          failed = inr (record {
            shown = [];
            front = front_shown known here bytes [] consumed (nothing_shown here);
            handed = every_line bytes;
            rest = [];
            split = ap every_line (append-nil bytes) ∙ sym (append-nil (every_line bytes));
            taken = it;
          });
        }
      ] taken

  -- the sink refuses a line of the chunk
  pub at_line : (error : E) (held : List ℕ) → Keeps here end → IfSome here (λ xs. StartsWith xs chunk) → Handed takes mid (lines cut chunk) (Err error) last held
      → LinesTaken takes done sink known (Err error) last end
  at_line error held kept front call = record {
    bytes = bytes;
    consumed = Consumes-kept known here end bytes consumed kept;
    taken = tt;
    failed = inr (record {
      shown = chunk;
      front = front_shown known here bytes chunk consumed front;
      handed = lines [] bytes ++ call.handed;
      rest = call.ends.1 ++ unended_line (left [] (bytes ++ chunk));
      split = ap (λ (t : List (List ℕ)). t ++ unended_line (left [] (bytes ++ chunk))) (lines_more bytes chunk cut is ∙ up_to_line (lines [] bytes) (lines cut chunk) call.handed call.ends.0 call.ends.1 held call.ends.2 call.ends.3) ∙ append_assoc (lines [] bytes ++ call.handed) call.ends.1 (unended_line (left [] (bytes ++ chunk)));
      taken = both sink mid last (lines [] bytes) call.handed (Err error) before call.taken;
    });
  }

  module _ (after : S) (held : List ℕ) (call : Handed takes mid (lines cut chunk) (Ok tt) after held) where
    -- the lines of the chunk are taken
    pub chunk_taken : takes sink (lines [] (bytes ++ chunk)) (Ok tt) after
    chunk_taken =
        subst (λ (t : List (List ℕ)). takes sink t (Ok tt) after) (sym (lines_more bytes chunk cut is))
        (both sink mid after (lines [] bytes) (lines cut chunk) (Ok tt) before (subst (λ (t : List (List ℕ)). takes mid t (Ok tt) after) call.ends call.taken))

    pub chunk_flushed : (result : Result (Unit {0}) E) → takes after [] result last → takes sink (lines [] (bytes ++ chunk)) result last
    chunk_flushed result flushed =
        subst (λ (t : List (List ℕ)). takes sink t result last) (append-nil (lines [] (bytes ++ chunk)))
        (both sink after last (lines [] (bytes ++ chunk)) [] result chunk_taken flushed)

    -- the sink fails in flushing
    pub at_flush : (error : E) → Keeps here end → IfSome here (λ xs. StartsWith xs chunk) → takes after [] (Err error) last → LinesTaken takes done sink known (Err error) last end
    at_flush error kept front flushed = record {
      bytes = bytes;
      consumed = Consumes-kept known here end bytes consumed kept;
      taken = tt;
      failed = inr (record {
        shown = chunk;
        front = front_shown known here bytes chunk consumed front;
        handed = lines [] (bytes ++ chunk);
        rest = unended_line (left [] (bytes ++ chunk));
        split = refl;
        taken = chunk_flushed (Err error) flushed;
      });
    }

    -- the sink is done
    pub at_done : Consumes here end chunk → takes after [] (Ok tt) last → done last ≡ true → LinesTaken takes done sink known (Ok tt) last end
    at_done more flushed enough = record {
      bytes = bytes ++ chunk;
      consumed = Consumes-trans known here end bytes chunk consumed more;
      taken = inr (enough, chunk_flushed (Ok tt) flushed);
      failed = tt;
    }
