-- The ring laws of ℤ that the library lacks. Assumes nothing.
use Rattle.std.specs.Prelude.{◌≡◌, zero, suc, ℤ, pos, negsuc, ◌+ℤ◌, ◌-ℤ◌, ◌*ℤ◌, neg_ℤ}
use Rattle.std.proofs.Common.{sym, ◌∙◌, ap, arith}
use Rattle.std.proofs.Math.IntN.{suc_ℤ, pred_ℤ, one, +ℤ_assoc, +ℤ_comm, +ℤ_idl, +ℤ_idr, +ℤ_invr, suc_ℤ-+ℤ, pred_ℤ-+ℤ, neg_ℤ-+ℤ, neg_ℤ-neg_ℤ, suc_ℤ-*ℤ, pred_ℤ-*ℤ, *ℤ_comm, *ℤ-one, zero-*ℤ, *ℤ-zero}
use Rattle.std.proofs.lemmas.Int.{ints}

pub +ℤ-left-comm : (a b c : ℤ) → a +ℤ (b +ℤ c) ≡ b +ℤ (a +ℤ c)
+ℤ-left-comm a b c = omega (arith, ints)

-- induction: from 0, up by one and down by one
ind : (P : ℤ → Type 0) → P (pos zero) → ((k : ℤ) → P k → P (suc_ℤ k)) → ((k : ℤ) → P k → P (pred_ℤ k)) → (k : ℤ) → P k
ind P z s p (pos zero) = z
ind P z s p (pos (suc n)) = s (pos n) (ind P z s p (pos n))
ind P z s p (negsuc zero) = p (pos zero) z
ind P z s p (negsuc (suc n)) = p (negsuc n) (ind P z s p (negsuc n))

pub *ℤ-distribʳ : (a b c : ℤ) → (a +ℤ b) *ℤ c ≡ a *ℤ c +ℤ b *ℤ c
*ℤ-distribʳ a b c = ind (λ a. (a +ℤ b) *ℤ c ≡ a *ℤ c +ℤ b *ℤ c)
    (ap (λ x. x *ℤ c) (+ℤ_idl b) ∙ sym (+ℤ_idl (b *ℤ c)) ∙ ap (λ x. x +ℤ b *ℤ c) (sym (zero-*ℤ c)))
    (λ k h. ap (λ x. x *ℤ c) (suc_ℤ-+ℤ k b) ∙ suc_ℤ-*ℤ (k +ℤ b) c ∙ ap (λ x. x +ℤ c) h
    ∙ swap (k *ℤ c) (b *ℤ c) c ∙ ap (λ x. x +ℤ b *ℤ c) (sym (suc_ℤ-*ℤ k c)))
    (λ k h. ap (λ x. x *ℤ c) (pred_ℤ-+ℤ k b) ∙ pred_ℤ-*ℤ (k +ℤ b) c ∙ ap (λ x. x -ℤ c) h
    ∙ swap (k *ℤ c) (b *ℤ c) (neg_ℤ c) ∙ ap (λ x. x +ℤ b *ℤ c) (sym (pred_ℤ-*ℤ k c)))
    a
  where
    swap : (x y z : ℤ) → x +ℤ y +ℤ z ≡ x +ℤ z +ℤ y
    swap x y z = omega (arith, ints)

pub *ℤ-distribˡ : (a b c : ℤ) → a *ℤ (b +ℤ c) ≡ a *ℤ b +ℤ a *ℤ c
*ℤ-distribˡ a b c =
    *ℤ_comm a (b +ℤ c) ∙ *ℤ-distribʳ b c a ∙ ap (λ x. x +ℤ c *ℤ a) (*ℤ_comm b a) ∙ ap (λ x. a *ℤ b +ℤ x) (*ℤ_comm c a)

pub neg-*ℤ : (a b : ℤ) → neg_ℤ a *ℤ b ≡ neg_ℤ (a *ℤ b)
neg-*ℤ a b =
    let e : a *ℤ b +ℤ neg_ℤ a *ℤ b ≡ pos zero =
    sym (*ℤ-distribʳ a (neg_ℤ a) b) ∙ ap (λ x. x *ℤ b) (+ℤ_invr a) ∙ zero-*ℤ b in
    away (a *ℤ b) (neg_ℤ a *ℤ b) e
  where
    away : (x y : ℤ) → x +ℤ y ≡ pos zero → y ≡ neg_ℤ x
    away x y e = omega (arith, ints)

pub *ℤ-neg : (a b : ℤ) → a *ℤ neg_ℤ b ≡ neg_ℤ (a *ℤ b)
*ℤ-neg a b = *ℤ_comm a (neg_ℤ b) ∙ neg-*ℤ b a ∙ ap neg_ℤ (*ℤ_comm b a)

pub *ℤ-assoc : (a b c : ℤ) → (a *ℤ b) *ℤ c ≡ a *ℤ (b *ℤ c)
*ℤ-assoc a b c = ind (λ a. (a *ℤ b) *ℤ c ≡ a *ℤ (b *ℤ c))
    (ap (λ x. x *ℤ c) (zero-*ℤ b) ∙ zero-*ℤ c ∙ sym (zero-*ℤ (b *ℤ c)))
    (λ k h. ap (λ x. x *ℤ c) (suc_ℤ-*ℤ k b) ∙ *ℤ-distribʳ (k *ℤ b) b c ∙ ap (λ x. x +ℤ b *ℤ c) h
    ∙ sym (suc_ℤ-*ℤ k (b *ℤ c)))
    (λ k h. ap (λ x. x *ℤ c) (pred_ℤ-*ℤ k b) ∙ *ℤ-distribʳ (k *ℤ b) (neg_ℤ b) c ∙ ap (λ x. x +ℤ neg_ℤ b *ℤ c) h
    ∙ ap (λ x. k *ℤ (b *ℤ c) +ℤ x) (neg-*ℤ b c) ∙ sym (pred_ℤ-*ℤ k (b *ℤ c)))
    a

pub *ℤ-left-comm : (a b c : ℤ) → a *ℤ (b *ℤ c) ≡ b *ℤ (a *ℤ c)
*ℤ-left-comm a b c = sym (*ℤ-assoc a b c) ∙ ap (λ x. x *ℤ c) (*ℤ_comm a b) ∙ *ℤ-assoc b a c

pub times_one : (a : ℤ) → a *ℤ pos 1 ≡ a
unfolding one
times_one a = *ℤ-one a

pub one_times : (a : ℤ) → pos 1 *ℤ a ≡ a
one_times a = *ℤ_comm (pos 1) a ∙ times_one a

pub ruleset ring = (
  *ℤ-distribʳ,
  *ℤ-distribˡ,
  neg-*ℤ,
  *ℤ-neg,
  neg_ℤ-+ℤ,
  neg_ℤ-neg_ℤ,
  +ℤ_assoc,
  +ℤ-left-comm,
  +ℤ_comm,
  *ℤ-assoc,
  *ℤ-left-comm,
  *ℤ_comm,
  +ℤ_idl,
  +ℤ_idr,
  zero-*ℤ,
  *ℤ-zero,
  times_one,
  one_times,
)
