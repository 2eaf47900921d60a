-- The same in a modulus: a congruence. Assumes nothing.
use Rattle.std.specs.Prelude.{◌≡◌, ℕ, ℤ, pos, ◌+ℤ◌, ◌*ℤ◌, neg_ℤ, refl}
use Rattle.std.proofs.Common.{ap, sym, ◌∙◌, arith}
use Rattle.std.proofs.Math.IntN.{*ℤ_comm, zero-*ℤ, +ℤ_idr}
use Rattle.std.proofs.lemmas.Int.{ints}
use Rattle.kinds.specs.Kind.{Same}
use Rattle.kinds.specs.Ring.{*ℤ-assoc, *ℤ-distribˡ, *ℤ-distribʳ, neg-*ℤ}

pub same_eq : {m : ℕ} {a b : ℤ} → a ≡ b → Same m a b
same_eq {m} {a} {b} e = record { times = pos 0; differ = e ∙ sym (ap (λ z. b +ℤ z) (zero-*ℤ (pos m)) ∙ +ℤ_idr b) }

pub same_refl : {m : ℕ} {a : ℤ} → Same m a a
same_refl = same_eq refl

pub same_sym : {m : ℕ} {a b : ℤ} → Same m a b → Same m b a
same_sym {m} s = record { times = neg_ℤ s.times; differ = let n = neg-*ℤ s.times (pos m) in omega (arith, ints) }

pub same_trans : {m : ℕ} {a b c : ℤ} → Same m a b → Same m b c → Same m a c
same_trans {m} s t =
    record { times = s.times +ℤ t.times; differ = let n = *ℤ-distribʳ s.times t.times (pos m) in omega (arith, ints) }

pub same_add : {m : ℕ} {a b c d : ℤ} → Same m a b → Same m c d → Same m (a +ℤ c) (b +ℤ d)
same_add {m} s t =
    record { times = s.times +ℤ t.times; differ = let n = *ℤ-distribʳ s.times t.times (pos m) in omega (arith, ints) }

pub same_neg : {m : ℕ} {a b : ℤ} → Same m a b → Same m (neg_ℤ a) (neg_ℤ b)
same_neg {m} s = record { times = neg_ℤ s.times; differ = let n = neg-*ℤ s.times (pos m) in omega (arith, ints) }

pub same_scale : {m : ℕ} {a b : ℤ} (c : ℤ) → Same m a b → Same m (c *ℤ a) (c *ℤ b)
same_scale {m} {a} {b} c s = record {
  times = c *ℤ s.times;
  differ = ap (λ z. c *ℤ z) s.differ ∙ *ℤ-distribˡ c b (s.times *ℤ pos m)
      ∙ ap (λ z. c *ℤ b +ℤ z) (sym (*ℤ-assoc c s.times (pos m)));
}

pub same_mul : {m : ℕ} {a b c d : ℤ} → Same m a b → Same m c d → Same m (a *ℤ c) (b *ℤ d)
same_mul {m} {a} {b} {c} {d} s t =
    same_trans (same_scale a t)
    (same_trans (same_eq (*ℤ_comm a d)) (same_trans (same_scale d s) (same_eq (*ℤ_comm d b))))
