-- Fractions over a denominator, further: signed differences, absolute sizes, and a wider denominator.
use Prim.Native.Nat.{ℕ, suc, ◌+◌, ◌-◌, ◌*◌}
use mathlib.Core.Path.{◌≡◌}
use native.Mathlib.Nat.{mul-sub}
use native.Mathlib.Omega.{arith}
use lib.IntN.{sub_ℕ, nat_abs}
use Rattle.table.proofs.Arithmetic.{times_eq}
use Rattle.pooling.specs.Fraction.{Fraction, ratio}
use Rattle.pooling.proofs.Scaled.{Over}
use Rattle.measures.specs.Published.{over, absolute}
use Rattle.table.proofs.Signed.{by_sign, size-of}

-- (a - b) / m
pub over_signed : (a b m : ℕ) → Over m b (over (sub_ℕ a b) m) a
over_signed a b m =
    by_sign (λ z. Over m b (over z m) a) a b
    (λ l. let e : suc a + (b - suc a) ≡ b = omega arith in omega (arith, times_eq m e))
    (λ l. let e : b + (a - b) ≡ a = omega arith in omega (arith, times_eq m e))

-- |a - s| / m
pub over-absolute : {m s a : ℕ} {x : Fraction} → Over m s x a → Over m 0 (absolute x) (nat_abs (sub_ℕ a s))
unfolding absolute ratio
over-absolute {m} {s} {a} {x} h =
    let u = x.plus in
    let v = x.minus in
    let o = x.over in
    rw (size-of u v, size-of a s) (omega (arith, h.is, mul-sub m u v, mul-sub m v u, mul-sub o a s, mul-sub o s a))

-- k times the denominator
pub over_wider : {m s a : ℕ} {x : Fraction} (k : ℕ) → Over m s x a → Over (k * m) (k * s) x (k * a)
over_wider k h = omega (arith, times_eq k h.is)
