-- d s / (d + s) is at most a quarter of d + s.
use Prim.Native.Nat.{ℕ, ◌+◌, ◌*◌, ◌≤◌}
use native.Mathlib.Decide.{dec_le}
use native.Mathlib.Nat.{mul-le-mul_right}
use native.Mathlib.Omega.{arith}
use Rattle.table.proofs.Arithmetic.{rearrange}

quarter : (d s : ℕ) → d * s * 4 ≤ (d + s) * (d + s)
quarter d s =
    elim (dec_le d s) [
      | yes h ↦ omega (arith, rearrange d s d s h h)
      | no h ↦ let l : s ≤ d = omega arith in omega (arith, rearrange s d s d l l)
    ]

-- with d + s at most n
pub product_le : (d s n : ℕ) → d + s ≤ n → d * s * 4 ≤ n * (d + s)
product_le d s n h = omega (arith, quarter d s, mul-le-mul_right (d + s) h)
