-- A fraction rounded to the nearest whole number is off by a half at most.
use Prim.Native.Nat.{ℕ, ◌+◌, ◌*◌, ◌/◌, ◌%◌, ◌≤◌, ◌<◌, compare, Ordering}
use mathlib.Core.Path.{◌≡◌, subst}
use mathlib.Core.Bool.{not}
use native.Mathlib.Nat.{suc-mul, mul-le-mul_right, lt_of_mul-lt-mul_right, div-add-mod', mod-lt}
use native.Mathlib.Omega.{arith}
use lib.Arith.{lt_of_le-ne}
use lib.Dec.{T, is_le, compare_is_eq, eqb, leb→le, nleb→lt, eqb→eq, eqb_refl}
use lib.Ieee.{nearest}
use lib.Ieee.Nearest.{closest}
use Rattle.pooling.specs.Fraction.{ratio, sum}
use Rattle.spread.specs.Near.{Close}

-- what the outcome of a comparison says
abbrev Compared : Ordering → ℕ → ℕ → Type 0
Compared Ordering.lt a b = a < b
Compared Ordering.eq a b = a ≡ b
Compared Ordering.gt a b = b < a

compared : (a b : ℕ) → Compared (compare a b) a b
compared a b = go (compare a b) (leb→le a b) (nleb→lt a b) (eqb→eq a b) (λ (e : a ≡ b). subst (λ (x : ℕ). T (eqb a x)) e (eqb_refl a))
  where
    go : (o : Ordering) → (T (is_le o) → a ≤ b) → (T (not (is_le o)) → b < a) → (T (compare_is_eq o) → a ≡ b) → (a ≡ b → T (compare_is_eq o))
        → Compared o a b
    go Ordering.lt h k e n = lt_of_le-ne (h tt) n
    go Ordering.eq h k e n = e tt
    go Ordering.gt h k e n = k tt

-- z is w / b up to a half.
abbrev pub Half : ℕ → ℕ → ℕ → Type 0
Half z w b = (z * b * 2 ≤ w * 2 + b) × (w * 2 ≤ z * b * 2 + b)

half : (q r b : ℕ) (o : Ordering) → Compared o (r * 2) b → r < b → Half (nearest q o) (q * b + r) b
half q r b Ordering.lt c h = omega arith
half q r b Ordering.eq c h =
    let s : q % 2 ≤ 1 = omega arith in
    omega (arith, mul-le-mul_right b s)
half q r b Ordering.gt c h = simp suc-mul (omega arith)

pub closest_half : (a b : ℕ) → 0 < b → Half (closest a b) a b
closest_half a b pos =
    rw div-add-mod' at (half (a / b) (a % b) b (compare (a % b * 2) b) (compared (a % b * 2) b) (mod-lt a pos))

-- a / c rounded to q times s of the units 1 / l: q is a * l / (c * s) up to a half.
module _ (a c l q s : ℕ) (h : Half q (a * l) (c * s)) where
  pub rounded_close : (u : ℕ) → s * u ≤ l * 2 → Close (ratio (q * s) l) (ratio a c) (ratio 1 u)
  unfolding sum ratio
  rounded_close u f =
      let above = mul-le-mul_right u h.0 in
      let below = mul-le-mul_right u h.1 in
      let unit = mul-le-mul_right c f in
      record { over = omega arith; under = omega arith }

  pub rounded_below : (t : ℕ) → s ≤ t * 2 → a * l < t * c → q * s < t * 2
  rounded_below t f g = lt_of_mul-lt-mul_right c (omega (arith, h.0, mul-le-mul_right c f))
