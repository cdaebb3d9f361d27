-- The error of a quotient of whole numbers and of a sum, where the result is below 2^j: at most 1 / 2^r, for j + r one more than the
-- format's digits.
use Prim.Native.Nat.{ℕ, suc, ◌+◌, ◌*◌, ◌^◌, ◌≤◌, ◌<◌}
use mathlib.Core.Path.{◌≡◌, refl}
use mathlib.Core.Bool.{true, false}
use native.Mathlib.Nat.{mul-pos, mul-one, mul-le-mul_left, mul-lt-mul_of_pos_right}
use native.Mathlib.Omega.{arith}
use lib.Dec.{T, eqb, eqb→eq}
use lib.IntN.{pos}
use lib.Ieee.{Float, nan, inf, fin, Format, prec, up, down, round, add, div, of_int}
use lib.Ieee.Back.{round_whole}
use lib.Ieee.Exact.{HasValue}
use lib.Ieee.Positive.{num, den, den_pos, value→cross, first_pos}
use lib.Ieee.Scale.{round_same}
use Rattle.table.proofs.Test.{by-test}
use Rattle.pooling.specs.Fraction.{Fraction, Proper, AtMost, ratio, sum}
use Rattle.spread.specs.Near.{plain, value_of, Near}
use Rattle.spread.proofs.Fractions.{sum-ratio, at_most_trans, sum_proper, close_wider, close_sum, close_trans}
use Rattle.spread.proofs.Rounding.{plain_of_value, units_proper, round_near}

-- Each operation is one rounding.

div_is : (f : Format) (x y : Float) → T (plain x) → T (plain y) → 0 < num y → div f x y ≡ round f false (num x * den y) (num y * den x)
unfolding div
div_is f nan y p q h = absurd p
div_is f (inf s) y p q h = absurd p
div_is f (fin true m e) y p q h = absurd p
div_is f (fin false m e) nan p q h = absurd q
div_is f (fin false m e) (inf t) p q h = absurd q
div_is f (fin false m e) (fin true n d) p q h = absurd q
div_is f (fin false m e) (fin false n d) p q h =
    let z = round f false (m * up e * down d) (n * up d * down e) in
    by-test (λ x. x ≡ z) (eqb n 0) (λ t. absurd (omega (arith, first_pos n (up d) h, eqb→eq n 0 t))) (λ _. refl)

add_is : (f : Format) (x y : Float) → T (plain x) → T (plain y) → add f x y ≡ round f false (num x * den y + num y * den x) (den x * den y)
unfolding add
add_is f nan y p q = absurd p
add_is f (inf s) y p q = absurd p
add_is f (fin true m e) y p q = absurd p
add_is f (fin false m e) nan p q = absurd q
add_is f (fin false m e) (inf t) p q = absurd q
add_is f (fin false m e) (fin true n d) p q = absurd q
add_is f (fin false m e) (fin false n d) p q = refl

-- A whole number as a float.
pub whole_value : (f : Format) (n : ℕ) → n ≤ 2 ^ prec f → HasValue (of_int f (pos n)) false n 1
unfolding of_int
whole_value f n h = round_whole f false n h

-- Bounds of values and of errors.

pub value_proper : (x : Float) → Proper (value_of x)
unfolding ratio
value_proper x = den_pos x

pub near_wider : (x : Float) {y e : Fraction} (g : Fraction) → Proper y → Proper e → AtMost e g → Near x y e → Near x y g
near_wider x g Y E h n = record { sign = n.sign; close = close_wider n.close g (value_proper x) Y E h }

less : (a c m k : ℕ) → 0 < c → AtMost (ratio a c) (ratio m 1) → m < k → a < k * c
unfolding ratio
less a c m k C h l = omega (arith, mul-lt-mul_of_pos_right l C)

units_add : (u e g : ℕ) → AtMost (sum (ratio 1 u) (sum (ratio e u) (ratio g u))) (ratio (1 + (e + g)) u)
unfolding sum ratio
units_add u e g = omega arith

in_all : (x : Fraction) (m e g u : ℕ) → e + g ≤ u → AtMost x (ratio m 1) → AtMost (sum x (sum (ratio e u) (ratio g u))) (ratio (m + 1) 1)
unfolding sum ratio
in_all x m e g u h k = omega (arith, mul-le-mul_left (u * u) k, mul-le-mul_left (u * x.over) h)

module _ (f : Format) (j r : ℕ) (digits : j + r ≡ suc (prec f)) where
  -- The quotient of two whole numbers a and b.
  pub div_near : (x y : Float) (a b : ℕ) → HasValue x false a 1 → HasValue y false b 1 → 0 < b → a < 2 ^ j * b
      → Near (div f x y) (ratio a b) (ratio 1 (2 ^ r))
  div_near x y a b v w B h =
      let p = rw mul-one at (value→cross x a 1 v) in
      let q = rw mul-one at (value→cross y b 1 w) in
      let Y : 0 < num y = rw q (mul-pos B (den_pos y)) in
      let same : num x * den y * b ≡ a * (num y * den x) = rw (p, q) (omega arith) in
      rw (
        div_is f x y (plain_of_value x a 1 v) (plain_of_value y b 1 w) Y,
        round_same f false (num x * den y) (num y * den x) a b (mul-pos Y (den_pos x)) B same,
      )
      (round_near f j r a b B h digits)

  -- The sum of two floats, each near a fraction by some units of 1 / 2^r: the units add up, and the rounding adds one. The exact sum is at
  -- most m, and the units are at most 1 together.
  pub add_near : (m e g : ℕ) (x y : Float) (p q : Fraction) → Near x p (ratio e (2 ^ r)) → Near y q (ratio g (2 ^ r))
      → Proper p → Proper q → AtMost (sum p q) (ratio m 1) → e + g ≤ 2 ^ r → m + 1 < 2 ^ j
      → Near (add f x y) (sum p q) (ratio (1 + (e + g)) (2 ^ r))
  add_near m e g x y p q c d P Q most few below =
      let u = 2 ^ r in
      let errors = sum_proper (ratio e u) (ratio g u) (units_proper e r) (units_proper g r) in
      let whole = sum_proper _ _ (sum_proper p q P Q) errors in
      let both = close_sum c.close d.close in
      let v = sum (value_of x) (value_of y) in
      let bound = at_most_trans v _ (ratio (m + 1) 1) whole both.over (in_all (sum p q) m e g u few most) in
      let D : 0 < den x * den y = mul-pos (den_pos x) (den_pos y) in
      let near = round_near f j r (num x * den y + num y * den x) (den x * den y) D (less _ _ _ _ D (rw sum-ratio at bound) below) digits in
      let exact = rw (← sum-ratio) at near in
      let values = sum_proper (value_of x) (value_of y) (value_proper x) (value_proper y) in
      let off = close_trans exact.close values (units_proper 1 r) errors both in
      near_wider (add f x y) (ratio (1 + (e + g)) u) (sum_proper p q P Q) (sum_proper (ratio 1 u) _ (units_proper 1 r) errors) (units_add u e g)
      (rw (add_is f x y c.sign d.sign) (record { sign = exact.sign; close = off }))
