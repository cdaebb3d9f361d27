-- The error of `round` in any float format, where the fraction is below 2^j: half a unit in the last place of the values just below 2^j.
use Prim.Native.Nat.{ℕ, suc, ◌+◌, ◌-◌, ◌*◌, ◌^◌, ◌≤◌, ◌<◌}
use mathlib.Core.Path.{◌≡◌}
use mathlib.Core.Bool.{true, false, true≢false}
use native.Mathlib.Nat.{lt_of_lt_of_le, mul-lt-mul_of_pos_right, mul-pos, div-lt_iff_lt-mul, pow-suc}
use native.Mathlib.Omega.{arith}
use lib.Dec.{T, lit≤}
use lib.Pow.{pow-add, pow_pos, pow_mono}
use lib.Ieee.{Float, nan, inf, fin, Format, binary32, binary64, prec, emax, low, round}
use lib.Ieee.Digits.{size-le}
use lib.Ieee.Exact.{HasValue}
use lib.Ieee.Order.{drop, kept}
use lib.Ieee.Positive.{value→cross}
use lib.Ieee.Scale.{grid, overflow, round_val}
use Rattle.pooling.specs.Fraction.{Fraction, Proper, ratio}
use Rattle.spread.specs.Near.{Close, plain, value_of, Near}
use Rattle.spread.proofs.Fractions.{close_equal}
use Rattle.spread.proofs.Nearest.{Half, closest_half, rounded_close, rounded_below}

-- A float that has the value of a fraction.

pub plain_of_value : (x : Float) (a c : ℕ) → HasValue x false a c → T (plain x)
plain_of_value nan a c h = h
plain_of_value (inf s) a c h = h
plain_of_value (fin true m e) a c h = absurd (true≢false h.0)
plain_of_value (fin false m e) a c h = tt

pub value_near : (x : Float) (a c : ℕ) {y e : Fraction} → 0 < c → Proper e → HasValue x false a c → Close (ratio a c) y e → Near x y e
unfolding ratio
value_near x a c pos E v d = record {
  sign = plain_of_value x a c v;
  close = close_equal (value_of x) (ratio a c) pos E (omega (arith, value→cross x a c v)) d;
}

pub units_proper : (k r : ℕ) → Proper (ratio k (2 ^ r))
unfolding ratio
units_proper k r = pow_pos r

-- The digits that `round` drops.

low_holds : (f : Format) → prec f ≤ low f
low_holds binary32 = lit≤ tt
low_holds binary64 = lit≤ tt

high_holds : (f : Format) → suc (prec f) ≤ emax f
high_holds binary32 = lit≤ tt
high_holds binary64 = lit≤ tt

few : (z p j l r : ℕ) → p ≤ l → z ≤ j + l → j + r ≡ suc p → z - p + r ≤ suc l
few z p j l r h k e = omega arith

module _ (f : Format) (j r a c : ℕ) (pos : 0 < c) (under : a < 2 ^ j * c) (digits : j + r ≡ suc (prec f)) where
  abbrev dropped : ℕ
  dropped = drop (prec f) (a * 2 ^ low f) c

  near_half : Half (kept (prec f) (a * 2 ^ low f) c) (a * 2 ^ low f) (c * 2 ^ dropped)
  near_half = closest_half (a * 2 ^ low f) (c * 2 ^ dropped) (mul-pos pos (pow_pos dropped))

  small : a * 2 ^ low f < 2 ^ (j + low f) * c
  small = rw pow-add (omega (arith, mul-lt-mul_of_pos_right under (pow_pos (low f))))

  few_dropped : dropped + r ≤ suc (low f)
  few_dropped = few _ (prec f) j (low f) r (low_holds f) (size-le _ (j + low f) ((div-lt_iff_lt-mul pos).1 small)) digits

  stays_finite : grid f a c < overflow f
  stays_finite =
      let s : 2 ^ dropped ≤ 2 ^ (j + low f) * 2 = rw (← pow-suc) (pow_mono (omega (arith, few_dropped))) in
      let t : suc (j + low f) ≤ low f + suc (emax f) = omega (arith, high_holds f) in
      lt_of_lt_of_le
      (rounded_below a c (2 ^ low f) (kept (prec f) (a * 2 ^ low f) c) (2 ^ dropped) near_half (2 ^ (j + low f)) s small)
      (rw (← pow-suc) (pow_mono t))

  -- a / c, which is below 2^j, rounded: off by at most 1 / 2^r, for j + r one more than the format's digits.
  pub round_near : Near (round f false a c) (ratio a c) (ratio 1 (2 ^ r))
  round_near =
      let u : 2 ^ dropped * 2 ^ r ≤ 2 ^ low f * 2 = rw (← pow-add, ← pow-suc) (pow_mono few_dropped) in
      value_near (round f false a c) (grid f a c) (2 ^ low f) (pow_pos (low f)) (units_proper 1 r) (round_val f a c stays_finite)
      (rounded_close a c (2 ^ low f) (kept (prec f) (a * 2 ^ low f) c) (2 ^ dropped) near_half (2 ^ r) u)
