-- How far a float is from a fraction, in whole numbers: fractions are compared by cross-multiplication.
use Rattle.std.specs.Prelude.{ℕ, ◌^◌, Bool, false, not, T, Float}
use Rattle.std.specs.Float.{nan, inf, fin}
use Rattle.std.specs.Float.Ieee.Positive.{num, den}
use Rattle.pooling.specs.Fraction.{Fraction, AtMost, ratio, sum}

-- x and y differ by at most e.
pub record Close (x y e : Fraction) : Type 0 where
  pub over : AtMost x (sum y e)
  pub under : AtMost y (sum x e)

-- finite, and of sign +
abbrev pub plain : Float → Bool
plain nan = false
plain (inf s) = false
plain (fin s m e) = not s

-- the value of a plain float
abbrev pub value_of : Float → Fraction
value_of x = ratio (num x) (den x)

-- x is finite and not negative, and differs from y by at most e.
pub record Near (x : Float) (y e : Fraction) : Type 0 where
  pub sign : T (plain x)
  pub close : Close (value_of x) y e

-- x is finite and not negative, and differs from y by at most 1 / 2^k.
abbrev pub Within : Float → Fraction → ℕ → Type 0
Within x y k = Near x y (ratio 1 (2 ^ k))
