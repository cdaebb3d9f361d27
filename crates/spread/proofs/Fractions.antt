-- Laws of fractions: sums, the order, and how far two fractions are apart.
use Prim.Native.Nat.{ℕ, ◌+◌, ◌*◌}
use mathlib.Core.Path.{◌≡◌, refl, sym}
use native.Mathlib.Nat.{le_of_eq, le_antisymm, mul_comm, mul_assoc, mul_left_comm, add-mul, mul-add, mul-le-mul_left, le_of_mul-le-mul_left, mul-pos}
use native.Mathlib.Omega.{arith}
use Rattle.pooling.specs.Fraction.{Fraction, Proper, AtMost, Equal, nought, ratio, sum}
use Rattle.spread.specs.Near.{Close}

-- Sums. Fractions are not reduced, so that the laws are equations of numerators and denominators.

alike : (x y : Fraction) → x.plus ≡ y.plus → x.minus ≡ y.minus → x.over ≡ y.over → x ≡ y
alike x y p m o = rw (← p, ← m, ← o)

pub sum_comm : (x y : Fraction) → sum x y ≡ sum y x
unfolding sum
sum_comm x y = alike _ _ (omega arith) (omega arith) (mul_comm _ _)

pub sum_assoc : (x y z : Fraction) → sum (sum x y) z ≡ sum x (sum y z)
unfolding sum
sum_assoc x y z = alike _ _ (omega arith) (omega arith) (mul_assoc _ _ _)

pub sum-nought : (x : Fraction) → sum nought x ≡ x
unfolding sum nought
sum-nought x = alike _ _ (omega arith) (omega arith) (omega arith)

pub sum-ratio : (a b c d : ℕ) → sum (ratio a b) (ratio c d) ≡ ratio (a * d + c * b) (b * d)
unfolding sum ratio
sum-ratio a b c d = alike _ _ refl (omega arith) refl

-- The order.

pub at_most_trans : (x y z : Fraction) → Proper y → AtMost x y → AtMost y z → AtMost x z
at_most_trans x y z p h k =
    le_of_mul-le-mul_left {k = y.over}
    (omega (arith, mul-le-mul_left z.over h, mul-le-mul_left x.over k))
    p

-- Products of so many factors `omega` does not sort by itself.
ruleset sorted = (mul-add, add-mul, mul_assoc, mul_comm, mul_left_comm)

pub sum_mono : (x y z w : Fraction) → AtMost x y → AtMost z w → AtMost (sum x z) (sum y w)
unfolding sum
sum_mono x y z w h k =
    simp sorted (omega (arith, simp sorted at (mul-le-mul_left (z.over * w.over) h), simp sorted at (mul-le-mul_left (x.over * y.over) k)))

pub sum_equal : (x y z w : Fraction) → Equal x y → Equal z w → Equal (sum x z) (sum y w)
sum_equal x y z w h k = le_antisymm (sum_mono x y z w (le_of_eq h) (le_of_eq k)) (sum_mono y x w z (le_of_eq (sym h)) (le_of_eq (sym k)))

pub at_most_refl : (x : Fraction) → AtMost x x
at_most_refl x = omega arith

-- What is not negative makes a sum no smaller.
pub at_most_more : (x y : Fraction) → AtMost nought y → AtMost x (sum x y)
unfolding sum nought
at_most_more x y h = omega (arith, mul-le-mul_left (x.over * x.over) h)

pub sum_proper : (x y : Fraction) → Proper x → Proper y → Proper (sum x y)
unfolding sum
sum_proper x y X Y = mul-pos X Y

-- How far apart: errors add up.

sum_exchange : (x y z w : Fraction) → sum (sum x y) (sum z w) ≡ sum (sum x z) (sum y w)
unfolding sum
sum_exchange x y z w = alike _ _ (omega arith) (omega arith) (omega arith)

reach_wider : (x y e g : Fraction) → Proper y → Proper e → AtMost e g → AtMost x (sum y e) → AtMost x (sum y g)
reach_wider x y e g Y E h c = at_most_trans x (sum y e) (sum y g) (sum_proper y e Y E) c (sum_mono y y e g (at_most_refl y) h)

reach_trans : (x y z e g : Fraction) → Proper y → Proper e → AtMost x (sum y e) → AtMost y (sum z g) → AtMost x (sum z (sum e g))
reach_trans x y z e g Y E c d =
    at_most_trans x (sum y e) (sum z (sum e g)) (sum_proper y e Y E) c
    (rw (sum_comm e g, ← sum_assoc z g e) (sum_mono y (sum z g) e e d (at_most_refl e)))

reach_sum : (x y z w e g : Fraction) → AtMost x (sum y e) → AtMost z (sum w g) → AtMost (sum x z) (sum (sum y w) (sum e g))
reach_sum x y z w e g c d = rw (sum_exchange y w e g) (sum_mono x (sum y e) z (sum w g) c d)

pub close_equal : (x y : Fraction) {z e : Fraction} → Proper y → Proper e → Equal x y → Close y z e → Close x z e
close_equal x y {z} {e} Y E h c = record {
  over = at_most_trans x y (sum z e) Y (omega arith) c.over;
  under = at_most_trans z (sum y e) (sum x e) (sum_proper y e Y E) c.under (sum_mono y x e e (omega arith) (at_most_refl e));
}

module _ {x y e : Fraction} (c : Close x y e) where
  pub close_wider : (g : Fraction) → Proper x → Proper y → Proper e → AtMost e g → Close x y g
  close_wider g X Y E h = record { over = reach_wider x y e g Y E h c.over; under = reach_wider y x e g X E h c.under }

  pub close_trans : {z g : Fraction} → Proper y → Proper e → Proper g → Close y z g → Close x z (sum e g)
  close_trans {z} {g} Y E G d = record {
    over = reach_trans x y z e g Y E c.over d.over;
    under = rw (sum_comm e g) (reach_trans z y x g e Y G d.under c.under);
  }

  pub close_sum : {z w g : Fraction} → Close z w g → Close (sum x z) (sum y w) (sum e g)
  close_sum {z} {w} {g} d = record { over = reach_sum x y z w e g c.over d.over; under = reach_sum y x w z e g c.under d.under }
