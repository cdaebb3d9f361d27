-- Fractions over a common denominator: they add, square and compare as the whole numbers above it do.
use Prim.Native.Nat.{ℕ, ◌+◌, ◌*◌, ◌-◌, ◌/◌, ◌≤◌}
use mathlib.Core.Path.{◌≡◌, refl}
use mathlib.Core.List.{List, [], ◌∷◌}
use native.Mathlib.Nat.{mul-le-mul_left, le_of_mul-le-mul_left, eq_of_mul-eq-mul_left, mul-pos, mul-div_cancel}
use native.Mathlib.Omega.{arith}
use Rattle.table.specs.Table.{Every}
use Rattle.table.proofs.Arithmetic.{times_eq}
use Rattle.table.proofs.Every.{every_map₂}
use Rattle.pooling.specs.Fraction.{Fraction, Proper, AtMost, Equal, nought, ratio, sum, difference, square, times, product}

-- x = (a - s) / m: a is the numerator of x over m, and s an offset that keeps it from being negative.
pub record Over (m s : ℕ) (x : Fraction) (a : ℕ) : Type 0 where
  pub is : x.plus * m + s * x.over ≡ a * x.over + x.minus * m

-- Arithmetic.

pub over-nought : (m : ℕ) → Over m 0 nought 0
unfolding nought
over-nought m = omega arith

-- d / n
pub over-ratio : {m a : ℕ} (d n : ℕ) → d * m ≡ a * n → Over m 0 (ratio d n) a
unfolding ratio
over-ratio d n e = omega arith

pub over_own : (d n : ℕ) → Over n 0 (ratio d n) d
over_own d n = over-ratio d n refl

-- from u - y = w - v to the squares
gap_square : (u v w y : ℕ) → u + v ≡ w + y → u * u + y * y + 2 * (v * w) ≡ w * w + v * v + 2 * (u * y)
gap_square u v w y h = omega (arith, times_eq u h, times_eq v h, times_eq w h, times_eq y h)

module _ {m s a : ℕ} {x : Fraction} (h : Over m s x a) where
  -- another numerator and offset with the same difference
  pub over_same : (u b : ℕ) → a + u ≡ b + s → Over m u x b
  over_same u b e = omega (arith, h.is, times_eq x.over e)

  pub over-square : Over (m * m) (2 * (s * a)) (square x) (a * a + s * s)
  unfolding square
  over-square = omega (arith, gap_square (x.plus * m) (s * x.over) (a * x.over) (x.minus * m) h.is)

  pub over-times : (n : ℕ) → Over m (n * s) (times n x) (n * a)
  unfolding times
  over-times n = omega (arith, times_eq n h.is)

  -- k times the denominator, and j added to the offset
  widen : (k j : ℕ) → Over (k * m) (k * s + j) x (k * a + j)
  widen k j = omega (arith, times_eq k h.is)

-- from u - y = w - v and u' - y' = w' - v' to the products
gap_product : (u v w y u' v' w' y' : ℕ) → u + v ≡ w + y → u' + v' ≡ w' + y'
    → u * u' + y * y' + (w * v' + v * w') ≡ w * w' + v * v' + (u * y' + y * u')
gap_product u v w y u' v' w' y' h k = omega (arith, times_eq u' h, times_eq y' h, times_eq w k, times_eq v k)

regroup : (a b c d m n : ℕ) → (a * b + c * d) * (m * n) ≡ a * m * (b * n) + c * m * (d * n)
regroup a b c d m n = omega arith

module _ {m n s u a b : ℕ} {x y : Fraction} (h : Over m s x a) (k : Over n u y b) where
  pub over-product : Over (m * n) (a * u + s * b) (product x y) (a * b + s * u)
  unfolding product
  over-product =
      record {
        is =
            rw (
              regroup x.plus y.plus x.minus y.minus m n,
              regroup a u s b x.over y.over,
              regroup a b s u x.over y.over,
              regroup x.plus y.minus x.minus y.plus m n,
            )
            (gap_product _ _ _ _ _ _ _ _ h.is k.is);
      }

module _ {m s u a b : ℕ} {x y : Fraction} (h : Over m s x a) (k : Over m u y b) where
  pub over-sum : Over m (s + u) (sum x y) (a + b)
  unfolding sum
  over-sum = omega (arith, times_eq y.over h.is, times_eq x.over k.is)

  pub over-difference : Over m (s + b) (difference x y) (a + u)
  unfolding difference
  over-difference = omega (arith, times_eq y.over h.is, times_eq x.over k.is)

  -- Comparing.

  -- the cross products and the numerators
  cross :
      m * (x.plus * y.over + y.minus * x.over) + x.over * y.over * (b + s)
      ≡ m * (y.plus * x.over + x.minus * y.over) + x.over * y.over * (a + u)
  cross = omega (arith, times_eq y.over h.is, times_eq x.over k.is)

  pub at_most : 1 ≤ m → a + u ≤ b + s → AtMost x y
  at_most pos l = le_of_mul-le-mul_left {k = m} (omega (arith, cross, mul-le-mul_left (x.over * y.over) l)) pos

  pub of_at_most : Proper x → Proper y → AtMost x y → a + u ≤ b + s
  of_at_most p q l = le_of_mul-le-mul_left {k = x.over * y.over} (omega (arith, cross, mul-le-mul_left m l)) (mul-pos p q)

  pub equal : 1 ≤ m → a + u ≡ b + s → Equal x y
  equal pos e = eq_of_mul-eq-mul_left m pos _ _ (omega (arith, cross, times_eq (x.over * y.over) e))

-- A common denominator.

-- the numerator of x over m with the offset s, where it is whole
pub numerator : ℕ → ℕ → Fraction → ℕ
numerator m s x = (x.plus * m + s * x.over - x.minus * m) / x.over

-- x has a whole numerator.
abbrev pub Whole : ℕ → ℕ → Fraction → Type 0
Whole m s x = Over m s x (numerator m s x)

whole : {m s a : ℕ} {x : Fraction} → Proper x → Over m s x a → Whole m s x
unfolding numerator
whole {m} {s} {a} {x} p h =
    let e : x.plus * m + s * x.over - x.minus * m ≡ a * x.over = omega arith in
    rw (e, mul-div_cancel) h

-- A denominator and an offset at which each fraction has a whole numerator.
pub record Common (q : List Fraction) : Type 0 where
  pub m : ℕ
  pub s : ℕ
  pub positive : 1 ≤ m
  pub wholes : Every (Whole m s) q

pub common : (q : List Fraction) → Every Proper q → Common q
common [] p = record { m = 1; s = 0; positive = omega arith; wholes = tt }
common (x ∷ q) p =
    let c = common q p.1 in
    record {
      m = x.over * c.m;
      s = x.over * c.s + c.m * x.minus;
      positive = mul-pos p.0 c.positive;
      wholes = (
        whole {a = c.m * x.plus + x.over * c.s} p.0 (omega arith),
        every_map₂ (λ y p h. whole p (widen h x.over (c.m * x.minus))) q p.1 c.wholes,
      );
    }
