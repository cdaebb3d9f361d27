-- The squared distance of two lists of rates by their inner products, p p + q q - 2 p q; it is never negative, and zero of equal lists only.
-- The rates stand over a common denominator m with an offset s, so that each is a whole numerator.
use Prim.Native.Nat.{ℕ, zero, suc, ◌+◌, ◌*◌, ◌-◌, ◌≤◌}
use mathlib.Core.Path.{◌≡◌, refl}
use mathlib.Core.List.{List, [], ◌∷◌}
use native.Mathlib.Nat.{mul-pos}
use native.Mathlib.Decide.{dec_le}
use native.Mathlib.Omega.{arith}
use lib.ListN.{length}
use Rattle.table.specs.Table.{Table, Every, Occupied}
use Rattle.table.proofs.Arithmetic.{times_eq}
use Rattle.pooling.specs.Fraction.{Fraction, difference}
use Rattle.pooling.specs.Regression.{AllEqual, distance}
use Rattle.pooling.proofs.Scaled.{Over, Whole, numerator, over-nought, over_same, over-square, over-times, over-sum, over-difference, equal}

-- The inner product of the numerators, each grade weighted by its obligors: the sum of n x y.
unfoldable pub inner : (Fraction → ℕ) → Table → List Fraction → List Fraction → ℕ
inner v [] p q = 0
inner v (r ∷ t) [] q = 0
inner v (r ∷ t) (x ∷ p) [] = 0
inner v (r ∷ t) (x ∷ p) (y ∷ q) = r.obligors * (v x * v y) + inner v t p q

-- The squared distance.

pub over-distance : (m s : ℕ) (t : Table) (p q : List Fraction)
    → length p ≡ length t → length q ≡ length t → Every (Whole m s) p → Every (Whole m s) q
    → Over (m * m) (2 * inner (numerator m s) t p q) (distance t p q) (inner (numerator m s) t p p + inner (numerator m s) t q q)
unfolding inner distance
over-distance m s [] p q i j h k = over-nought (m * m)
over-distance m s (r ∷ t) [] q i j h k = absurd (omega arith)
over-distance m s (r ∷ t) (x ∷ p) [] i j h k = absurd (omega arith)
over-distance m s (r ∷ t) (x ∷ p) (y ∷ q) i j h k =
    let gap : Over m (numerator m s y) (difference x y) (numerator m s x) = over_same (over-difference h.0 k.0) _ _ (omega arith) in
    let rest = over-distance m s t p q (omega arith) (omega arith) h.1 k.1 in
    over_same (over-sum (over-times (over-square gap) r.obligors) rest) _ _ (omega arith)

-- The gap k between x and y.
record Gap (x y : ℕ) : Type 0 where
  k : ℕ
  squares : x * x + y * y ≡ 2 * (x * y) + k * k
  low : x ≤ y + k
  high : y ≤ x + k

gap_above : (x y k : ℕ) → y ≡ x + k → Gap x y
gap_above x y k e = record { k = k; squares = omega (arith, times_eq x e, times_eq y e, times_eq k e); low = omega arith; high = omega arith }

gap : (x y : ℕ) → Gap x y
gap x y =
    elim (dec_le x y) [
      | yes l ↦ gap_above x y (y - x) (omega arith)
      | no l ↦ let g = gap_above y x (x - y) (omega arith) in record { k = g.k; squares = omega (arith, g.squares); low = g.high; high = g.low }
    ]

no_gap : (n k : ℕ) → 1 ≤ n → n * (k * k) ≤ 0 → k ≡ 0
no_gap n zero p h = refl
no_gap n (suc k) p h = omega (arith, mul-pos {n = suc k * suc k} p (omega arith))

-- It is never negative.
pub inner_close : (v : Fraction → ℕ) (t : Table) (p q : List Fraction) → 2 * inner v t p q ≤ inner v t p p + inner v t q q
unfolding inner
inner_close v [] p q = omega arith
inner_close v (r ∷ t) [] q = omega arith
inner_close v (r ∷ t) (x ∷ p) [] = omega arith
inner_close v (r ∷ t) (x ∷ p) (y ∷ q) = omega (arith, times_eq r.obligors (gap (v x) (v y)).squares, inner_close v t p q)

-- Where it is zero the lists are equal.
module _ (m s : ℕ) (positive : 1 ≤ m) where
  pub inner_equal : (t : Table) (p q : List Fraction) → Every Occupied t
      → length p ≡ length t → length q ≡ length t → Every (Whole m s) p → Every (Whole m s) q
      → inner (numerator m s) t p p + inner (numerator m s) t q q ≤ 2 * inner (numerator m s) t p q
      → AllEqual p q
  unfolding inner AllEqual
  inner_equal [] [] [] h i j o k l = tt
  inner_equal [] [] (y ∷ q) h i j o k l = omega arith
  inner_equal [] (x ∷ p) q h i j o k l = absurd (omega arith)
  inner_equal (r ∷ t) [] q h i j o k l = absurd (omega arith)
  inner_equal (r ∷ t) (x ∷ p) [] h i j o k l = absurd (omega arith)
  inner_equal (r ∷ t) (x ∷ p) (y ∷ q) h i j o k l =
      let g = gap (numerator m s x) (numerator m s y) in
      let e = times_eq r.obligors g.squares in
      let none : g.k ≡ 0 = no_gap r.obligors g.k h.0 (omega (arith, e, inner_close (numerator m s) t p q)) in (
        equal o.0 k.0 positive (omega arith),
        inner_equal t p q h.1 (omega arith) (omega arith) o.1 k.1 (omega (arith, e)),
      )
