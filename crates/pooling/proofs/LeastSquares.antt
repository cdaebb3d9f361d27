-- The pooled rates are the monotone regression: no rates that never fall have a smaller squared error, and none but they as small a one.
use Prim.Native.Nat.{ℕ, suc, ◌+◌, ◌*◌, ◌≤◌}
use mathlib.Core.Path.{◌≡◌, refl, ap}
use mathlib.Core.List.{List, [], ◌∷◌, ◌++◌}
use native.Mathlib.Nat.{mul-pos}
use native.Mathlib.Omega.{arith}
use lib.ListN.{length}
use Rattle.table.specs.Table.{Table, Every, Occupied}
use Rattle.table.proofs.Every.{every_append, every_split}
use Rattle.pooling.specs.Fraction.{Fraction, Proper, AtMost, sum}
use Rattle.pooling.specs.Regression.{AllEqual, Monotone, distance, rates, error, IsRegression, pooled_rates}
use Rattle.pooling.proofs.Proper.{proper_rates, proper_error}
use Rattle.pooling.proofs.Scaled.{Over, Whole, Common, numerator, common, over-sum, at_most, of_at_most}
use Rattle.pooling.proofs.Runs.{pool_level}
use Rattle.pooling.proofs.Pooled.{pooled_monotone}
use Rattle.pooling.proofs.Inner.{inner, over-distance, inner_close, inner_equal}
use Rattle.pooling.proofs.Parts.{inner_below, inner_same}

length-rates : (t : Table) → length (rates t) ≡ length t
unfolding rates
length-rates [] = refl
length-rates (r ∷ t) = ap suc (length-rates t)

-- The observed rates d, the pooled rates p and any rates q that never fall, over one denominator.

module _ (t : Table) (occupied : Every Occupied t) (q : List Fraction) (mono : Monotone t q) where
  abbrev d : List Fraction
  d = rates t

  abbrev p : List Fraction
  p = pooled_rates t

  pooled : Monotone t p
  pooled = pooled_monotone t occupied

  frame : Common (d ++ (p ++ q))
  frame =
      common _
      (every_append Proper d (p ++ q) (proper_rates t occupied) (every_append Proper p q pooled.proper mono.proper))

  abbrev m : ℕ
  m = frame.m

  abbrev s : ℕ
  s = frame.s

  whole : Every (Whole m s) d × Every (Whole m s) p × Every (Whole m s) q
  whole =
      let (wd, rest) = every_split (Whole m s) d (p ++ q) frame.wholes in
      let (wp, wq) = every_split (Whole m s) p q rest in
      (wd, wp, wq)

  infixl 80 ◌·◌
  abbrev ◌·◌ : List Fraction → List Fraction → ℕ
  x · y = inner (numerator m s) t x y

  -- q has no larger product with the observed rates than with the pooled ones, which have the same with both.
  below : d · q ≤ p · q
  below = inner_below m s (pool_level t occupied) whole.0 whole.1 q mono whole.2

  same : d · p ≡ p · p
  same = inner_same m s (pool_level t occupied) whole.0 whole.1

  over_pooled : Over (m * m) (2 * d · p) (error t p) (d · d + p · p)
  over_pooled = over-distance m s t d p (length-rates t) pooled.sized whole.0 whole.1

  over_mono : Over (m * m) (2 * d · q) (error t q) (d · d + q · q)
  over_mono = over-distance m s t d q (length-rates t) mono.sized whole.0 whole.2

  over_apart : Over (m * m) (2 * p · q) (distance t p q) (p · p + q · q)
  over_apart = over-distance m s t p q pooled.sized mono.sized whole.1 whole.2

  positive : 1 ≤ m * m
  positive = mul-pos frame.positive frame.positive

  -- The errors.

  pub error_at_least : AtMost (sum (error t p) (distance t p q)) (error t q)
  error_at_least = at_most (over-sum over_pooled over_apart) over_mono positive (omega (arith, below, same))

  least : AtMost (error t p) (error t q)
  least = at_most over_pooled over_mono positive (omega (arith, below, same, inner_close (numerator m s) t p q))

  unique : AtMost (error t q) (error t p) → AllEqual p q
  unique l =
      inner_equal m s frame.positive t p q occupied pooled.sized mono.sized whole.1 whole.2
      (omega (arith, below, same, of_at_most over_mono over_pooled (proper_error t occupied q mono) (proper_error t occupied p pooled) l))

pub pooled_regression : (t : Table) → Every Occupied t → IsRegression t (pooled_rates t)
pooled_regression t occupied = record { monotone = pooled_monotone t occupied; least = least t occupied; unique = unique t occupied }
