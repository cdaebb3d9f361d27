-- Arithmetic keeps fractions proper, so the rates of occupied grades, their squared errors and distances are.
use Prim.Native.Nat.{ℕ}
use mathlib.Core.List.{List, [], ◌∷◌}
use native.Mathlib.Nat.{mul-pos}
use native.Mathlib.Omega.{arith}
use Rattle.table.specs.Table.{Table, Every, Occupied}
use Rattle.pooling.specs.Fraction.{Fraction, Proper, nought, ratio, sum, difference, square, times, product}
use Rattle.pooling.specs.Regression.{Monotone, distance, rates, error, pooled_rates}
use Rattle.pooling.proofs.Pooled.{pooled_monotone}

pub arithmetic_proper : (x y : Fraction) → Proper x → Proper y
    → Proper (sum x y) × Proper (difference x y) × Proper (product x y) × Proper (square x) × ((n : ℕ) → Proper (times n x))
unfolding sum difference product square times
arithmetic_proper x y X Y = (mul-pos X Y, mul-pos X Y, mul-pos X Y, mul-pos X X, λ n. X)

pub proper_rates : (t : Table) → Every Occupied t → Every Proper (rates t)
unfolding rates ratio
proper_rates [] h = tt
proper_rates (r ∷ t) h = (h.0, proper_rates t h.1)

proper_distance : (t : Table) (p q : List Fraction) → Every Proper p → Every Proper q → Proper (distance t p q)
unfolding distance nought sum times square difference
proper_distance [] p q h k = omega arith
proper_distance (r ∷ t) [] q h k = omega arith
proper_distance (r ∷ t) (x ∷ p) [] h k = omega arith
proper_distance (r ∷ t) (x ∷ p) (y ∷ q) h k =
    let g = mul-pos h.0 k.0 in mul-pos (mul-pos g g) (proper_distance t p q h.1 k.1)

pub proper_error : (t : Table) → Every Occupied t → (q : List Fraction) → Monotone t q → Proper (error t q)
proper_error t occupied q h = proper_distance t (rates t) q (proper_rates t occupied) h.proper

pub errors_proper : (t : Table) → Every Occupied t
    → Every Proper (rates t)
    × Every Proper (pooled_rates t)
    × ((p q : List Fraction) → Monotone t p → Monotone t q → Proper (error t q) × Proper (distance t p q))
errors_proper t occupied = (
  proper_rates t occupied,
  (pooled_monotone t occupied).proper,
  λ p q h k. (proper_error t occupied q k, proper_distance t p q h.proper k.proper),
)
