-- The fractions that the spread is compared with are proper.
use Prim.Native.Nat.{ℕ, ◌*◌, ◌^◌, ◌≤◌}
use mathlib.Core.List.{List, [], ◌∷◌}
use native.Mathlib.Nat.{mul-pos}
use native.Mathlib.Omega.{arith}
use lib.ListN.{length}
use lib.Ieee.{Float}
use Rattle.table.specs.Table.{Table, Every, occupied}
use Rattle.table.proofs.Occupied.{someone}
use Rattle.pooling.specs.Pool.{blocks}
use Rattle.pooling.specs.Fraction.{Fraction, Proper, nought, ratio, sum, difference, square, times}
use Rattle.pooling.proofs.Scale.{scale_occupied}
use Rattle.spread.specs.Near.{value_of}
use Rattle.spread.specs.Spread.{total_of, residual_sum}
use Rattle.spread.specs.Brier.{brier_sum_of_rates}
use Rattle.spread.proofs.Rounding.{units_proper}
use Rattle.spread.proofs.Operations.{value_proper}
use Rattle.spread.proofs.Exact.{residual_proper}

brier_proper : (t : Table) (q : List Fraction) → Every Proper q → Proper (brier_sum_of_rates t q)
unfolding brier_sum_of_rates nought ratio sum difference square times
brier_proper [] q h = omega arith
brier_proper (r ∷ t) [] h = omega arith
brier_proper (r ∷ t) (x ∷ q) h =
    let one : 1 ≤ 1 * x.over = omega (arith, h.0) in
    mul-pos (mul-pos (mul-pos one one) (mul-pos h.0 h.0)) (brier_proper t q h.1)

pub sums_proper : (t : Table)
    → (1 ≤ length (occupied t) → Proper (total_of t))
    × Proper (residual_sum (blocks t))
    × ((q : List Fraction) → Every Proper q → Proper (brier_sum_of_rates t q))
unfolding ratio
sums_proper t = (someone t, residual_proper (blocks t) (scale_occupied t), brier_proper t)

pub floats_proper : (x : Float) (k : ℕ) → Proper (value_of x) × Proper (ratio 1 (2 ^ k))
floats_proper x k = (value_proper x, units_proper 1 k)
