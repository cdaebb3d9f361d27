-- What is proved of the spread, beside the contracts. The contract of `claims` in src/lib.rt is all of it, so that the crate is refused
-- where a claim is not proved.
use Rattle.std.specs.Prelude.{ℕ, ◌^◌, ◌≤◌, List, length, replicate, Float}
use Rattle.table.specs.Table.{Table, Every, Counted, occupied, defaults_in, obligors_in}
use Rattle.pooling.specs.Pool.{blocks}
use Rattle.pooling.specs.Fraction.{Fraction, Proper, Equal, ratio}
use Rattle.pooling.specs.Regression.{pooled_rates}
use Rattle.spread.specs.Near.{value_of}
use Rattle.spread.specs.Spread.{total_of, residual_sum}
use Rattle.spread.specs.Brier.{brier_sum_of_rates}

-- DS/N is the Brier sum of one rate for all grades, that of the whole table.
abbrev pub TotalIsTheBrierSumOfTheOneRate : Type 0
TotalIsTheBrierSumOfTheOneRate =
    (t : Table) → Every Counted t → 1 ≤ obligors_in t
    → Equal (total_of t) (brier_sum_of_rates t (replicate (length t) (ratio (defaults_in t) (obligors_in t))))

-- The exact residual sum over blocks is the Brier sum of the pooled rates, which concern the occupied grades.
abbrev pub ResidualIsTheBrierSumOfThePooledRates : Type 0
ResidualIsTheBrierSumOfThePooledRates =
    (t : Table) → Every Counted t → Equal (residual_sum (blocks t)) (brier_sum_of_rates (occupied t) (pooled_rates (occupied t)))

-- Cross-multiplication compares proper fractions only, those over at least 1. Those compared here are: the exact numbers of a table,
abbrev pub SumsAreProper : Type 0
SumsAreProper =
    (t : Table)
    → (1 ≤ length (occupied t) → Proper (total_of t))
    × Proper (residual_sum (blocks t))
    × ((q : List Fraction) → Every Proper q → Proper (brier_sum_of_rates t q))

-- and what is held to them: the value of any float, and the bounds.
abbrev pub FloatsAreProper : Type 0
FloatsAreProper = (x : Float) (k : ℕ) → Proper (value_of x) × Proper (ratio 1 (2 ^ k))

-- All of them: what the function `claims` of this crate promises.
pub record Claims : Type 0 where
  pub total_is_the_brier_sum_of_the_one_rate : TotalIsTheBrierSumOfTheOneRate
  pub residual_is_the_brier_sum_of_the_pooled_rates : ResidualIsTheBrierSumOfThePooledRates
  pub sums_are_proper : SumsAreProper
  pub floats_are_proper : FloatsAreProper
