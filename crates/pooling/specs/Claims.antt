-- What is proved of pooling, beside the contracts. The contract of `claims` in src/lib.rt is all of it, so that the crate is refused where
-- a claim is not proved. A claim on `pool t` is for tables without empty grades: of any t, read it of `occupied t`, whose blocks are `blocks t`.
use Rattle.std.specs.Prelude.{ℕ, ◌*◌, ◌≤◌, ◌<◌, ◌≡◌, List, length, get_or, drop}
use Rattle.table.specs.Table.{Table, Every, Occupied, Counted, Sound, occupied, defaults_in, survivors_in, obligors_in}
use Rattle.table.specs.Place.{blank}
use Rattle.pooling.specs.Pool.{Block, pool, pooled_scale, Rising, Runs}
use Rattle.pooling.specs.Band.{band_limit, band_of, IsBand}
use Rattle.pooling.specs.Limits.{listed_limits}
use Rattle.pooling.specs.Numbers.{numbers_of_lem, three, own_numbers, pooled_into, numbers_at_occupied, rates_at_occupied}
use Rattle.pooling.specs.Fraction.{Fraction, Proper, AtMost, sum, difference, square, times, product}
use Rattle.pooling.specs.Regression.{Monotone, IsRegression, distance, rates, error, rates_in, pooled_rates}

-- "Blocks are runs of neighbouring grades, rate = block defaults / block obligors."
abbrev pub BlocksAreRuns : Type 0
BlocksAreRuns = (t : Table) → Runs (pool t) t

-- "[The rates] strictly rise from block to block: equal neighbours are joined."
abbrev pub RatesRise : Type 0
RatesRise = (t : Table) → Rising (pool t)

-- R-4: "An empty grade adds nothing to any count": the occupied grades have all of them.
abbrev pub EmptyGradesAddNothing : Type 0
EmptyGradesAddNothing =
    (t : Table) → Every Counted t
    → Every Occupied (occupied t)
    × (obligors_in (occupied t) ≡ obligors_in t)
    × (defaults_in (occupied t) ≡ defaults_in t)
    × (survivors_in (occupied t) ≡ survivors_in t)

-- "The pooled scale is the table whose grades are the blocks": it is a table, and no grade of it is empty.
abbrev pub PooledScaleIsATable : Type 0
PooledScaleIsATable = (t : Table) → Sound t → Sound (pooled_scale t) × Every Occupied (pooled_scale t)

-- It keeps all obligors and all defaults.
abbrev pub TotalsAreKept : Type 0
TotalsAreKept =
    (t : Table) → Every Counted t → (obligors_in (pooled_scale t) ≡ obligors_in t) × (defaults_in (pooled_scale t) ≡ defaults_in t)

-- "The rates are the monotone regression with weights n": of all never-falling lists of fractions the pooled rates alone have the
-- smallest obligor-weighted squared error.
abbrev pub PooledRatesAreTheRegression : Type 0
PooledRatesAreTheRegression = (t : Table) → Every Occupied t → IsRegression t (pooled_rates t)

-- What is written at the occupied grades are the numbers of their blocks,
abbrev pub OccupiedGradesHaveTheirOwnNumbers : Type 0
OccupiedGradesHaveTheirOwnNumbers = (t : Table) (out : List ℕ) → numbers_at_occupied t (pooled_into t out) ≡ own_numbers t

-- and so their rates, grade by grade.
abbrev pub WrittenRatesAreThePooledRates : Type 0
WrittenRatesAreThePooledRates = (t : Table) (out : List ℕ) → rates_at_occupied t (pooled_into t out) ≡ pooled_rates (occupied t)

-- Where no grade is empty, nothing else is written.
abbrev pub OccupiedTablesRepeatNothing : Type 0
OccupiedTablesRepeatNothing =
    (t : Table) (out : List ℕ) → Every Occupied t → pooled_into t out ≡ numbers_of_lem (pool t) (drop (3 * length t) out)

-- grade i of t, the best being 0, is occupied; is empty
abbrev pub OccupiedAt : Table → ℕ → Type 0
OccupiedAt t i = Occupied (get_or t i blank)

abbrev pub EmptyAt : Table → ℕ → Type 0
EmptyAt t i = (i < length t) × ((get_or t i blank).obligors ≡ 0)

-- the three numbers of grade i
abbrev pub numbers_at : ℕ → List ℕ → List ℕ
numbers_at i out = three (drop (3 * i) out)

-- In the numbers of t, each empty grade i has those of the next better occupied one: j is occupied, and from there to i all are empty.
abbrev pub RepeatsNextBetter : Table → List ℕ → Type 0
RepeatsNextBetter t out =
    (i j : ℕ) → j < i → OccupiedAt t j → ((k : ℕ) → j < k → k ≤ i → EmptyAt t k) → numbers_at i out ≡ numbers_at j out

-- Each that no occupied one is better than has those of the best occupied one: j is occupied, and all before it are empty.
abbrev pub RepeatsBest : Table → List ℕ → Type 0
RepeatsBest t out = (i j : ℕ) → i < j → OccupiedAt t j → ((k : ℕ) → k < j → EmptyAt t k) → numbers_at i out ≡ numbers_at j out

-- R-4: "Pool repeats for it the three numbers of the next better occupied grade,
abbrev pub EmptyGradesRepeatTheNextBetter : Type 0
EmptyGradesRepeatTheNextBetter = (t : Table) (out : List ℕ) → RepeatsNextBetter t (pooled_into t out)

-- or of the best occupied grade if none is better."
abbrev pub EmptyGradesRepeatTheBest : Type 0
EmptyGradesRepeatTheBest = (t : Table) (out : List ℕ) → RepeatsBest t (pooled_into t out)

-- The squared error of any never-falling q is at least that of the pooled rates and the squared distance of q from them.
abbrev pub ErrorIsAtLeast : Type 0
ErrorIsAtLeast =
    (t : Table) → Every Occupied t → (q : List Fraction) → Monotone t q
    → AtMost (sum (error t (pooled_rates t)) (distance t (pooled_rates t) q)) (error t q)

-- "[Blocks] are so cut that the rates are the monotone regression with weights n, and strictly rise from block to block": no other runs are.
abbrev pub BlocksAreDetermined : Type 0
BlocksAreDetermined =
    (t : Table) → Every Occupied t → (bs : List Block) → Runs bs t → Rising bs → IsRegression t (rates_in bs) → bs ≡ pool t

-- "Band b is the smallest b from 0 to 13 with rate at most 100 times 2^b ppm, compared without rounding; 14 if none."
abbrev pub BandsAreRight : Type 0
BandsAreRight = (x : Block) → IsBand x (band_of x)

-- "[The band search takes its limits] from a constant table of those fourteen, entry b shown equal to 100 times 2^b for b from 0 to 13."
abbrev pub ListedLimitsAreRight : Type 0
ListedLimitsAreRight = (length listed_limits ≡ 14) × ((b : ℕ) → b < 14 → get_or listed_limits b 0 ≡ band_limit b)

-- Cross-multiplication compares proper fractions only, those over at least 1. Arithmetic keeps fractions proper,
abbrev pub ArithmeticKeepsProper : Type 0
ArithmeticKeepsProper =
    (x y : Fraction) → Proper x → Proper y
    → Proper (sum x y) × Proper (difference x y) × Proper (product x y) × Proper (square x) × ((n : ℕ) → Proper (times n x))

-- and the rates, squared errors and distances that are compared above are proper.
abbrev pub ErrorsAreProper : Type 0
ErrorsAreProper =
    (t : Table) → Every Occupied t
    → Every Proper (rates t)
    × Every Proper (pooled_rates t)
    × ((p q : List Fraction) → Monotone t p → Monotone t q → Proper (error t q) × Proper (distance t p q))

-- All of them: what the function `claims` of this crate promises.
pub record Claims : Type 0 where
  pub blocks_are_runs : BlocksAreRuns
  pub rates_rise : RatesRise
  pub empty_grades_add_nothing : EmptyGradesAddNothing
  pub pooled_scale_is_a_table : PooledScaleIsATable
  pub totals_are_kept : TotalsAreKept
  pub pooled_rates_are_the_regression : PooledRatesAreTheRegression
  pub occupied_grades_have_their_own_numbers : OccupiedGradesHaveTheirOwnNumbers
  pub written_rates_are_the_pooled_rates : WrittenRatesAreThePooledRates
  pub occupied_tables_repeat_nothing : OccupiedTablesRepeatNothing
  pub empty_grades_repeat_the_next_better : EmptyGradesRepeatTheNextBetter
  pub empty_grades_repeat_the_best : EmptyGradesRepeatTheBest
  pub error_is_at_least : ErrorIsAtLeast
  pub blocks_are_determined : BlocksAreDetermined
  pub bands_are_right : BandsAreRight
  pub listed_limits_are_right : ListedLimitsAreRight
  pub arithmetic_keeps_proper : ArithmeticKeepsProper
  pub errors_are_proper : ErrorsAreProper
