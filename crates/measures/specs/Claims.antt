-- What is proved of the measures, beside the contracts. The contract of `claims` in src/lib.rt is all of it, so that the crate is refused
-- where a claim is not proved.
use Rattle.std.specs.Prelude.{ℕ, ◌+◌, ◌≤◌, ◌<◌, ◌≡◌, Bool, not, length}
use Rattle.table.specs.Table.{Table, Every, Counted, Rated, Mixed, occupied, defaults_in, obligors_in}
use Rattle.pooling.specs.Fraction.{Proper, AtMost, Equal, ratio, sum, difference, product}
use Rattle.measures.specs.Pairs.{number, obligors_of_lem, IsListOf, Pair, pairs_among, is_concordant, is_discordant, is_tied}
use Rattle.measures.specs.Pairs.{concordant, discordant, tied}
use Rattle.measures.specs.Measures.{pairs, measures_of}
use Rattle.measures.specs.Brier.{brier_of}
use Rattle.measures.specs.Published.{value, signed_value, roc_area, cap_area, probability, vertical_distance, absolute}
use Rattle.measures.specs.Published.{outcomes, mean_squared_difference}

-- The pairs below are made of all obligors of a table, in grade order.
abbrev pub ObligorsAreListed : Type 0
ObligorsAreListed = (t : Table) → IsListOf t (obligors_of_lem t)

-- "Measures returns D, S": so many of them defaulted, and so many survived.
abbrev pub ObligorsAreCounted : Type 0
ObligorsAreCounted =
    (t : Table)
    → (number (λ o. o.defaulted) (obligors_of_lem t) ≡ (measures_of t).defaults)
    × (number (λ o. not o.defaulted) (obligors_of_lem t) ≡ (measures_of t).survivors.0)

-- "Pairs are one defaulted with one surviving obligor. C counts pairs with the defaulted one in the worse grade, X in the better, T in the
-- same": of the list of all pairs among all obligors, which has D S of them.
abbrev pub PairsAreCounted : Type 0
PairsAreCounted =
    (t : Table)
    → (number is_concordant (pairs_among (obligors_of_lem t)) ≡ concordant t)
    × (number is_discordant (pairs_among (obligors_of_lem t)) ≡ discordant t)
    × (number is_tied (pairs_among (obligors_of_lem t)) ≡ tied t)
    × (length (pairs_among (obligors_of_lem t)) ≡ pairs t)

-- Every pair of a defaulted and a surviving obligor is concordant, discordant or tied.
abbrev pub EveryPairIsCounted : Type 0
EveryPairIsCounted = (t : Table) → concordant t + discordant t + tied t ≡ pairs t

-- R-4: "An empty grade adds nothing to any count": C, X and T are those of the occupied grades alone,
abbrev pub EmptyGradesMakeNoPairs : Type 0
EmptyGradesMakeNoPairs =
    (t : Table) → Every Counted t
    → (concordant (occupied t) ≡ concordant t) × (discordant (occupied t) ≡ discordant t) × (tied (occupied t) ≡ tied t)

-- and so is the Brier score, whatever rate an empty grade announces.
abbrev pub EmptyGradesAddNoScore : Type 0
EmptyGradesAddNoScore = (t : Table) → Every Counted t → brier_of (occupied t) ≡ brier_of t

-- ROC is the area under the receiver operating characteristic.
abbrev pub RocIsTheArea : Type 0
RocIsTheArea = (t : Table) → Mixed t → Equal (value (measures_of t).roc) (roc_area t)

-- CAP is the area under the cumulative accuracy profile.
abbrev pub CapIsTheArea : Type 0
CapIsTheArea = (t : Table) → Mixed t → Equal (value (measures_of t).cap) (cap_area t)

-- Document 000, (2.5): the accuracy ratio is the area between profile and diagonal over that between the perfect profile and the
-- diagonal, (area - 1/2) / (1/2 - p/2) with p = D/N. Here multiplied out.
abbrev pub GiniIsTheRatioOfAreas : Type 0
GiniIsTheRatioOfAreas =
    (t : Table) → Mixed t
    → Equal
    (product (signed_value (measures_of t).gini) (difference (ratio 1 2) (product (ratio 1 2) (ratio (defaults_in t) (obligors_in t)))))
    (difference (cap_area t) (ratio 1 2))

-- Document 000, (2.6): it is the probability that of a defaulted and a surviving obligor the defaulted one is in the worse grade,
-- less the probability that it is in the better one.
abbrev pub GiniIsTheDifferenceOfProbabilities : Type 0
GiniIsTheDifferenceOfProbabilities =
    (t : Table) → Mixed t
    → Equal (signed_value (measures_of t).gini) (difference (probability is_concordant t) (probability is_discordant t))

-- Document 000, (2.11): the area under the ROC curve is half of the accuracy ratio and 1.
abbrev pub RocIsHalfOfGiniAndOne : Type 0
RocIsHalfOfGiniAndOne =
    (t : Table) → Mixed t
    → Equal (value (measures_of t).roc) (product (ratio 1 2) (sum (signed_value (measures_of t).gini) (ratio 1 1)))

-- Document 02, R-1: Pietra is "of largest absolute size, signed". It is the vertical distance of document 004 at its cutoff, and no cutoff has
-- one of larger absolute size, on either side of the diagonal: that size is the index of document 000, definition 2.3.4.
abbrev pub PietraIsTheLargestDistance : Type 0
PietraIsTheLargestDistance =
    (t : Table) → Mixed t
    → ((measures_of t).cutoff ≤ length t)
    × Equal (signed_value (measures_of t).pietra) (vertical_distance t (measures_of t).cutoff)
    × ((g : ℕ) → g ≤ length t → AtMost (absolute (vertical_distance t g)) (absolute (signed_value (measures_of t).pietra)))

-- "With the smallest such g", which "also decides the sign": every smaller cutoff has a distance of smaller absolute size.
abbrev pub NoSmallerCutoffIsAsFar : Type 0
NoSmallerCutoffIsAsFar =
    (t : Table) → Mixed t → (g : ℕ) → g < (measures_of t).cutoff
    → ¬ AtMost (absolute (signed_value (measures_of t).pietra)) (absolute (vertical_distance t g))

-- The Brier score is the mean squared difference of outcome and announced rate, each obligor counted.
abbrev pub BrierIsTheMeanSquaredDifference : Type 0
BrierIsTheMeanSquaredDifference =
    (t : Table) → Every Counted t → Every Rated t → 1 ≤ obligors_in t
    → Equal (value (brier_of t)) (mean_squared_difference (outcomes t))

-- Cross-multiplication compares proper fractions only, those over at least 1. Those that are compared above, or are parts of them, are:
pub record ProperMeasures (t : Table) : Type 0 where
  pub gini : Proper (signed_value (measures_of t).gini)
  pub roc : Proper (value (measures_of t).roc)
  pub cap : Proper (value (measures_of t).cap)
  pub pietra : Proper (signed_value (measures_of t).pietra)
  pub roc-area : Proper (roc_area t)
  pub cap-area : Proper (cap_area t)
  pub default_rate : Proper (ratio (defaults_in t) (obligors_in t))
  pub probabilities : (test : Pair → Bool) → Proper (probability test t)
  pub distances : (g : ℕ) → Proper (vertical_distance t g)
  pub pietra_size : Proper (absolute (signed_value (measures_of t).pietra))
  pub distance_sizes : (g : ℕ) → Proper (absolute (vertical_distance t g))

abbrev pub MeasuresAreProper : Type 0
MeasuresAreProper = (t : Table) → Mixed t → ProperMeasures t

abbrev pub BrierIsProper : Type 0
BrierIsProper =
    (t : Table) → Every Counted t → 1 ≤ obligors_in t → Proper (value (brier_of t)) × Proper (mean_squared_difference (outcomes t))

-- All of them: what the function `claims` of this crate promises.
pub record Claims : Type 0 where
  pub obligors_are_listed : ObligorsAreListed
  pub obligors_are_counted : ObligorsAreCounted
  pub pairs_are_counted : PairsAreCounted
  pub every_pair_is_counted : EveryPairIsCounted
  pub empty_grades_make_no_pairs : EmptyGradesMakeNoPairs
  pub empty_grades_add_no_score : EmptyGradesAddNoScore
  pub roc_is_the_area : RocIsTheArea
  pub cap_is_the_area : CapIsTheArea
  pub gini_is_the_ratio_of_areas : GiniIsTheRatioOfAreas
  pub gini_is_the_difference_of_probabilities : GiniIsTheDifferenceOfProbabilities
  pub roc_is_half_of_gini_and_one : RocIsHalfOfGiniAndOne
  pub pietra_is_the_largest_distance : PietraIsTheLargestDistance
  pub no_smaller_cutoff_is_as_far : NoSmallerCutoffIsAsFar
  pub brier_is_the_mean_squared_difference : BrierIsTheMeanSquaredDifference
  pub measures_are_proper : MeasuresAreProper
  pub brier_is_proper : BrierIsProper
