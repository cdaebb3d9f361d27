-- The Brier sum of any rates, one for each grade: the squared differences of outcome and rate, over all obligors.
use Rattle.std.specs.Prelude.{List, [], ◌∷◌}
use Rattle.table.specs.Table.{Table, Grade, survivors}
use Rattle.pooling.specs.Fraction.{Fraction, nought, ratio, sum, difference, square, times}

-- d (1 - q)² + (n - d) q² of a grade with rate q
abbrev pub brier_of_rate : Grade → Fraction → Fraction
brier_of_rate r q = sum (times r.defaults (square (difference (ratio 1 1) q))) (times (survivors r) (square q))

unfoldable pub brier_sum_of_rates : Table → List Fraction → Fraction
brier_sum_of_rates [] q = nought
brier_sum_of_rates (r ∷ t) [] = nought
brier_sum_of_rates (r ∷ t) (x ∷ q) = sum (brier_of_rate r x) (brier_sum_of_rates t q)
