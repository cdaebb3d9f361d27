-- What is claimed of pooling: `claims` has nothing to do but to show it.
use Rattle.table.proofs.Occupied.{all-occupied, same_counts}
use Rattle.pooling.proofs.Front.{pool_rising}
use Rattle.pooling.proofs.Joined.{pooled_totals}
use Rattle.pooling.proofs.Scale.{scale_occupied, pooled_sound}
use Rattle.pooling.proofs.Runs.{pool_runs}
use Rattle.pooling.proofs.Proper.{arithmetic_proper, errors_proper}
use Rattle.pooling.proofs.LeastSquares.{pooled_regression, error_at_least}
use Rattle.pooling.proofs.Determined.{blocks_determined}
use Rattle.pooling.proofs.Repeating.{next_better, best-occupied}
use Rattle.pooling.proofs.Written.{occupied_written, rates-written, none_empty_written}
use Rattle.pooling.proofs.Bands.{band_right}
use Rattle.pooling.proofs.Limits.{limits_right}
use Rattle.pooling.proofs.claims.Goals as goal

pub returns : goal.returns
returns c =
    record {
      blocks_are_runs = pool_runs;
      rates_rise = pool_rising;
      empty_grades_add_nothing = λ t h. let s = same_counts t h in (all-occupied t, s.obligors, s.defaults, s.survivors);
      pooled_scale_is_a_table = λ t s. (pooled_sound t s, scale_occupied t);
      totals_are_kept = pooled_totals;
      pooled_rates_are_the_regression = pooled_regression;
      occupied_grades_have_their_own_numbers = occupied_written;
      written_rates_are_the_pooled_rates = rates-written;
      occupied_tables_repeat_nothing = none_empty_written;
      empty_grades_repeat_the_next_better = next_better;
      empty_grades_repeat_the_best = best-occupied;
      error_is_at_least = error_at_least;
      blocks_are_determined = blocks_determined;
      bands_are_right = band_right;
      listed_limits_are_right = limits_right;
      arithmetic_keeps_proper = arithmetic_proper;
      errors_are_proper = errors_proper;
    }
