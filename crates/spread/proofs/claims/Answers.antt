-- What is claimed of the spread: `claims` has nothing to do but to show it.
use Rattle.spread.proofs.Brier.{total_brier, residual_brier}
use Rattle.spread.proofs.Proper.{sums_proper, floats_proper}
use Rattle.spread.proofs.claims.Goals as goal

pub returns : goal.returns
returns c =
    record {
      total_is_the_brier_sum_of_the_one_rate = total_brier;
      residual_is_the_brier_sum_of_the_pooled_rates = residual_brier;
      sums_are_proper = sums_proper;
      floats_are_proper = floats_proper;
    }
