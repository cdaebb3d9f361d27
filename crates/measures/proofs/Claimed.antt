-- What is claimed of the measures holds.
use Rattle.measures.specs.Claims.{Claims}
use Rattle.measures.proofs.Listed.{obligors_are_listed}
use Rattle.measures.proofs.Counted.{obligors_are_counted, pairs_are_counted}
use Rattle.measures.proofs.Pairs.{every_pair}
use Rattle.measures.proofs.Empty.{no_pairs, no_score}
use Rattle.measures.proofs.Curves.{roc_is_area, cap_is_area, gini_is_ratio, gini_is_difference, roc_is_half}
use Rattle.measures.proofs.Pietra.{pietra_is_largest, smaller_is_nearer}
use Rattle.measures.proofs.Outcomes.{brier_is_mean}
use Rattle.measures.proofs.Proper.{measures_proper, brier_proper}

pub claimed : Claims
claimed = record {
  obligors_are_listed = obligors_are_listed;
  obligors_are_counted = obligors_are_counted;
  pairs_are_counted = pairs_are_counted;
  every_pair_is_counted = every_pair;
  empty_grades_make_no_pairs = no_pairs;
  empty_grades_add_no_score = no_score;
  roc_is_the_area = roc_is_area;
  cap_is_the_area = cap_is_area;
  gini_is_the_ratio_of_areas = gini_is_ratio;
  gini_is_the_difference_of_probabilities = gini_is_difference;
  roc_is_half_of_gini_and_one = roc_is_half;
  pietra_is_the_largest_distance = pietra_is_largest;
  no_smaller_cutoff_is_as_far = smaller_is_nearer;
  brier_is_the_mean_squared_difference = brier_is_mean;
  measures_are_proper = measures_proper;
  brier_is_proper = brier_proper;
}
