-- The demands: `demands` has nothing to do but to show each of them.
use mathlib.Core.Path.{refl}
use Rattle.book.proofs.Accept as reading
use Rattle.book.proofs.RoundTrip.{round_trip}
use Rattle.book.proofs.Again.{written_again}
use Rattle.cutoff.proofs.Cost.{cheapest_is, cheapest_unique}
use Rattle.cutoff.proofs.Pooled.{pooled_costs_same}
use Rattle.shares.proofs.Shares.{cheapest-share, cheapest_shares_equal, share_costs_proper}
use Rattle.shares.proofs.Weights.{multiples_equal, multiples_as_good}
use Rattle.shares.proofs.Settled.{multiples_one_verdict}
use Rattle.measures.proofs.Claimed as measures
use Rattle.desk.proofs.Asked.{asked_sound}
use Rattle.desk_c.proofs.Images.{is_image}
use Rattle.demands.specs.History.{desk_after_lem}
use Rattle.demands.proofs.History.{places_hold, tables_sound, rates_never_fall, desk_sound, lists_pooled}
use Rattle.demands.proofs.Faults.{answered, never_five}
use Rattle.demands.proofs.Loads.{load_tells, load_means, load_takes, load_means_empty, load_tells_fall, load_means_fall}
use Rattle.demands.proofs.Kept.{refused_kept, written_only, others_kept}
use Rattle.demands.proofs.Written.{written_given}
use Rattle.demands.proofs.EntryPoints.{served}
use Rattle.demands.proofs.Accepted.{regression_written, repeats_written, measured_mixed, loads_back, writes_back}
use Rattle.demands.proofs.Verdicts.{compare_right, shares_right, agree}
use Rattle.demands.proofs.Shortlists.{shortlist_right, raters-compared}
use Rattle.events.proofs.Tables.{announced_kept, others_kept as others-kept-by-events, length-after}
use Rattle.demands.proofs.demands.Goals as goal

pub returns : goal.returns
returns c =
    record {
      every_desk_is_sound = desk_sound;
      places_hold_what_was_loaded = places_hold;
      kept_lists_are_pooled = lists_pooled;
      events_change_one_grade = (announced_kept, others-kept-by-events, length-after);
      every_held_table_is_sound = tables_sound;
      announced_rates_never_fall = rates_never_fall;
      calls_leave_images = λ calls. is_image (desk_after_lem calls) (desk_sound calls);
      every_call_is_served = served;
      every_call_is_answered = answered;
      load_tells_wrong_cuts = load_tells;
      load_means_wrong_cuts = load_means;
      five_is_never_given = never_five;
      load_takes_sound_tables = load_takes;
      load_means_all_empty = load_means_empty;
      load_tells_falls = load_tells_fall;
      load_means_falls = load_means_fall;
      questions_are_of_tables = asked_sound;
      refusals_change_nothing = refused_kept;
      only_what_is_written_changes = written_only;
      what_is_written_is_given = written_given;
      other_places_are_kept = others_kept;
      books_go_both_ways = (reading.accepted, round_trip, written_again);
      written_books_load_back = loads_back;
      loaded_books_write_back = writes_back;
      measures_are_published = (
        (measures.claimed).roc_is_the_area,
        (measures.claimed).cap_is_the_area,
        (measures.claimed).gini_is_the_difference_of_probabilities,
        (measures.claimed).gini_is_the_ratio_of_areas,
        (measures.claimed).pietra_is_the_largest_distance,
        (measures.claimed).brier_is_the_mean_squared_difference,
      );
      measured_tables_are_mixed = measured_mixed;
      pool_writes_the_regression = regression_written;
      pool_repeats_for_empty_grades = repeats_written;
      compare_is_right = compare_right;
      compare_shares_is_right = shares_right;
      comparisons_agree = agree;
      shortlist_is_right = shortlist_right;
      shortlist_needs_no_desk = λ d e b out. (refl, refl, refl);
      shortlisted_raters_are_compared = raters-compared;
      every_table_has_one_cheapest_share = (cheapest-share, cheapest_shares_equal, share_costs_proper);
      sizes_play_no_part = (multiples_equal, multiples_as_good, multiples_one_verdict);
      every_table_has_one_cheapest_cost = (cheapest_is, cheapest_unique);
      pooling_keeps_the_cheapest_cost = pooled_costs_same;
    }
