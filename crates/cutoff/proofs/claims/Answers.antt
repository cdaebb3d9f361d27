-- The claims: `claims` has nothing to do but to show each of them.
use Rattle.cutoff.proofs.Cost.{cheapest_is, cutoff_costs, smaller_dearer, cheapest_unique}
use Rattle.cutoff.proofs.Pooled.{pooled_costs_same}
use Rattle.cutoff.proofs.Dominance.{break_even_decides}
use Rattle.cutoff.proofs.Settled.{settles}
use Rattle.cutoff.proofs.claims.Goals as goal

pub returns : goal.returns
returns c =
    record {
      cheapest_is_cheapest = cheapest_is;
      cutoff_has_the_cost = cutoff_costs;
      no_smaller_cutoff_is_as_cheap = smaller_dearer;
      cheapest_cost_is_unique = cheapest_unique;
      pooled_scale_costs_the_same = pooled_costs_same;
      break_even_prices_decide = break_even_decides;
      verdicts_are_right = settles;
    }
