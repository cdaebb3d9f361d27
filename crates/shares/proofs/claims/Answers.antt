-- The claims: `claims` has nothing to do but to show each of them.
use Rattle.shares.proofs.Shares.{cheapest-share, cheapest_shares_equal, share_costs_proper}
use Rattle.shares.proofs.Weights.{multiples_equal, multiples_as_good}
use Rattle.shares.proofs.Totals.{equal_totals_agree, shares_are_weights, break_even_shares}
use Rattle.shares.proofs.Settled.{settles_by_shares, one_verdict, multiples_one_verdict}
use Rattle.shares.proofs.claims.Goals as goal

pub returns : goal.returns
returns c =
    record {
      cheapest_share_is_cheapest = cheapest-share;
      cheapest_share_is_unique = cheapest_shares_equal;
      share_costs_are_proper = share_costs_proper;
      shares_are_weights = shares_are_weights;
      break_even_shares_decide = break_even_shares;
      shares_settle = settles_by_shares;
      equal_totals_agree = equal_totals_agree;
      equal_totals_have_one_verdict = one_verdict;
      multiples_are_equal = multiples_equal;
      multiples_are_as_good = multiples_as_good;
      multiples_keep_the_verdict = multiples_one_verdict;
    }
