-- The claims: `claims` has nothing to do but to show each of them.
use Rattle.shortlist.proofs.Order.{better_computed}
use Rattle.shortlist.proofs.Books.{not_refused, comparable, taken, book_unbeaten, in_order, book_equals, book_beaten, book_some}
use Rattle.shortlist.proofs.claims.Goals as goal

pub returns : goal.returns
returns c =
    record {
      better_is_computed = better_computed;
      accepted_raters_are_comparable = comparable;
      comparable_raters_are_accepted = taken;
      listed_are_unbeaten = λ b n e. book_unbeaten b (not_refused b n e);
      listed_in_book_order = in_order;
      equals_stand_together = λ b n e. book_equals b (not_refused b n e);
      unlisted_are_beaten = λ b n e. book_beaten b (not_refused b n e);
      list_is_never_empty = λ b n e. book_some b (not_refused b n e);
    }
