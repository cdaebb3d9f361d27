-- Serves contracts of functions inside the library only: what is promised does not rest on it.
-- What the two passes over a table find.
use Rattle.table.specs.Table.{Table, defaults_in, survivors_in}
use Rattle.measures.specs.Pairs.{concordant, discordant}
use Rattle.measures.specs.Measures.{height, pietra_at}
use Rattle.measures.specs.declared.PairCounts.{PairCounts}
use Rattle.measures.specs.declared.FarthestCutoff.{FarthestCutoff}

-- C, X, D and S
unfoldable pub pair_counts_of : Table → PairCounts
pair_counts_of t = record {
  concordant = concordant t;
  discordant = discordant t;
  defaults = defaults_in t;
  survivors = record { 0 = survivors_in t };
}

-- the Pietra cutoff and its y S - x D
unfoldable pub farthest_of : Table → FarthestCutoff
farthest_of t = record { cutoff = pietra_at t; height = height t (pietra_at t) }
