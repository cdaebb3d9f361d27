-- What is claimed of the measures: `claims` has nothing to do but to show it.
use Rattle.measures.proofs.Claimed.{claimed}
use Rattle.measures.proofs.claims.Goals as goal

pub returns : goal.returns
returns c = claimed
