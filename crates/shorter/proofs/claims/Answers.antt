-- What is claimed of shorter scales: `claims` has nothing to do but to show it.
use Rattle.shorter.proofs.Claimed.{claimed}
use Rattle.shorter.proofs.claims.Goals as goal

pub returns : goal.returns
returns c = claimed
