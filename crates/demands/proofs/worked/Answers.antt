-- The worked tables: `worked` has nothing to do but to show them.
use Rattle.demands.proofs.Tables.{Worked}
use Rattle.demands.proofs.worked.Goals as goal

pub returns : goal.returns
returns c = Worked
