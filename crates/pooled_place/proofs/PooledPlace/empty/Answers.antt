-- `PooledPlace::empty` meets its contract.
use Rattle.pooled_place.proofs.PooledPlace.empty.Goals as goal

pub returns : goal.returns
returns c = rw c.empty.ensures
