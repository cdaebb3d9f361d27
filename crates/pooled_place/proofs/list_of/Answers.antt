-- `list_of` meets its contract.
use Rattle.pooled_place.proofs.Lists.{list_part}
use Rattle.pooled_place.proofs.list_of.Goals as goal

pub returns : goal.returns
returns c = list_part c.args.words.now
