-- `dearer_than` meets its contract: the block that is found has prices of 32 bits.
use Rattle.cutoff.proofs.Judged.{found_small}
use Rattle.cutoff.proofs.Scale.dearer_than.Goals as goal

pub at_break_even-requires : goal.at_break_even-requires
at_break_even-requires c = found_small c.requires.opposed c.requires.small c.where_dearer.result c.where_dearer.ensures
