-- `desk_compare` meets its contract.
use mathlib.Core.Path.{refl}
use Rattle.desk_c.proofs.Asked.{words_pooled_place}
use Rattle.desk_c.proofs.desk_compare.Goals as goal

pub compare-requires : goal.compare-requires
compare-requires c = (words_pooled_place c.requires 1 refl c.words_at.ensures, words_pooled_place c.requires 2 refl c.words_at-2.ensures)
