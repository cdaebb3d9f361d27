-- `desk_compare_shares` meets its contract.
use mathlib.Core.Path.{refl}
use Rattle.desk_c.proofs.Asked.{words_pooled_place}
use Rattle.desk_c.proofs.desk_compare_shares.Goals as goal

pub compare_shares-requires : goal.compare_shares-requires
compare_shares-requires c = (words_pooled_place c.requires 1 refl c.words_at.ensures, words_pooled_place c.requires 2 refl c.words_at-2.ensures)
