-- `counts_of` meets its contract.
use mathlib.Core.Path.{sym}
use Rattle.pooled_place.proofs.Words.{length_counts}
use Rattle.pooled_place.proofs.counts_of.Goals as goal

pub slice_bounds-result-end : goal.slice_bounds-result-end
slice_bounds-result-end c = sym (length_counts c.args.words.now c.requires)
