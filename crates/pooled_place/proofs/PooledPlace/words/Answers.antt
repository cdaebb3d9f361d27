-- `PooledPlace::words` meets its contract.
use Rattle.pooled_place.proofs.Words.{sound_place, words_stored}
use Rattle.pooled_place.proofs.PooledPlace.words.Goals as goal

pub words-counts-requires : goal.words-counts-requires
words-counts-requires c = sound_place c.requires

pub returns : goal.returns
returns c = words_stored _ c.requires c.words-counts.ensures c.put_numbers.ensures c.put_numbers-2.ensures
