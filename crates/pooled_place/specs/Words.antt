-- A place with its pooled list as words: the 242 numbers that a caller lends for it, those of its counts and then those of the list. What
-- `place_in` and `table_in` read stands in the first 122, so that they are said of all 242.
use Rattle.std.specs.Prelude.{ℕ, ◌≡◌, List, ◌++◌, take, drop}
use Rattle.table.specs.Table.{Sound}
use Rattle.table.specs.Words.{place_size, words_of, place_in, table_in}
use Rattle.pooled_place.specs.declared.PooledPlace.{PooledPlace}
use Rattle.pooled_place.specs.PooledPlace.{pooled_place_of, SoundPooledPlace}

-- how many words there are
abbrev pub pooled_place_size : ℕ
pooled_place_size = 242

abbrev pub pooled_place_words : PooledPlace → List ℕ
pooled_place_words k = words_of k.place ++ k.pooled

-- the words of the counts, and those of the list
abbrev pub counts_in : List ℕ → List ℕ
counts_in w = take place_size w

abbrev pub list_in : List ℕ → List ℕ
list_in w = drop place_size w

-- the place that words stand for
abbrev pub pooled_place_in : List ℕ → PooledPlace
pooled_place_in w = record { place = place_in w; pooled = list_in w }

-- What a function that goes over the list requires of the words: they are those of the table that they hold.
pub record HoldsPooledTable (w : List ℕ) : Type 0 where
  pub sound : Sound (table_in w)
  pub exact : w ≡ pooled_place_words (pooled_place_of (table_in w))

-- What a call requires of the words: they are those of a place that calls left.
pub record IsPooledPlace (w : List ℕ) : Type 0 where
  pub sound : SoundPooledPlace (pooled_place_in w)
  pub exact : w ≡ pooled_place_words (pooled_place_in w)
