-- A place with its pooled list beside its counts. Document 02, R-8: "The place keeps its pooled list beside its counts."
use Rattle.std.specs.Prelude.{ℕ, Bool, false, List, replicate}
use Rattle.table.specs.Table.{Table, Sound}
use Rattle.table.specs.Place.{marked, place_of}
use Rattle.pooling.specs.Numbers.{pooled_into}
use Rattle.pooled_place.specs.declared.PooledPlace.{PooledPlace}

-- the list of an empty place
abbrev pub no_list : List ℕ
no_list = replicate 120 0

-- The pooled list of a table: what pool writes into a buffer of 120 zeros, three numbers a grade and nothing behind them.
abbrev pub list_of : Table → List ℕ
list_of t = pooled_into t no_list

-- a place without a table, marked as loaded or not
abbrev pub marked_pooled_place : Bool → PooledPlace
marked_pooled_place b = record { place = marked b; pooled = no_list }

-- a place of a fresh desk
abbrev pub fresh_pooled_place : PooledPlace
fresh_pooled_place = marked_pooled_place false

-- The place that holds a table: every number of it follows from the table.
abbrev pub pooled_place_of : Table → PooledPlace
pooled_place_of t = record { place = place_of t; pooled = list_of t }

-- What calls leave in a place: nothing, or a table with its pooled list.
pub data SoundPooledPlace : PooledPlace → Type 0 where
  empty : SoundPooledPlace fresh_pooled_place
  holds : (t : Table) → Sound t → SoundPooledPlace (pooled_place_of t)
