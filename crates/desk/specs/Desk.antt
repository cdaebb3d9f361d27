-- The desk (document 01's term): two places, numbered 1 and 2, each empty or holding one table.
use Rattle.std.specs.Prelude.{ℕ, cond, eqb}
use Rattle.table.specs.Table.{Table}
use Rattle.table.specs.Place.{table_of}
use Rattle.table.specs.declared.Place.{Place}
use Rattle.pooled_place.specs.declared.PooledPlace.{PooledPlace}
use Rattle.pooled_place.specs.PooledPlace.{fresh_pooled_place, SoundPooledPlace}
use Rattle.desk.specs.declared.Desk.{Desk}

-- "A fresh desk has both places empty."
abbrev pub fresh_desk : Desk
fresh_desk = record { first = fresh_pooled_place; second = fresh_pooled_place }

-- place i of a desk, for i 1 or 2, with its pooled list
abbrev pub pooled_place_at : Desk → ℕ → PooledPlace
pooled_place_at d i = cond (eqb i 1) d.first d.second

-- its counts
abbrev pub place_at : Desk → ℕ → Place
place_at d i = (pooled_place_at d i).place

-- the table in it
abbrev pub table_at : Desk → ℕ → Table
table_at d i = table_of (place_at d i)

-- the desk with another place i
abbrev pub with_place_lem : Desk → ℕ → PooledPlace → Desk
with_place_lem d i p = cond (eqb i 1) (record { first = p; second = d.second }) (record { first = d.first; second = p })

-- The one thing that a contract requires of a desk: each place is empty or holds a table with its pooled list. `EveryDeskIsSound` shows that calls
-- imply it.
pub record SoundDesk (d : Desk) : Type 0 where
  pub first : SoundPooledPlace d.first
  pub second : SoundPooledPlace d.second
