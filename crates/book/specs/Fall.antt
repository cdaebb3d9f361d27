-- Where announced rates fall (document 02's R-5), told of the rows and not of load's checks: what 34 means. Rows are numbered from 0.
use Rattle.std.specs.Prelude.{ℕ, suc, ◌<◌, length, get_or, take}
use Rattle.table.specs.Table.{Table, Every, Counted, Rated, InOrder}
use Rattle.table.specs.Place.{blank}

-- "A rate below that of the row before is 34, tested in each row after 10": row k + 1, behind row k, has such a rate, and no earlier check fails.
-- No row up to it has 8 or 10, and up to row k no rate falls.
pub record FallsAfter (t : Table) (k : ℕ) : Type 0 where
  pub inside : suc k < length t
  pub counted : Every Counted (take (suc (suc k)) t)
  pub rated : Every Rated (take (suc (suc k)) t)
  pub in_order : InOrder (take (suc k) t)
  pub below : (get_or t (suc k) blank).announced < (get_or t k blank).announced
