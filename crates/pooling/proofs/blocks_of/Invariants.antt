-- `blocks_of` meets its contract. The invariant: one less than `grades` empty grades wait at the front of those from grade i on, and the blocks
-- behind them stand.
use Prim.Native.Nat.{ℕ, ◌+◌, ◌≤◌}
use mathlib.Core.Path.{◌≡◌}
use mathlib.Core.List.{List}
use lib.ListN.{length}
use Rattle.table.specs.Words.{place_in}
use Rattle.table.specs.declared.Place.{Place}
use Rattle.table.proofs.Suffix.{suffix}
use Rattle.pooling.specs.Pool.{Block}
use Rattle.pooling.specs.Private.{listed, waiting, behind_waiting}
use Rattle.pooling.proofs.blocks_of.Given as goal

pub record Climbed (p : Place) (i grades : ℕ) (stored : List Block) : Type 0 where
  pub inside : i ≤ p.grades
  pub room : length stored + i ≤ 40
  pub waits : grades ≡ waiting (suffix p i) + 1
  pub same : stored ≡ behind_waiting (suffix p i)

abbrev pub invariant-loop-i : goal.invariant-loop-i
invariant-loop-i l = Climbed (place_in l.place) l.i l.grades (listed l.blocks)
