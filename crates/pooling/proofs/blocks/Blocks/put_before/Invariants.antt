-- `put_before` meets its contract. The invariant: the block in hand, put before those that stand, gives what the block called with gives before
-- those that stood. The measure: a join takes one block away.
use Prim.Native.Nat.{◌-◌, ◌≤◌, ◌<◌}
use mathlib.Core.Path.{◌≡◌}
use mathlib.Core.List.{List}
use lib.ListN.{length, drop}
use Rattle.pooling.specs.Pool.{Block, join, front}
use Rattle.pooling.specs.Private.{Fitting, sum_of, listed}
use Rattle.pooling.proofs.blocks.Blocks.put_before.Given as goal

pub record Joining (all : List Block) (b : Block) (rest : List Block) : Type 0 where
  pub room : length rest < 40
  pub fits : Fitting (join b (sum_of rest))
  pub same : front b rest ≡ all

abbrev pub invariant-loop-at : goal.invariant-loop-at
invariant-loop-at l = (l.at ≤ 40) × Joining (front l.initial.b (listed l.initial.self)) l.b (drop l.at l.self.items)

abbrev pub decreases-loop-at : goal.decreases-loop-at
decreases-loop-at l = 40 - l.at
