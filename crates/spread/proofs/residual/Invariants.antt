-- `residual` meets its contract. The invariant: the numbers of the grades from grade i on are not passed, and the blocks of which none is passed
-- are still to be added.
use Prim.Native.Nat.{ℕ, ◌+◌, ◌*◌}
use mathlib.Core.Path.{◌≡◌}
use mathlib.Core.List.{List}
use Rattle.std.specs.Prelude.{Option}
use lib.Ieee.{Float}
use lib.ListN.{length, drop}
use Rattle.table.specs.Words.{table_in}
use Rattle.pooling.specs.declared.Block.{Block}
use Rattle.pooling.specs.Private.{spanning}
use Rattle.spread.proofs.Adding.{Added}
use Rattle.spread.proofs.Passing.{Passing}
use Rattle.spread.proofs.residual.Given as goal

pub record Adding (w : List ℕ) (last : Option Block) (sum : Float) (i : ℕ) : Type 0 where
  pub rest : List Block
  pub left : ℕ
  pub index : i + left ≡ length (table_in w)
  pub passing : Passing (drop (122 + 3 * i) w) last rest left
  pub added : Added (spanning (table_in w)) rest sum

abbrev pub invariant-loop-i : goal.invariant-loop-i
invariant-loop-i l = Adding l.place l.last l.sum l.i
