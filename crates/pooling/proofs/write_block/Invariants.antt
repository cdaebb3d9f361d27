-- `write_block` meets its contract. The invariant: from `at` on stand as many grades of the block as were written, and then what stood from `end` on.
use Prim.Native.Nat.{ℕ, ◌+◌, ◌*◌, ◌≤◌}
use mathlib.Core.Path.{◌≡◌}
use mathlib.Core.List.{List, ◌++◌}
use lib.ListN.{length, take, drop}
use Rattle.pooling.specs.Pool.{Block}
use Rattle.pooling.specs.Numbers.{grades_of_lem}
use Rattle.pooling.proofs.write_block.Given as goal

pub record Written (x : Block) (end : ℕ) (out₀ out : List ℕ) (at k : ℕ) : Type 0 where
  pub long : length out ≡ length out₀
  pub count : at + 3 * k ≡ end
  pub within : k ≤ x.grades
  pub same : out ≡ take at out₀ ++ grades_of_lem x k (drop end out₀)

abbrev pub invariant-loop : goal.invariant-loop
invariant-loop l = Written l.x l.end-2 l.initial.out l.out l.at l.counter
