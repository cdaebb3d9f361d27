-- `blocks_in` meets its contract. The invariant: the grades from grade i on are read, as the block in hand and those that stand.
use Prim.Native.Nat.{ℕ, ◌+◌, ◌-◌, ◌*◌, ◌≤◌, ◌<◌}
use mathlib.Core.Path.{◌≡◌}
use mathlib.Core.List.{List, ◌∷◌}
use lib.ListN.{length, drop}
use Rattle.pooling.specs.Pool.{Block}
use Rattle.pooling.specs.Private.{listed, runs_in}
use Rattle.pooling.proofs.blocks_in.Given as goal

pub record Passed (numbers : List ℕ) (grades i : ℕ) (x : Block) (stored : List Block) : Type 0 where
  pub inside : i < grades
  pub runs : runs_in (grades - i) (drop (3 * i) numbers) ≡ x ∷ stored
  pub high : length stored + i < 40
  pub few : x.grades ≤ grades - i

abbrev pub invariant-loop-i : goal.invariant-loop-i
invariant-loop-i l = Passed l.numbers l.grades l.i l.x (listed l.blocks)
