-- `write_blocks` meets its contract. The invariant: the blocks are those that are left and those that were passed; from `end` on stand the numbers of
-- these, and then the further ones; the last of those that are left has no band above the one in hand.
use Prim.Native.Nat.{ℕ, ◌+◌, ◌*◌, ◌≤◌}
use mathlib.Core.Path.{◌≡◌}
use mathlib.Core.List.{List, [], ◌∷◌, ◌++◌}
use lib.ListN.{length, take, drop}
use Rattle.pooling.specs.Pool.{Block}
use Rattle.pooling.specs.Private.{sum_of}
use Rattle.pooling.specs.Band.{band_of}
use Rattle.pooling.specs.Numbers.{numbers_of_lem}
use Rattle.pooling.proofs.write_blocks.Given as goal

pub record Written (bs left : List Block) (out₀ out : List ℕ) (end₀ end band : ℕ) : Type 0 where
  pub passed : List Block
  pub all : bs ≡ left ++ passed
  pub few : band ≤ 14
  pub most : (others : List Block) (x : Block) → left ≡ others ++ (x ∷ []) → band_of x ≤ band
  pub long : length out ≡ length out₀
  pub count : end + 3 * (sum_of passed).grades ≡ end₀
  pub same : out ≡ take end out₀ ++ numbers_of_lem passed (drop end₀ out₀)

abbrev pub invariant-loop-x : goal.invariant-loop-x
invariant-loop-x l =
    (goal.iterator-loop-x).can_next l.x-iterator × (goal.iterator-loop-x).is_finite l.x-iterator
    × Written l.blocks l.x-iterator.iter.rest.now l.initial.out l.out (3 * l.grades) l.end l.band
