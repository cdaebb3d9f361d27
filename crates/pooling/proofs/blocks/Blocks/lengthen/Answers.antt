-- `lengthen` meets its contract.
use Prim.Native.Nat.{ℕ, ◌+◌, ◌<◌}
use mathlib.Core.Path.{ap}
use mathlib.Core.List.{◌∷◌}
use native.Mathlib.Omega.{arith}
use lib.ListN.{length, get_or, length-drop, drop}
use Rattle.std.proofs.lemmas.List.{drop_more, drop-set}
use Rattle.pooling.specs.Private.{block, lengthened, sum_of}
use Rattle.pooling.proofs.blocks.Blocks.lengthen.Goals as goal

-- The first of the blocks that stand is the one at `start`.
pub overflow_add-self : goal.overflow_add-self
unfolding sum_of
overflow_add-self c =
    let items = c.args.self.now.items in
    let start = c.args.self.now.start in
    let within : start < length items = omega (arith, length-drop start items, c.requires.some) in
    let first = drop_more items start (block 0 0 0) in
    let few = rw first at c.requires.few in
    omega arith

pub returns : goal.returns
unfolding lengthened
returns c =
    let items = c.args.self.now.items in
    let start = c.args.self.now.start in
    let within : start < length items = omega (arith, length-drop start items, c.requires.some) in
    let first = get_or items start (block 0 0 0) in
    rw (drop_more items start (block 0 0 0))
    (rw (drop-set items start _ within)
    (ap (λ (n : ℕ). block n first.obligors.0 first.defaults ∷ drop (start + 1) items) (omega arith)))
