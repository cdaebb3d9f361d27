-- `put_before` meets its contract.
use Prim.Native.Nat.{◌<◌}
use mathlib.Core.Path.{◌≡◌, sym, ap, ◌∙◌}
use mathlib.Core.Bool.{true, false}
use mathlib.Core.List.{List, [], ◌∷◌}
use native.Mathlib.Omega.{arith}
use lib.ListN.{length, drop_of_length-le}
use Rattle.std.proofs.lemmas.List.{drop_more}
use Rattle.pooling.specs.Pool.{Block, join, rate_below, front}
use Rattle.pooling.specs.Private.{Fitting, sum_of, block}
use Rattle.pooling.proofs.blocks.Blocks.put_before.Invariants.{Joining}
use Rattle.pooling.proofs.blocks.Blocks.put_before.Goals.{else-loop-at-test, then-loop-at-test+then-is_below}
use Rattle.pooling.proofs.blocks.Blocks.put_before.Goals as goal

-- There is a next block x, and `others` behind it.
module _ {all : List Block} {b x : Block} {rest others : List Block} (split : rest ≡ x ∷ others) (inv : Joining all b rest) where
  both : Fitting (join b (join x (sum_of others)))
  unfolding sum_of
  both = rw split at inv.fits

  joins : rate_below b x ≡ false → Joining all (join b x) others
  unfolding front
  joins e = record {
    room = omega (arith, ap length split, inv.room);
    fits = let f = both in omega arith;
    same = rw (split, e) at inv.same;
  }

  below : rate_below b x ≡ true → b ∷ rest ≡ all
  unfolding front
  below e = rw split (rw (split, e) at inv.same)

alone : {all : List Block} {b : Block} {rest : List Block} → rest ≡ [] → Joining all b rest → b ∷ rest ≡ all
unfolding front
alone none inv = rw none (rw none at inv.same)

pub joined-b-requires : goal.joined-b-requires
joined-b-requires c =
    let items = c.args.self.now.items in
    let at = c.loop-at.at in
    let within : at < length items = omega arith in
    let f = both (drop_more items at (block 0 0 0) within) c.loop-at.invariant.1 in
    record { grades = omega arith; obligors = omega arith; defaults = omega arith }

pub loop-at-preserved : goal.loop-at-preserved
loop-at-preserved c =
    let items = c.args.self.now.items in
    let at = c.loop-at.at in
    let within : at < length items = omega arith in
    let not_below = sym c.is_below.ensures ∙ c.if-is_below.false in
    (omega arith, rw c.joined-b.ensures (joins (drop_more items at (block 0 0 0) within) c.loop-at.invariant.1 not_below))

pub returns : goal.returns
returns c =
    let inv = c.loop-at.invariant.1 in
    let items = c.args.self.now.items in
    let at = c.loop-at.at in
    -- Where no join is made, there is no other block, or the rate is below that of the next.
    c.push.ensures ∙ elim c.loop-at-test.branch [
      | else-loop-at-test w ↦ alone (drop_of_length-le items {i = at} (omega (arith, w.loop-at-test.false))) inv
      | then-loop-at-test+then-is_below w ↦
          let more = drop_more items at (block 0 0 0) (omega (arith, w.loop-at-test.true)) in
          below more inv (sym w.is_below.ensures ∙ w.if-is_below.true)
    ]
