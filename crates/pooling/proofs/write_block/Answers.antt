-- `write_block` meets its contract.
use Prim.Native.Nat.{◌-◌}
use mathlib.Core.Path.{refl, sym}
use native.Mathlib.Numerals.{add-one}
use native.Mathlib.Omega.{arith}
use lib.ListN.{drop, length-set, take-append-drop}
use Rattle.pooling.specs.Band.{band_of}
use Rattle.pooling.specs.Numbers.{grades_of_lem}
use Rattle.pooling.proofs.Backwards.{put_three}
use Rattle.pooling.proofs.write_block.Goals as goal

pub loop-init : goal.loop-init
unfolding grades_of_lem
loop-init c = record { long = refl; count = omega arith; within = omega arith; same = sym (take-append-drop c.args.end c.args.out.now) }

pub loop-preserved : goal.loop-preserved
unfolding grades_of_lem
loop-preserved c =
    let x = c.args.x.now in
    let k = c.loop.counter in
    let rest = grades_of_lem x k (drop c.args.end c.args.out.now) in
    record {
      long = simp length-set c.loop.invariant.long;
      count = omega arith;
      within = omega arith;
      same =
          rw (add-one k, c.loop.invariant.same, c.requires.band)
          (put_three c.args.out.now rest c.loop.at (c.loop.at - 3) x.defaults x.obligors.0 (band_of x) (omega arith) (omega arith));
    }
