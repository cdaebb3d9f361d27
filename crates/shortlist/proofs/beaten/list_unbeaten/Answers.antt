-- `list_unbeaten` meets its contract. The invariant: each of the first j raters is compared with those before it.
use mathlib.Core.Path.{◌≡◌, refl}
use native.Mathlib.Numerals.{add-one}
use native.Mathlib.Omega.{arith}
use lib.ListN.{length}
use Rattle.shortlist.specs.Private.{beats, all_compared}
use Rattle.shortlist.proofs.beaten.list_unbeaten.Goals as goal

pub loop-j-init : goal.loop-j-init
unfolding all_compared
loop-j-init c = refl

pub loop-j-preserved : goal.loop-j-preserved
unfolding all_compared
loop-j-preserved c = rw (add-one c.loop-j.j, ← c.loop-j.invariant) c.compare_with.ensures

pub returns : goal.returns
returns c =
    let w = c.write_list.ensures in
    let l = c.loop-j in
    let held = c.args.held.now in
    let e : l.j ≡ length held = omega arith in
    let m : l.beaten ≡ all_compared (beats held) (length held) = rw e at l.invariant in
    record { value = rw m at w.value; out_after = rw m at w.out_after }
