-- `spread_of` meets its contract: D and S make N, and the sum over the blocks is that of the pooled scale.
use Prim.Native.Nat.{◌-◌}
use mathlib.Core.Path.{◌≡◌, ap, ◌∙◌}
use native.Mathlib.Omega.{arith}
use Rattle.table.specs.Table.{Table, defaults_in, survivors_in, obligors_in}
use Rattle.table.specs.Words.{table_in}
use Rattle.table.specs.Counts.{totals_of_lem}
use Rattle.table.proofs.Occupied.{someone}
use Rattle.table.proofs.Sums.{obligors_split}
use Rattle.pooling.specs.Pool.{blocks}
use Rattle.pooling.specs.Private.{spanning}
use Rattle.pooling.proofs.Spanning.{spanning_scale}
use Rattle.pooled_place.proofs.Words.{held-length, counts_lent, counts_same}
use Rattle.spread.proofs.Exact.{same_residual}
use Rattle.spread.proofs.spread_of.Goals as goal

pub counts_of-requires : goal.counts_of-requires
counts_of-requires c = held-length c.requires

pub totals_of-t-requires : goal.totals_of-t-requires
totals_of-t-requires c = counts_lent c.requires c.counts_of.ensures

pub quotient-requires : goal.quotient-requires
unfolding totals_of_lem
quotient-requires c =
    let table : Table = table_in c.args.place.now in
    let totals : c.totals_of-t.result ≡ totals_of_lem table = c.totals_of-t.ensures ∙ ap totals_of_lem (counts_same c.args.place.now c.counts_of.ensures) in
    let t = table in
    let sound = c.requires.sound in
    rw totals
    (record {
      defaults_le_obligors = omega (arith, obligors_split t sound.counted);
      le_obligors = someone t sound.some_occupied;
      obligors_bound = sound.total;
    })

pub returns : goal.returns
unfolding totals_of_lem
returns c =
    let table : Table = table_in c.args.place.now in
    let totals : c.totals_of-t.result ≡ totals_of_lem table = c.totals_of-t.ensures ∙ ap totals_of_lem (counts_same c.args.place.now c.counts_of.ensures) in
    let t = table in
    let left : obligors_in t - defaults_in t ≡ survivors_in t = omega (arith, obligors_split t c.requires.sound.counted) in
    record {
      total = rw (totals, left) at c.quotient.ensures;
      residual = rw (same_residual (spanning t) (blocks t) (spanning_scale t)) at c.residual.ensures;
    }
