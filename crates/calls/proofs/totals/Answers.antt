-- `totals` meets its contract.
use mathlib.Core.Path.{sym, ap, ◌∙◌}
use native.Mathlib.Omega.{arith}
use Rattle.table.specs.Counts.{totals_of_lem}
use Rattle.pooled_place.proofs.Words.{long_pooled, counts_lent, counts_same}
use Rattle.calls.proofs.Answered.{accepts}
use Rattle.calls.proofs.Asked.{ready_pooled}
use Rattle.calls.proofs.totals.Goals as goal

pub is_loaded-requires : goal.is_loaded-requires
is_loaded-requires c = omega (arith, long_pooled c.requires)

pub counts_of-requires : goal.counts_of-requires
counts_of-requires c = long_pooled c.requires

pub totals_of-requires : goal.totals_of-requires
totals_of-requires c = counts_lent (ready_pooled _ c.requires c.is_loaded.ensures c.if-not-is_loaded.false).holds c.counts_of.ensures

pub returns : goal.returns
returns c =
    accepts (sym (ready_pooled _ c.requires c.is_loaded.ensures c.if-not-is_loaded.false).loaded)
    (c.totals_of.ensures ∙ ap totals_of_lem (counts_same c.args.place.now c.counts_of.ensures))
