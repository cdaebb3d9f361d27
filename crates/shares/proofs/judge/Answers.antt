-- `judge` meets its contract: the lists are the blocks of the two tables, each in the weights of the other's totals.
use mathlib.Core.Path.{◌∙◌}
use Rattle.table.specs.Words.{table_in}
use Rattle.cutoff.specs.Sweep.{Comparable}
use Rattle.cutoff.proofs.Judged.{comparable, swapped, found_small, tables_judged, verdict_is}
use Rattle.shares.proofs.Judged.{Holds, judges, judged_by_shares}
use Rattle.shares.proofs.judge.Goals.{After-as_slice-2}
use Rattle.shares.proofs.judge.Goals as goal

-- The two tables.
held : (c : After-as_slice-2)
    → Holds c.weights_of-weights2.result c.args.totals1 (table_in c.args.first.now)
    × Holds c.weights_of-weights1.result c.args.totals2 (table_in c.args.second.now)
held c =
    let pre = c.requires in (
      record { weights = c.weights_of-weights2.ensures; totals = pre.totals.0; shareable = pre.shareable.0 },
      record { weights = c.weights_of-weights1.ensures; totals = pre.totals.1; shareable = pre.shareable.1 },
    )

-- The two scales, as they are searched.
scales : (c : After-as_slice-2) → Comparable c.weights_of-weights1.result c.weights_of-weights2.result c.as_slice.result.now c.as_slice-2.result.now
scales c =
    let h = held c in
    comparable (judges h.0 h.1) (c.as_slice.ensures ∙ c.listed_blocks.ensures) (c.as_slice-2.ensures ∙ c.listed_blocks-2.ensures)

pub where_dearer-first_found-requires : goal.where_dearer-first_found-requires
where_dearer-first_found-requires c = (scales (goal.at.where_dearer-first_found-requires c).After-as_slice-2).opposed

pub where_dearer-second_found-requires : goal.where_dearer-second_found-requires
where_dearer-second_found-requires c = swapped (scales (goal.at.where_dearer-second_found-requires c).After-as_slice-2).opposed

pub at_break_even-first_dearer-requires : goal.at_break_even-first_dearer-requires
at_break_even-first_dearer-requires c =
    let k = scales (goal.at.at_break_even-first_dearer-requires c).After-as_slice-2 in
    found_small k.opposed k.small.0 _ c.where_dearer-first_found.ensures

pub at_break_even-second_dearer-requires : goal.at_break_even-second_dearer-requires
at_break_even-second_dearer-requires c =
    let k = scales (goal.at.at_break_even-second_dearer-requires c).After-as_slice-2 in
    found_small (swapped k.opposed) k.small.1 _ c.where_dearer-second_found.ensures

pub returns : goal.returns
returns c =
    let at = goal.at.returns c in
    let h = held at.After-as_slice-2 in
    judged_by_shares h.0 h.1
    (tables_judged (judges h.0 h.1) (c.as_slice.ensures ∙ c.listed_blocks.ensures) (c.as_slice-2.ensures ∙ c.listed_blocks-2.ensures)
    (verdict_is (scales at.After-as_slice-2)
    (record { block = _; finds = c.where_dearer-first_found.ensures; prices = c.at_break_even-first_dearer.ensures })
    (record { block = _; finds = c.where_dearer-second_found.ensures; prices = c.at_break_even-second_dearer.ensures })
    c.of.ensures))
