-- `never_dearer` meets its contract: what the search finds decides.
use Rattle.cutoff.proofs.Once.{opposed_once, never_once}
use Rattle.cutoff.proofs.never_dearer.Goals as goal

pub where_dearer-found-requires : goal.where_dearer-found-requires
where_dearer-found-requires c =
    let pre = c.requires in
    rw (c.once.ensures.weights, c.once-2.ensures.weights, c.once.ensures.blocks, c.once-2.ensures.blocks)
    (opposed_once pre.scales.0 pre.scales.1 pre.defaults pre.survivors)

pub returns : goal.returns
returns c =
    let pre = c.requires in
    never_once pre.scales.0 pre.scales.1 pre.defaults pre.survivors c.where_dearer-found.result
    (rw (c.once.ensures.weights, c.once-2.ensures.weights, c.once.ensures.blocks, c.once-2.ensures.blocks) at c.where_dearer-found.ensures)
    c.is_none.ensures
