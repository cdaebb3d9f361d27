-- `turning_away` meets its contract. The invariant is `Turning`; each turn takes one block.
use mathlib.Core.Path.{sym, ◌∙◌}
use Rattle.cutoff.proofs.Odds.{rising_odds}
use Rattle.cutoff.proofs.Sweep.{turning_next, turning_done, turning_small, turning_stops, turning_on, turning_fits}
use Rattle.cutoff.proofs.Lead.turning_away.Goals as goal

pub counts-next-requires-clause-counted : goal.counts-next-requires-clause-counted
counts-next-requires-clause-counted c = (turning_next c.loop-block.invariant c.requires.scale.0 c.in-Some.ensures.steps).counted

pub turns_away-requires : goal.turns_away-requires
turns_away-requires c =
    let on = c.loop-block.invariant in
    turning_small on (turning_next on c.requires.scale.0 c.in-Some.ensures.steps) c.counts-next.ensures c.requires.small

pub returns-then-not-turns_away : goal.returns-then-not-turns_away
returns-then-not-turns_away c =
    let known = c.requires.scale.0 in
    let on = c.loop-block.invariant in
    turning_stops on (turning_next on known c.in-Some.ensures.steps) c.counts-next.ensures (rising_odds _ known.rising known.counted)
    (sym c.turns_away.ensures ∙ c.if-not-turns_away.true)

pub with-lead-requires : goal.with-lead-requires
with-lead-requires c =
    let p = c.requires.scale in
    let on = c.loop-block.invariant in
    let fits = turning_fits on (turning_next on p.0 c.in-Some.ensures.steps) c.counts-next.ensures p.0 p.1.0 p.1.1 in
    record { some = fits.0; few = fits.1.0; small = fits.1.1 }

pub loop-block-preserved : goal.loop-block-preserved
loop-block-preserved c =
    let on = c.loop-block.invariant in
    turning_on on (turning_next on c.requires.scale.0 c.in-Some.ensures.steps) c.counts-next.ensures
    (sym c.turns_away.ensures ∙ c.if-not-turns_away.false) c.with-lead.ensures

pub returns : goal.returns
returns c = turning_done c.loop-block.invariant c.in-None.ensures.steps.0
