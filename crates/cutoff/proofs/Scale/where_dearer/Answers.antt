-- `where_dearer` meets its contract. The invariant is `Swept`; each turn takes one block of the first.
use borrow.Author.Rules.{rules}
use Rattle.cutoff.proofs.Sweep.{none_swept, swept_next, swept_all}
use Rattle.cutoff.proofs.Sweep.{is_lead, fewer_at, small₂, few_at, costs_fitting, passed_fitting, found, passes}
use Rattle.cutoff.proofs.Scale.where_dearer.Goals as goal

pub loop-block-init : goal.loop-block-init
loop-block-init c = none_swept _ _ _ _ c.none-lead.ensures (search rules)

pub counts-at-requires : goal.counts-at-requires
counts-at-requires c =
    let k = c.requires in
    record { light = k.light₁; counted = (swept_next k.sweepable₁ c.loop-block.invariant c.in-Some.ensures.steps).counted }

pub turning_away-lead-requires : goal.turning_away-lead-requires
turning_away-lead-requires c =
    let k = c.requires in
    let inv = c.loop-block.invariant in
    let next = swept_next k.sweepable₁ inv c.in-Some.ensures.steps in
    let at = c.counts-at.ensures in
    record { scale = (k.sweepable₂, (k.light₂, is_lead k inv next at)); fewer = fewer_at k inv next at; small = small₂ k inv next at }

pub shows_dearer-requires : goal.shows_dearer-requires
shows_dearer-requires c =
    let k = c.requires in
    let inv = c.loop-block.invariant in
    let next = swept_next k.sweepable₁ inv c.in-Some.ensures.steps in
    let at = c.counts-at.ensures in
    record { few = few_at k inv next at; small = costs_fitting k inv next at c.turning_away-lead.ensures }

pub returns-then-shows_dearer : goal.returns-then-shows_dearer
returns-then-shows_dearer c =
    let k = c.requires in
    let inv = c.loop-block.invariant in
    found k inv (swept_next k.sweepable₁ inv c.in-Some.ensures.steps) c.counts-at.ensures c.turning_away-lead.ensures c.shows_dearer.ensures
    c.if-shows_dearer.true

pub passed-lead-requires : goal.passed-lead-requires
passed-lead-requires c =
    let k = c.requires in
    let inv = c.loop-block.invariant in
    let next = swept_next k.sweepable₁ inv c.in-Some.ensures.steps in
    let at = c.counts-at.ensures in
    record { few = few_at k inv next at; small = passed_fitting k inv next at c.turning_away-lead.ensures }

pub loop-block-preserved : goal.loop-block-preserved
loop-block-preserved c =
    let k = c.requires in
    let inv = c.loop-block.invariant in
    passes k inv (swept_next k.sweepable₁ inv c.in-Some.ensures.steps) c.counts-at.ensures c.turning_away-lead.ensures c.shows_dearer.ensures
    c.if-shows_dearer.false c.passed-lead.ensures

pub returns : goal.returns
returns c = swept_all c.loop-block.invariant c.in-None.ensures.steps.0
