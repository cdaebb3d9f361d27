-- `judge` meets its contract: the lists are the blocks of the two tables, whose defaults and survivors count once.
use mathlib.Core.Path.{◌∙◌}
use Rattle.cutoff.proofs.Judged.{comparable, tables_judged}
use Rattle.cutoff.proofs.Once.{judges_once, verdict_once}
use Rattle.cutoff.proofs.judge.Goals as goal

pub judge_scales-requires : goal.judge_scales-requires
judge_scales-requires c =
    let pre = c.requires in
    let j = judges_once pre.tables.0.sound pre.tables.1.sound pre.defaults pre.survivors in
    let first = c.once.ensures.blocks ∙ c.as_slice.ensures ∙ c.listed_blocks.ensures in
    let second = c.once-2.ensures.blocks ∙ c.as_slice-2.ensures ∙ c.listed_blocks-2.ensures in
    rw (c.once.ensures.weights, c.once-2.ensures.weights) (comparable j first second)

pub returns : goal.returns
returns c =
    let pre = c.requires in
    let j = judges_once pre.tables.0.sound pre.tables.1.sound pre.defaults pre.survivors in
    let first = c.once.ensures.blocks ∙ c.as_slice.ensures ∙ c.listed_blocks.ensures in
    let second = c.once-2.ensures.blocks ∙ c.as_slice-2.ensures ∙ c.listed_blocks-2.ensures in
    verdict_once _ _ j.sound₁ j.sound₂ _
    (tables_judged j first second (rw (c.once.ensures.weights, c.once-2.ensures.weights) at c.judge_scales.ensures))
