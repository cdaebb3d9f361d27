-- `judge_scales` meets its contract: the two searches make the verdict.
use Rattle.cutoff.proofs.Judged.{verdict_is}
use Rattle.cutoff.proofs.judge_scales.Goals as goal

pub returns : goal.returns
returns c = verdict_is c.requires c.dearer_than-first_dearer.ensures c.dearer_than-second_dearer.ensures c.of.ensures
