-- `turning_away` meets its contract. The invariant is `Turning`; each turn takes one block.
use Rattle.cutoff.proofs.Sweep.{Turning}
use Rattle.cutoff.proofs.Lead.turning_away.Given as goal

abbrev pub invariant-loop-block : goal.invariant-loop-block
invariant-loop-block l = Turning l.second.weights l.at l.second.blocks.now l.initial.lead l.block-iterator.iter.rest.now l.lead
