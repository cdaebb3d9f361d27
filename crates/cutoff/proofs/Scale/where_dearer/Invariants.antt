-- `where_dearer` meets its contract. The invariant is `Swept`; each turn takes one block of the first.
use Rattle.cutoff.specs.Sweep.{scale_in}
use Rattle.cutoff.proofs.Sweep.{Swept}
use Rattle.cutoff.proofs.Scale.where_dearer.Given as goal

abbrev pub invariant-loop-block : goal.invariant-loop-block
invariant-loop-block l = Swept l.self.weights l.other.weights l.self.blocks.now (scale_in l.other.blocks.now) l.block-iterator.iter.rest.now l.lead
