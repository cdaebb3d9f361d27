-- `read_scales` meets its contract. The invariant is `Reading`.
use Rattle.shortlist.proofs.Reading.{Reading}
use Rattle.shortlist.proofs.scales.read_scales.Given as goal

abbrev pub invariant-loop-rater : goal.invariant-loop-rater
invariant-loop-rater l = Reading l.book l.held l.rater
