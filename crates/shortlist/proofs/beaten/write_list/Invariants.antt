-- `write_list` meets its contract. The invariant is `Listing`.
use Rattle.shortlist.proofs.Writing.{Listing}
use Rattle.shortlist.proofs.beaten.write_list.Given as goal

abbrev pub invariant-loop-i : goal.invariant-loop-i
invariant-loop-i l = Listing l.beaten l.initial.out l.out l.count l.i
