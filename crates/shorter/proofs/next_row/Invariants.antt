-- `next_row` meets its contract. The invariant: the row is filled before grade i.
use Rattle.shorter.proofs.Rows.{Filling}
use Rattle.shorter.proofs.next_row.Given as goal

abbrev pub invariant-loop-i : goal.invariant-loop-i
invariant-loop-i l = Filling l.sums l.size l.j l.i-end l.i l.values l.choices
