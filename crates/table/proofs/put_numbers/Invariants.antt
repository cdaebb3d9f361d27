-- `put_numbers` meets its contract. The invariant: i of the numbers are stored.
use mathlib.Core.Path.{◌≡◌}
use lib.Seq.{paste}
use Rattle.table.proofs.put_numbers.Given as goal

abbrev pub invariant-loop-i : goal.invariant-loop-i
invariant-loop-i l = l.words ≡ paste l.initial.words l.at l.numbers l.i
