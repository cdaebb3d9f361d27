-- `row_end` meets its contract.
use native.Mathlib.Omega.{arith}
use Rattle.shorter.proofs.row_end.Goals as goal

pub returns-else-j-size : goal.returns-else-j-size
returns-else-j-size c = record { few = omega arith; all = λ i n. omega (arith, n.first (omega arith)) }
