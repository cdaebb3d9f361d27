-- `check_entry` meets its contract.
use native.Mathlib.Omega.{arith}
use Rattle.book.proofs.Checks.{found, none, pass, over}
use Rattle.events.proofs.check_entry.Goals as goal

pub returns-then-obligors_of-lt-OBLIGORS : goal.returns-then-obligors_of-lt-OBLIGORS
returns-then-obligors_of-lt-OBLIGORS c = found (pass (omega arith) none)

pub returns-else-obligors_of-lt-OBLIGORS : goal.returns-else-obligors_of-lt-OBLIGORS
returns-else-obligors_of-lt-OBLIGORS c = found (over (omega arith))
