-- `check_firm` meets its contract.
use native.Mathlib.Omega.{arith}
use Rattle.book.proofs.Checks.{found, none, pass, over}
use Rattle.events.proofs.check_firm.Goals as goal

pub returns-then-firms-eq0 : goal.returns-then-firms-eq0
returns-then-firms-eq0 c = found (over (omega arith))

pub returns : goal.returns
returns c = found (pass (omega arith) none)
