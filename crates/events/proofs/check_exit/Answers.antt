-- `check_exit` meets its contract.
use native.Mathlib.Omega.{arith}
use Rattle.book.proofs.Checks.{found, none, pass, over, over_or}
use Rattle.events.proofs.check_exit.Goals as goal

pub returns-then-firms-eq0 : goal.returns-then-firms-eq0
returns-then-firms-eq0 c = found (over_or (λ h. over (grind arith)))

pub returns : goal.returns
returns c = found (pass (omega arith) (pass (omega arith) none))
