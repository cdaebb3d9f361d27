-- `check_total` meets its contract.
use native.Mathlib.Omega.{arith}
use Rattle.book.proofs.Checks.{found, none, pass, over}
use Rattle.book.proofs.reader.check_total.Goals as goal

pub returns-then-total-lt1 : goal.returns-then-total-lt1
returns-then-total-lt1 c = found (over (omega arith))

pub returns-then-total : goal.returns-then-total
returns-then-total c = found (pass (omega arith) (over (omega arith)))

pub returns : goal.returns
returns c = found (pass (omega arith) (pass (omega arith) none))
