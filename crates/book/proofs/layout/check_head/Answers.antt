-- `check_head` meets its contract.
use native.Mathlib.Omega.{arith}
use Rattle.book.specs.Layout.{head_checks}
use Rattle.book.proofs.Checks.{found, none, pass, same, over, other, over_or}
use Rattle.book.proofs.layout.check_head.Goals as goal

pub returns-then-b-lt-HEAD : goal.returns-then-b-lt-HEAD
unfolding head_checks
returns-then-b-lt-HEAD c = found (over_or (λ h. other (λ e. grind arith)))

pub returns-then-raters-lt1 : goal.returns-then-raters-lt1
unfolding head_checks
returns-then-raters-lt1 c = found (pass (omega arith) (same (omega arith) (over_or (λ h. over_or (λ k. over (grind arith))))))

pub returns : goal.returns
unfolding head_checks
returns c = found (pass (omega arith) (same (omega arith) (pass (omega arith) (pass (omega arith) (pass (omega arith) none)))))
