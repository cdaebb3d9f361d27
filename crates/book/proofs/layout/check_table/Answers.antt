-- `check_table` meets its contract.
use native.Mathlib.Omega.{arith}
use Rattle.std.proofs.lemmas.Grind.{common_steps}
use Rattle.book.specs.Layout.{table_checks}
use Rattle.book.proofs.Checks.{found, none, pass, same, over, other, over_or}
use Rattle.book.proofs.layout.check_table.Goals as goal

pub returns-then-start_of-at : goal.returns-then-start_of-at
unfolding table_checks
returns-then-start_of-at c = found (other (λ e. omega arith))

pub returns-then-b-at-lt-TABLE_HEAD : goal.returns-then-b-at-lt-TABLE_HEAD
unfolding table_checks
returns-then-b-at-lt-TABLE_HEAD c = found (same (omega arith) (over (omega arith)))

pub returns-then-grades-lt1 : goal.returns-then-grades-lt1
unfolding table_checks
returns-then-grades-lt1 c = found (same (omega arith) (pass (omega arith) (over_or (λ h. over (omega arith)))))

pub returns-then-byte_at-gt1 : goal.returns-then-byte_at-gt1
unfolding table_checks
returns-then-byte_at-gt1 c =
    found (same (omega arith) (pass (omega arith) (pass (omega arith) (pass (omega arith) (over_or (λ h. other (λ e. grind (arith, common_steps))))))))

pub returns-then-at-grades : goal.returns-then-at-grades
unfolding table_checks
returns-then-at-grades c =
    found (same (omega arith) (pass (omega arith) (pass (omega arith)
    (pass (omega arith) (pass (omega arith) (same (omega arith) (pass (omega arith) none)))))))

pub returns-else-at-grades : goal.returns-else-at-grades
unfolding table_checks
returns-else-at-grades c =
    found (same (omega arith) (pass (omega arith) (pass (omega arith)
    (pass (omega arith) (pass (omega arith) (same (omega arith) (over (omega arith))))))))
