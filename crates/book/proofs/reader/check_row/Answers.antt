-- `check_row` meets its contract.
use native.Mathlib.Omega.{arith}
use Rattle.book.specs.Rows.{row_checks, later_checks}
use Rattle.book.proofs.Checks.{found, none, pass, over}
use Rattle.book.proofs.reader.check_row.Goals as goal

pub returns-then-r : goal.returns-then-r
unfolding row_checks later_checks
returns-then-r c = found (over (omega arith))

pub returns-then-r-gt-PPM : goal.returns-then-r-gt-PPM
unfolding row_checks later_checks
returns-then-r-gt-PPM c = found (pass (omega arith) (over (omega arith)))

pub returns-then-r-before : goal.returns-then-r-before
unfolding row_checks later_checks
returns-then-r-before c = found (pass (omega arith) (pass (omega arith) (over (omega arith))))

pub returns : goal.returns
unfolding row_checks later_checks
returns c = found (pass (omega arith) (pass (omega arith) (pass (omega arith) none)))
