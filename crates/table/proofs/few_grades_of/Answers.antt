-- `few_grades_of` meets its contract.
use native.Mathlib.Omega.{arith}
use Rattle.table.proofs.Words.{few_in}
use Rattle.table.proofs.few_grades_of.Goals as goal

pub returns : goal.returns
returns c = omega (arith, c.min.ensures, few_in c.requires)
