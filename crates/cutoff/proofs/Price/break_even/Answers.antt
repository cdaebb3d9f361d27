-- `break_even` meets its contract.
use native.Mathlib.Omega.{arith}
use Rattle.cutoff.proofs.Price.break_even.Goals as goal

pub overflow_mul-result : goal.overflow_mul-result
overflow_mul-result c = rw c.survivors.ensures (omega (arith, c.requires.small.0))

pub returns : goal.returns
returns c = rw c.survivors.ensures
