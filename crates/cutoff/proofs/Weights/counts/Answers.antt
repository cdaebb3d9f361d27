-- `counts` meets its contract.
use native.Mathlib.Omega.{arith}
use Rattle.table.proofs.Arithmetic.{counts_fit}
use Rattle.cutoff.proofs.Weights.counts.Goals as goal

pub overflow_mul-result : goal.overflow_mul-result
overflow_mul-result c = let p = c.requires in counts_fit (omega (arith, p.light)) (omega (arith, p.counted))

pub overflow_mul-result-2 : goal.overflow_mul-result-2
overflow_mul-result-2 c =
    let p = c.requires in
    counts_fit (omega (arith, p.light)) (omega (arith, c.survivors-lost.ensures, p.counted))

pub returns : goal.returns
returns c = rw c.survivors-lost.ensures
