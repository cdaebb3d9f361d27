-- `two_at` meets its contract.
use native.Mathlib.Omega.{arith}
use Rattle.book.specs.Bytes.{two_at_lem}
use Rattle.book.proofs.bytes.two_at.Goals as goal

pub returns : goal.returns
unfolding two_at_lem
returns c = omega arith
