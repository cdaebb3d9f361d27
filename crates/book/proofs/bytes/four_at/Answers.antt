-- `four_at` meets its contract.
use Prim.Native.Nat.{◌+◌}
use mathlib.Core.Path.{◌≡◌}
use native.Mathlib.Omega.{arith}
use Rattle.book.specs.Bytes.{two_at_lem, four_at_lem}
use Rattle.book.proofs.bytes.four_at.Goals as goal

pub returns : goal.returns
unfolding two_at_lem four_at_lem
returns c = let e : c.args.i + 2 + 1 ≡ c.args.i + 3 = omega arith in rw e (omega arith)
