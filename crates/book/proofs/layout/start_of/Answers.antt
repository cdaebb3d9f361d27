-- `start_of` meets its contract.
use Prim.Native.Nat.{◌+◌, ◌-◌, ◌*◌}
use mathlib.Core.Path.{◌≡◌}
use native.Mathlib.Omega.{arith}
use Rattle.book.proofs.layout.start_of.Goals as goal

pub returns : goal.returns
returns c =
    let j = c.args.j in
    let e : 4 + 2 * (j - 1) ≡ 2 + 2 * j = omega arith in
    rw e at c.two_at.ensures.0
