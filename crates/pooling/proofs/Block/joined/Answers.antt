-- `joined` meets its contract.
use Prim.Native.Nat.{◌+◌}
use mathlib.Core.Path.{◌≡◌}
use Rattle.pooling.proofs.Block.joined.Goals as goal

pub returns : goal.returns
returns c =
    let b = c.args in
    let both : c.plus.result.0 ≡ b.self.obligors.0 + b.next.obligors.0 = c.plus.ensures in
    rw (← both)
