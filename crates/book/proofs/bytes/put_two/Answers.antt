-- `put_two` meets its contract.
use mathlib.Core.Path.{◌≡◌, ◌∙◌}
use native.Mathlib.Omega.{arith}
use Rattle.book.specs.Bytes.{two_bytes}
use Rattle.book.proofs.Stored.{part_stored}
use Rattle.book.proofs.bytes.put_two.Goals as goal

pub returns : goal.returns
unfolding two_bytes
returns c =
    let v : c.copy_from_slice.new.self ≡ two_bytes c.args.n = c.copy_from_slice.ensures.after ∙ rw c.to_le_bytes.ensures in
    rw v (part_stored _ (two_bytes c.args.n) _ _ (omega arith) (omega arith))
