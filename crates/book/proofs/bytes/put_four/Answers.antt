-- `put_four` meets its contract.
use Prim.Native.Nat.{ℕ, ◌/◌, ◌%◌}
use mathlib.Core.Path.{◌≡◌, ◌∙◌}
use mathlib.Core.List.{[], ◌∷◌}
use native.Mathlib.Omega.{arith}
use Rattle.book.specs.Bytes.{two_bytes, four_bytes}
use Rattle.book.proofs.Stored.{part_stored}
use Rattle.book.proofs.bytes.put_four.Goals as goal

-- byte by byte
each : (n : ℕ) → n % 256 ∷ n / 256 % 256 ∷ n / 65_536 % 256 ∷ n / 16_777_216 % 256 ∷ [] ≡ four_bytes n
unfolding two_bytes four_bytes
each n =
    let a : n % 65_536 % 256 ≡ n % 256 = omega arith in
    let b : n % 65_536 / 256 % 256 ≡ n / 256 % 256 = omega arith in
    let d : n / 65_536 / 256 ≡ n / 16_777_216 = omega arith in
    rw (a, b, d)

pub returns : goal.returns
unfolding two_bytes four_bytes
returns c =
    let v : c.copy_from_slice.new.self ≡ four_bytes c.args.n = c.copy_from_slice.ensures.after ∙ c.to_le_bytes.ensures ∙ each c.args.n in
    rw v (part_stored _ (four_bytes c.args.n) _ _ (omega arith) (omega arith))
