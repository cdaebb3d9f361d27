-- `words_at` meets its contract.
use Prim.Native.Nat.{ℕ}
use mathlib.Core.Path.{ap}
use lib.ListN.{take, drop}
use Rattle.desk_c.proofs.Parts.{span}
use Rattle.desk_c.proofs.image.words_at.Goals as goal

pub returns : goal.returns
returns c = let a = c.args in ap (λ (n : ℕ). take n (drop a.at a.desk.now)) (span a.at)
