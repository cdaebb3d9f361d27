-- `band` meets its contract. The invariant: the band is at most b.
use Prim.Native.Nat.{◌≤◌}
use Rattle.pooling.specs.Band.{band_of}
use Rattle.pooling.proofs.Block.band.Given as goal

abbrev pub invariant-loop-b : goal.invariant-loop-b
invariant-loop-b l = (band_of l.self ≤ l.b) × (l.b ≤ 14)
