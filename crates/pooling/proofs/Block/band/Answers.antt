-- `band` meets its contract. The invariant: the band is at most b.
use Prim.Native.Nat.{ℕ, ◌-◌, ◌*◌, ◌≤◌, ◌<◌}
use mathlib.Core.Path.{◌≡◌, subst}
use mathlib.Core.List.{List}
use native.Mathlib.Omega.{arith}
use lib.ListN.{length, get_or}
use Rattle.pooling.specs.Band.{band_limit}
use Rattle.pooling.specs.Limits.{listed_limits}
use Rattle.pooling.proofs.Bands.{band_at_most, band_above}
use Rattle.pooling.proofs.Limits.{limits_right}
use Rattle.pooling.proofs.Block.band.Goals as goal

-- The list that is lent has the limit of each band.
long : {limits : List ℕ} → limits ≡ listed_limits → length limits ≡ 14
long e = rw e limits_right.0

limit : {limits : List ℕ} (b : ℕ) → limits ≡ listed_limits → b < 14 → get_or limits b 0 ≡ band_limit b
limit b e h = rw e (limits_right.1 b h)

pub bounds-limits-b : goal.bounds-limits-b
bounds-limits-b c = omega (arith, long c.requires.limits)

pub returns-then-limits-b : goal.returns-then-limits-b
returns-then-limits-b c =
    let b = c.loop-b.b - 1 in
    let below = subst (λ (x : ℕ). x * c.args.self.obligors.0 < c.args.self.defaults * 1_000_000) (limit b c.requires.limits (omega arith)) c.if-limits-b.true in
    omega (arith, band_above c.args.self b (omega arith) below)

pub loop-b-preserved : goal.loop-b-preserved
loop-b-preserved c =
    let b = c.loop-b.b - 1 in
    let within = subst (λ (x : ℕ). c.args.self.defaults * 1_000_000 ≤ x * c.args.self.obligors.0) (limit b c.requires.limits (omega arith)) c.if-limits-b.false in
    (band_at_most c.args.self b within, omega arith)
