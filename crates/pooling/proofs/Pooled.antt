-- The pooled rates are monotone: one for each grade, and they never fall.
use Prim.Native.Nat.{ℕ, zero, suc}
use mathlib.Core.Path.{◌≡◌, refl}
use mathlib.Core.List.{List, [], ◌∷◌, ◌++◌}
use native.Mathlib.Omega.{arith}
use lib.ListN.{length, replicate, length-append, length-replicate}
use Rattle.table.specs.Table.{Table, Every, Occupied}
use Rattle.table.proofs.Every.{every_append, every_replicate}
use Rattle.pooling.specs.Pool.{Block, Rising, block_of}
use Rattle.pooling.specs.Fraction.{Fraction, Proper, ratio}
use Rattle.pooling.specs.Regression.{NeverFall, Monotone, rate_of, rates_in, pooled_rates}
use Rattle.pooling.proofs.Front.{pool_rising}
use Rattle.pooling.proofs.Runs.{Cut, none, more, Level, pool_level}

-- x may be repeated.
repeated : (k : ℕ) (x : Fraction) (q : List Fraction) → NeverFall (x ∷ q) → NeverFall (x ∷ (replicate k x ++ q))
unfolding NeverFall
repeated zero x q h = h
repeated (suc k) x q h = (omega arith, repeated k x q h)

never_fall : {P : Table → Type 0} {t : Table} {bs : List Block} → Cut P t bs → Rising bs → NeverFall (rates_in bs)
unfolding rates_in NeverFall Rising ratio
never_fall none h = tt
never_fall (more {t = t} f none) h = repeated (length t) _ [] tt
never_fall (more {t = t} f (more g k)) h = repeated (length t) _ _ (omega arith, never_fall (more g k) h.1)

proper : {t : Table} {bs : List Block} → Cut Level t bs → Every Proper (rates_in bs)
unfolding rates_in ratio
proper none = tt
proper (more {r} {t} {bs = bs} f k) =
    let rate : Fraction = rate_of (block_of (r ∷ t)) in
    (f.occupied, every_append Proper (replicate (length t) rate) (rates_in bs) (every_replicate Proper (length t) rate f.occupied) (proper k))

sized : {P : Table → Type 0} {t : Table} {bs : List Block} → Cut P t bs → length (rates_in bs) ≡ length t
unfolding rates_in
sized none = refl
sized (more f k) = simp (length-append, length-replicate, sized k)

pub pooled_monotone : (t : Table) → Every Occupied t → Monotone t (pooled_rates t)
pooled_monotone t h =
    let c = pool_level t h in
    record { sized = sized c; proper = proper c; climb = never_fall c (pool_rising t) }
