-- The pooled scale of a table is a table without empty grades.
use Prim.Native.Nat.{suc, ◌≤◌}
use mathlib.Core.List.{List, [], ◌∷◌, map}
use native.Mathlib.Omega.{arith}
use lib.ListN.{length, length-map}
use Rattle.table.specs.Table.{Table, Every, Occupied, Counted, Rated, InOrder, Sound, occupied}
use Rattle.table.proofs.Every.{every, map_every}
use Rattle.table.proofs.Occupied.{all-occupied, every_occupied, none_empty, occupied_few}
use Rattle.pooling.specs.Pool.{Block, single, join, front, pool, blocks, as_grade, pooled_scale}
use Rattle.pooling.proofs.Front.{front_cases}
use Rattle.pooling.proofs.Joined.{pooled_totals, blocks-occupied, blocks_counted}

pub front_length : (b : Block) (bs : List Block) → (1 ≤ length (front b bs)) × (length (front b bs) ≤ suc (length bs))
unfolding front
front_length b [] = omega arith
front_length b (c ∷ bs) =
    front_cases (λ l. (1 ≤ length l) × (length l ≤ suc (length (c ∷ bs)))) b c bs
    (λ _. omega arith)
    (λ _. let n = front_length (join b c) bs in omega arith)

pool_few : (t : Table) → length (pool t) ≤ length t
unfolding pool
pool_few [] = omega arith
pool_few (r ∷ t) = omega (arith, pool_few t, front_length (single r) (pool t))

pub pool_some : (t : Table) → 1 ≤ length t → 1 ≤ length (pool t)
unfolding pool
pool_some [] h = h
pool_some (r ∷ t) h = (front_length (single r) (pool t)).0

pub scale_occupied : (t : Table) → Every Occupied (pooled_scale t)
scale_occupied t = map_every Occupied as_grade (blocks t) (blocks-occupied (occupied t) (all-occupied t))

pub scale_counted : (t : Table) → Every Counted t → Every Counted (pooled_scale t)
scale_counted t h = map_every Counted as_grade (blocks t) (blocks_counted (occupied t) (every_occupied Counted t h))

-- no block announces a rate
level : (bs : List Block) → InOrder (map as_grade bs)
unfolding InOrder
level [] = tt
level (b ∷ []) = tt
level (b ∷ c ∷ bs) = (omega arith, level (c ∷ bs))

pub pooled_sound : (t : Table) → Sound t → Sound (pooled_scale t)
pooled_sound t sound =
    let some : 1 ≤ length (pooled_scale t) = rw length-map (pool_some (occupied t) sound.some_occupied) in
    record {
      some = some;
      few = rw length-map (omega (arith, pool_few (occupied t), occupied_few t, sound.few));
      some_occupied = rw (none_empty (pooled_scale t) (scale_occupied t)) some;
      counted = scale_counted t sound.counted;
      rated = map_every Rated as_grade (blocks t) (every (λ b. omega arith) (blocks t));
      in_order = level (blocks t);
      total = rw (pooled_totals t sound.counted).0 sound.total;
    }
