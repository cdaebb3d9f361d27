-- Joining keeps the counts: the blocks hold all grades, obligors and defaults of the table, and are occupied and counted as its grades are.
use Prim.Native.Nat.{◌≤◌}
use mathlib.Core.Path.{◌≡◌, refl, ap, ◌∙◌}
use mathlib.Core.List.{List, [], ◌∷◌, ◌++◌, map}
use native.Mathlib.Nat.{add_assoc}
use native.Mathlib.Numerals.{one-add}
use native.Mathlib.Omega.{arith}
use lib.ListN.{length}
use Rattle.table.specs.Table.{Table, Every, Occupied, Counted, occupied, defaults_in, obligors_in}
use Rattle.table.proofs.Occupied.{same_counts}
use Rattle.pooling.specs.Pool.{Block, single, join, front, pool, blocks, as_grade, pooled_scale, block_of}
use Rattle.pooling.specs.Private.{sum_of}
use Rattle.pooling.proofs.Front.{front_cases, pool_every}

join_assoc : (a b c : Block) → join (join a b) c ≡ join a (join b c)
join_assoc a b c = simp add_assoc

pub sum-front : (b : Block) (bs : List Block) → sum_of (front b bs) ≡ join b (sum_of bs)
unfolding sum_of front
sum-front b [] = refl
sum-front b (c ∷ bs) =
    front_cases (λ l. sum_of l ≡ join b (join c (sum_of bs))) b c bs
    (λ _. refl)
    (λ _. sum-front (join b c) bs ∙ join_assoc b c (sum_of bs))

pub sum-pool : (t : Table) → sum_of (pool t) ≡ block_of t
unfolding sum_of pool obligors_in defaults_in
sum-pool [] = refl
sum-pool (r ∷ t) = sum-front (single r) (pool t) ∙ rw (sum-pool t, one-add)

pub grades_count : (t : Table) → (sum_of (pool t)).grades ≡ length t
grades_count t = ap (λ b. b.grades) (sum-pool t)

-- Some of the blocks have no more grades than all.
pub grades_behind : (others bs : List Block) → (sum_of bs).grades ≤ (sum_of (others ++ bs)).grades
unfolding sum_of
grades_behind [] bs = omega arith
grades_behind (b ∷ others) bs = omega (arith, grades_behind others bs)

-- The pooled scale has the totals of the table.

scale_totals : (bs : List Block) → (obligors_in (map as_grade bs) ≡ (sum_of bs).obligors.0) × (defaults_in (map as_grade bs) ≡ (sum_of bs).defaults)
unfolding sum_of obligors_in defaults_in
scale_totals [] = (refl, refl)
scale_totals (b ∷ bs) = let (n, d) = scale_totals bs in (rw n, rw d)

pub pooled_totals : (t : Table) → Every Counted t → (obligors_in (pooled_scale t) ≡ obligors_in t) × (defaults_in (pooled_scale t) ≡ defaults_in t)
pooled_totals t counted =
    let (n, d) = scale_totals (blocks t) in
    let e = sum-pool (occupied t) in
    let same = same_counts t counted in
    (n ∙ ap (λ b. b.obligors.0) e ∙ same.obligors, d ∙ ap (λ b. b.defaults) e ∙ same.defaults)

-- Every block.

pub blocks-occupied : (t : Table) → Every Occupied t → Every (λ b. 1 ≤ b.obligors.0) (pool t)
blocks-occupied t h = pool_every (λ b. 1 ≤ b.obligors.0) (λ b c p q. omega arith) t h

pub blocks_counted : (t : Table) → Every Counted t → Every (λ b. b.defaults ≤ b.obligors.0) (pool t)
blocks_counted t h = pool_every (λ b. b.defaults ≤ b.obligors.0) (λ b c p q. omega arith) t h
