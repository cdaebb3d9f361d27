-- Pooling a scale without empty grades whose rates rise, as those of blocks do, changes no grade of it.
use mathlib.Core.Path.{◌≡◌, refl, ap}
use mathlib.Core.List.{List, [], ◌∷◌, map}
use Rattle.table.specs.Table.{Table, Every, Occupied}
use Rattle.table.proofs.Occupied.{none_empty}
use Rattle.pooling.specs.Pool.{Block, Rising, single, front, pool, as_grade, pooled_scale}
use Rattle.pooling.proofs.Front.{front_below}

-- the blocks of one grade each
abbrev singles : List Block → List Block
singles [] = []
singles (b ∷ bs) = single (as_grade b) ∷ singles bs

pool_again : (bs : List Block) → Rising bs → pool (map as_grade bs) ≡ singles bs
unfolding Rising pool front
pool_again [] h = refl
pool_again (b ∷ []) h = refl
pool_again (b ∷ c ∷ bs) h = rw (pool_again (c ∷ bs) h.1) (front_below (single (as_grade b)) (single (as_grade c)) (singles bs) h.0)

singles_grades : (bs : List Block) → map as_grade (singles bs) ≡ map as_grade bs
singles_grades [] = refl
singles_grades (b ∷ bs) = ap (λ (t : Table). as_grade b ∷ t) (singles_grades bs)

pub pooled_again : (bs : List Block) → Rising bs → Every Occupied (map as_grade bs) → pooled_scale (map as_grade bs) ≡ map as_grade bs
pooled_again bs h k = rw (none_empty (map as_grade bs) k, pool_again bs h) (singles_grades bs)
