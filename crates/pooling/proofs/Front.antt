-- Joining blocks: a goal about `front` by its two outcomes, the rates that it makes rise, and what it keeps of every block.
use Prim.Native.Nat.{◌*◌, ◌≤◌}
use mathlib.Core.Path.{◌≡◌}
use mathlib.Core.List.{List, [], ◌∷◌, ◌++◌}
use borrow.Author.Tests.{lt-ltb}
use lib.Dec.{ltb→lt, nltb→le}
use Rattle.table.specs.Table.{Table, Every}
use Rattle.table.proofs.Test.{by-test}
use Rattle.pooling.specs.Pool.{Block, single, join, RateBelow, rate_below, front, pool, Rising}

-- the rate of c is at most that of b
abbrev pub AtMostRate : Block → Block → Type 0
AtMostRate c b = c.defaults * b.obligors.0 ≤ b.defaults * c.obligors.0

-- The block stays in front, or joins the next.
pub front_cases : (P : List Block → Type 0) (b c : Block) (bs : List Block)
    → (RateBelow b c → P (b ∷ c ∷ bs)) → (AtMostRate c b → P (front (join b c) bs)) → P (front b (c ∷ bs))
unfolding front
front_cases P b c bs stays joins = by-test P (rate_below b c) (λ x. stays (ltb→lt _ _ x)) (λ x. joins (nltb→le _ _ x))

-- It stays where its rate is below.
pub front_below : (b c : Block) (bs : List Block) → RateBelow b c → front b (c ∷ bs) ≡ b ∷ c ∷ bs
unfolding front
front_below b c bs h = rw (lt-ltb (b.defaults * c.obligors.0) (c.defaults * b.obligors.0) h)

-- The rates rise.

pub rising_tail : (b : Block) (bs : List Block) → Rising (b ∷ bs) → Rising bs
unfolding Rising
rising_tail b [] h = tt
rising_tail b (c ∷ bs) h = h.1

-- Neighbours among them.
pub rising_at : (others : List Block) (b c : Block) (bs : List Block) → Rising (others ++ b ∷ c ∷ bs) → RateBelow b c
unfolding Rising
rising_at [] b c bs h = h.0
rising_at (a ∷ others) b c bs h = rising_at others b c bs (rising_tail a (others ++ b ∷ c ∷ bs) h)

front_rising : (b : Block) (bs : List Block) → Rising bs → Rising (front b bs)
unfolding Rising front
front_rising b [] h = tt
front_rising b (c ∷ bs) h =
    front_cases Rising b c bs (λ l. (l, h)) (λ _. front_rising (join b c) bs (rising_tail c bs h))

pub pool_rising : (t : Table) → Rising (pool t)
unfolding Rising pool
pool_rising [] = tt
pool_rising (r ∷ t) = front_rising (single r) (pool t) (pool_rising t)

-- What joining keeps holds of every block if it holds of every grade.
module _ (P : Block → Type 0) (joined : (b c : Block) → P b → P c → P (join b c)) where
  pub front_every : (b : Block) (bs : List Block) → P b → Every P bs → Every P (front b bs)
  unfolding front
  front_every b [] p h = (p, tt)
  front_every b (c ∷ bs) p h =
      front_cases (Every P) b c bs (λ _. (p, h)) (λ _. front_every (join b c) bs (joined b c p h.0) h.1)

  pub pool_every : (t : Table) → Every (λ r. P (single r)) t → Every P (pool t)
  unfolding pool
  pool_every [] h = tt
  pool_every (r ∷ t) h = front_every (single r) (pool t) h.0 (pool_every t h.1)
