-- The blocks cut the table into runs of neighbouring grades, and no tail of a run has a higher default rate than the run.
use Prim.Native.Nat.{◌+◌, ◌*◌, ◌≤◌}
use mathlib.Core.Path.{◌≡◌, refl}
use mathlib.Core.List.{List, [], ◌∷◌, ◌++◌, append_assoc}
use native.Mathlib.Nat.{add-zero, mul-le-mul_left, mul-le-mul_right, le_of_mul-le-mul_left}
use native.Mathlib.Omega.{arith}
use lib.ListN.{length-append}
use lib.Seq.{take-append_seam, drop-append_seam}
use Rattle.table.specs.Table.{Table, Grade, Every, Occupied, defaults_in, obligors_in}
use Rattle.table.proofs.Arithmetic.{rearrange}
use Rattle.table.proofs.Every.{every, every_map}
use Rattle.table.proofs.Sums.{defaults_append, obligors_append}
use Rattle.pooling.specs.Pool.{Block, single, join, front, pool, block_of, Runs}
use Rattle.pooling.proofs.Front.{AtMostRate, front_cases}

-- The block of some grades.

block-single : (r : Grade) → block_of (r ∷ []) ≡ single r
unfolding obligors_in defaults_in
block-single r = simp add-zero

block_append : (t u : Table) → block_of (t ++ u) ≡ join (block_of t) (block_of u)
block_append t u = rw (length-append, obligors_append, defaults_append)

-- The cut.

-- The table is a row of runs, P holds of each, and the blocks are theirs.
pub data Cut (P : Table → Type 0) : Table → List Block → Type 0 where
  none : Cut P [] []
  more : {r : Grade} {t u : Table} {bs : List Block} → P (r ∷ t) → Cut P u bs → Cut P (r ∷ t ++ u) (block_of (r ∷ t) ∷ bs)

-- What holds of single grades and is kept where two runs are joined holds of every run.
module _ (P : Table → Type 0) (joined : (t u : Table) → P t → P u → AtMostRate (block_of u) (block_of t) → P (t ++ u)) where
  cut_front : {r : Grade} {t u : Table} {bs : List Block} → P (r ∷ t) → Cut P u bs → Cut P (r ∷ t ++ u) (front (block_of (r ∷ t)) bs)
  unfolding front
  cut_front f none = more f none
  cut_front {r} {t} f (more {r = s} {t = u} {u = v} {bs = bs} g k) =
      front_cases (Cut P (r ∷ t ++ (s ∷ u ++ v))) (block_of (r ∷ t)) (block_of (s ∷ u)) bs
      (λ _. more f (more g k))
      (λ l. rw (append_assoc (r ∷ t) (s ∷ u) v, block_append (r ∷ t) (s ∷ u)) at (cut_front {t = t ++ s ∷ u} (joined (r ∷ t) (s ∷ u) f g l) k))

  pub pool_cut : (t : Table) → Every (λ r. P (r ∷ [])) t → Cut P t (pool t)
  unfolding pool
  pool_cut [] h = none
  pool_cut (r ∷ t) h = rw block-single at (cut_front h.0 (pool_cut t h.1))

cut_runs : {P : Table → Type 0} {t : Table} {bs : List Block} → Cut P t bs → Runs bs t
unfolding Runs
cut_runs none = refl
cut_runs (more {t = t} {u = u} f k) = (omega arith, rw (take-append_seam t u), rw (drop-append_seam t u) (cut_runs k))

pub pool_runs : (t : Table) → Runs (pool t) t
pool_runs t = cut_runs (pool_cut (λ _. Unit {0}) (λ t u f g l. tt) t (every (λ r. tt) t))

-- The tails of a run.

rate_trans : (a b c : Block) → 1 ≤ b.obligors.0 → AtMostRate a b → AtMostRate b c → AtMostRate a c
rate_trans a b c p h l =
    le_of_mul-le-mul_left {k = b.obligors.0} (omega (arith, mul-le-mul_right c.obligors.0 h, mul-le-mul_right a.obligors.0 l)) p

-- a tail of b, and then c, against all of b and c
tail_join : (a b c : Block) → 1 ≤ b.obligors.0 → a.obligors.0 ≤ b.obligors.0 → AtMostRate a b → AtMostRate c b → AtMostRate (join a c) (join b c)
tail_join a b c p n h l =
    le_of_mul-le-mul_left {k = b.obligors.0}
    (omega (
      arith,
      mul-le-mul_left (b.obligors.0 + c.obligors.0) h,
      rearrange (c.defaults * b.obligors.0) (b.defaults * c.obligors.0) a.obligors.0 b.obligors.0 l n,
    ))
    p

-- No tail of t has a higher rate than b.
abbrev pub Flat : Block → Table → Type 0
Flat b [] = Unit {0}
Flat b (r ∷ t) = AtMostRate (block_of (r ∷ t)) b × Flat b t

-- An occupied run, no tail of which has a higher rate than the whole.
pub record Level (t : Table) : Type 0 where
  pub occupied : 1 ≤ obligors_in t
  pub flat : Flat (block_of t) t

flat_below : (b c : Block) (t : Table) → 1 ≤ b.obligors.0 → AtMostRate b c → Flat b t → Flat c t
flat_below b c [] p l h = tt
flat_below b c (r ∷ t) p l h = (rate_trans (block_of (r ∷ t)) b c p h.0 l, flat_below b c t p l h.1)

module _ (t u : Table) (f : Level t) (g : Level u) (l : AtMostRate (block_of u) (block_of t)) where
  flat_append : (v : Table) → obligors_in v ≤ obligors_in t → Flat (block_of t) v → Flat (join (block_of t) (block_of u)) (v ++ u)
  unfolding obligors_in
  flat_append [] n h = flat_below (block_of u) (join (block_of t) (block_of u)) u g.occupied (omega arith) g.flat
  flat_append (r ∷ v) n h = (
    rw (defaults_append (r ∷ v) u, obligors_append (r ∷ v) u)
        (tail_join (block_of (r ∷ v)) (block_of t) (block_of u) f.occupied n h.0 l),
    flat_append v (omega arith) h.1,
  )

  level_append : Level (t ++ u)
  level_append =
      record {
        occupied = omega (arith, obligors_append t u);
        flat = rw (block_append t u) (flat_append t (omega arith) f.flat);
      }

level_single : (r : Grade) → Occupied r → Level (r ∷ [])
unfolding obligors_in defaults_in
level_single r h = record { occupied = omega arith; flat = (omega arith, tt) }

pub pool_level : (t : Table) → Every Occupied t → Cut Level t (pool t)
pool_level t h = pool_cut Level level_append t (every_map level_single t h)
