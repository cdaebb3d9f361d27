-- The scales that are held of some tables, each by its place.
use Prim.Native.Nat.{ℕ, zero, suc, ◌+◌, ◌<◌}
use mathlib.Core.Path.{◌≡◌}
use mathlib.Core.List.{List, [], ◌∷◌, map}
use native.Mathlib.Omega.{arith}
use lib.ListN.{length, get_or}
use Rattle.table.specs.Table.{Table}
use Rattle.pooling.specs.Pool.{pooled_scale}
use Rattle.pooling.specs.Private.{listed}
use Rattle.book.specs.Rows.{table_of_rater, tables_in}
use Rattle.cutoff.proofs.Judged.{held_scale}
use Rattle.shortlist.specs.Private.{Holds, HoldsAll, table_held}
use Rattle.shortlist.specs.declared.scales.Scale.{Scale}

pub same_length : (held : List Scale) (ts : List Table) → HoldsAll held ts → length held ≡ length ts
same_length [] [] h = omega arith
same_length [] (t ∷ ts) h = absurd h
same_length (s ∷ held) [] h = absurd h
same_length (s ∷ held) (t ∷ ts) h = let e = same_length held ts h.1 in omega arith

pub held_at : (held : List Scale) (ts : List Table) → HoldsAll held ts → (k : ℕ) → k < length ts → (s : Scale) (t : Table)
    → Holds (get_or held k s) (get_or ts k t)
held_at [] [] h k l s t = absurd (omega arith)
held_at [] (u ∷ ts) h k l s t = absurd h
held_at (r ∷ held) [] h k l s t = absurd h
held_at (r ∷ held) (u ∷ ts) h zero l s t = h.0
held_at (r ∷ held) (u ∷ ts) h (suc k) l s t = held_at held ts h.1 k (omega arith) s t

-- They are the pooled scales of the tables.

pub scale_is : (s : Scale) (t : Table) → Holds s t → table_held s ≡ pooled_scale t
scale_is s t h = held_scale t (listed s.blocks) h.blocks

pub table_at_place : (held : List Scale) (ts : List Table) → HoldsAll held ts → (k : ℕ) → k < length ts
    → get_or (map table_held held) k [] ≡ pooled_scale (get_or ts k [])
table_at_place [] [] h k l = absurd (omega arith)
table_at_place [] (u ∷ ts) h k l = absurd h
table_at_place (r ∷ held) [] h k l = absurd h
table_at_place (r ∷ held) (u ∷ ts) h zero l = scale_is r u h.0
table_at_place (r ∷ held) (u ∷ ts) h (suc k) l = table_at_place held ts h.1 k (omega arith)

-- Scales of the raters from j on.
pub at_held : (b : List ℕ) (held : List Scale) (j n : ℕ) → length held ≡ n
    → ((k : ℕ) → k < n → (s : Scale) → Holds (get_or held k s) (table_of_rater b (j + k))) → HoldsAll held (tables_in b j n)
unfolding tables_in
at_held b [] j zero e h = tt
at_held b [] j (suc n) e h = absurd (omega arith)
at_held b (s ∷ held) j zero e h = absurd (omega arith)
at_held b (s ∷ held) j (suc n) e h =
    let z : j + 0 ≡ j = omega arith in (
      rw z at (h 0 (omega arith) s),
      at_held b held (suc j) n (omega arith) (λ k l r. let i : j + suc k ≡ suc j + k = omega arith in rw i at (h (suc k) (omega arith) r)),
    )
