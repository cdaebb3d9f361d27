-- Announced rates in order: of two grades the worse one announces no lower rate.
use Prim.Native.Nat.{ℕ, zero, suc, ◌≤◌, ◌<◌}
use mathlib.Core.List.{[], ◌∷◌}
use native.Mathlib.Omega.{arith}
use lib.ListN.{length, get_or}
use Rattle.table.specs.Table.{Table, InOrder}
use Rattle.table.specs.Place.{blank}

pub never_fall : (t : Table) → InOrder t → (better worse : ℕ) → better ≤ worse → worse < length t
    → (get_or t better blank).announced ≤ (get_or t worse blank).announced
unfolding InOrder
never_fall [] o b w h l = absurd (omega arith)
never_fall (r ∷ []) o zero zero h l = omega arith
never_fall (r ∷ []) o (suc b) zero h l = absurd (omega arith)
never_fall (r ∷ []) o b (suc w) h l = absurd (omega arith)
never_fall (r ∷ s ∷ t) o zero zero h l = omega arith
never_fall (r ∷ s ∷ t) o zero (suc w) h l = omega (arith, o.0, never_fall (s ∷ t) o.1 0 w (omega arith) (omega arith))
never_fall (r ∷ s ∷ t) o (suc b) zero h l = absurd (omega arith)
never_fall (r ∷ s ∷ t) o (suc b) (suc w) h l = never_fall (s ∷ t) o.1 b w (omega arith) (omega arith)
