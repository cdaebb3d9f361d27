-- Pietra is the vertical distance of the two shares of largest absolute size, at the smallest cutoff that has it.
use Prim.Native.Nat.{ℕ, ◌*◌, ◌≤◌, ◌<◌}
use native.Mathlib.Nat.{mul-pos}
use native.Mathlib.Omega.{arith}
use lib.Dec.{ltb→lt, nltb→le}
use lib.IntN.{nat_abs}
use lib.ListN.{length}
use Rattle.table.specs.Table.{Table, Mixed, defaults_in, survivors_in}
use Rattle.pooling.specs.Fraction.{AtMost, Equal}
use Rattle.pooling.proofs.Scaled.{Over, over-difference, over_same, at_most, of_at_most, equal, over-ratio}
use Rattle.cutoff.specs.Cutoff.{caught, lost}
use Rattle.cutoff.proofs.Best.{IsBest, is_best}
use Rattle.measures.specs.Measures.{pairs, height, farther, pietra_at, measures_of}
use Rattle.measures.specs.Published.{signed_value, vertical_distance, absolute}
use Rattle.measures.proofs.Signed.{larger_order}
use Rattle.measures.proofs.Fractions.{over_signed, over-absolute}
use Rattle.measures.proofs.Proper.{measures_proper}

pub farthest : (t : Table) → IsBest farther (height t) (length t) (pietra_at t)
farthest t = is_best farther (larger_order nat_abs) (height t) (length t)

-- The distance is y S - x D over D S.
distance-over : (t : Table) (g : ℕ) → Over (pairs t) (lost t g * defaults_in t) (vertical_distance t g) (caught t g * survivors_in t)
distance-over t g =
    let d = defaults_in t in
    let s = survivors_in t in
    let y : Over (pairs t) 0 _ (caught t g * s) = over-ratio (caught t g) d (omega arith) in
    let x : Over (pairs t) 0 _ (lost t g * d) = over-ratio (lost t g) s (omega arith) in
    over_same (over-difference y x) _ _ (omega arith)

pietra_over : (t : Table) → Over (pairs t) (lost t (pietra_at t) * defaults_in t) (signed_value (measures_of t).pietra) (caught t (pietra_at t) * survivors_in t)
unfolding measures_of
pietra_over t = over_signed _ _ (pairs t)

pub pietra_is_largest : (t : Table) → Mixed t
    → ((measures_of t).cutoff ≤ length t)
    × Equal (signed_value (measures_of t).pietra) (vertical_distance t (measures_of t).cutoff)
    × ((g : ℕ) → g ≤ length t → AtMost (absolute (vertical_distance t g)) (absolute (signed_value (measures_of t).pietra)))
unfolding measures_of
pietra_is_largest t mixed =
    let some = mul-pos mixed.defaulted mixed.survived in (
      (farthest t).within,
      equal (pietra_over t) (distance-over t (pietra_at t)) some (omega arith),
      λ g l.
          at_most (over-absolute (distance-over t g)) (over-absolute (pietra_over t)) some
          (omega (arith, nltb→le (nat_abs (height t (pietra_at t))) (nat_abs (height t g)) ((farthest t).none_better g l))),
    )

pub smaller_is_nearer : (t : Table) → Mixed t → (g : ℕ) → g < (measures_of t).cutoff
    → ¬ AtMost (absolute (signed_value (measures_of t).pietra)) (absolute (vertical_distance t g))
unfolding measures_of
smaller_is_nearer t mixed g l h =
    let p = measures_proper t mixed in
    let as-far = of_at_most (over-absolute (pietra_over t)) (over-absolute (distance-over t g)) p.pietra_size (p.distance_sizes g) h in
    omega (arith, as-far, ltb→lt (nat_abs (height t g)) (nat_abs (height t (pietra_at t))) ((farthest t).smaller_worse g l))
