-- The areas under the curves of a scale, by its pairs.
use Prim.Native.Nat.{ℕ, zero, suc, ◌+◌, ◌*◌, ◌≤◌}
use mathlib.Core.Path.{◌≡◌, refl, ap}
use mathlib.Core.List.{[], ◌∷◌}
use native.Mathlib.Omega.{arith}
use lib.ListN.{length}
use Rattle.table.specs.Table.{Table, Grade, defaults_in, survivors_in, obligors_in}
use Rattle.pooling.specs.Fraction.{Fraction, ratio, sum, difference, product}
use Rattle.pooling.proofs.Scaled.{Over, over-nought, over-sum, over-difference, over_same, over_own, over-product}
use Rattle.cutoff.specs.Cutoff.{turned_away}
use Rattle.measures.specs.Pairs.{concordant, tied}
use Rattle.measures.specs.Published.{area_under, roc_area, cap_area}
use Rattle.measures.proofs.Cutoffs.{turned_all, turned_cons}

area_same : (x y x' y' : ℕ → Fraction) (k : ℕ) → ((g : ℕ) → g ≤ k → x g ≡ x' g) → ((g : ℕ) → g ≤ k → y g ≡ y' g)
    → area_under x y k ≡ area_under x' y' k
unfolding area_under
area_same x y x' y' zero p q = refl
area_same x y x' y' (suc k) p q =
    rw (
      p (suc k) (omega arith),
      p k (omega arith),
      q (suc k) (omega arith),
      q k (omega arith),
      area_same x y x' y' k (λ g l. p g (omega arith)) (λ g l. q g (omega arith)),
    )

-- A curve has a point for each cutoff: across and up are counts of the grades that it turns away, of a and of b in all.
module _ (across up : Table → ℕ) (a b : ℕ) where
  abbrev area : Table → Fraction
  area t = area_under (λ g. ratio (across (turned_away t g)) a) (λ g. ratio (up (turned_away t g)) b) (length t)

  -- A better grade adds the trapezoid of the last cutoff.
  area_cons : (r : Grade) (t : Table) → area (r ∷ t)
      ≡ sum (area t)
      (product (difference (ratio (across (r ∷ t)) a) (ratio (across t) a)) (product (ratio 1 2) (sum (ratio (up t) b) (ratio (up (r ∷ t)) b))))
  unfolding area_under
  area_cons r t =
      rw (
        turned_all (r ∷ t),
        turned_cons r t (length t) (omega arith),
        turned_all t,
        area_same _ _ (λ g. ratio (across (turned_away t g)) a) (λ g. ratio (up (turned_away t g)) b) (length t)
            (λ g l. ap (λ s. ratio (across s) a) (turned_cons r t g l)) (λ g l. ap (λ s. ratio (up s) b) (turned_cons r t g l)),
      )

  -- Twice the trapezoid, in whole numbers.
  trapezoid : (x x' y y' : ℕ)
      → Over (a * (2 * b)) (x * (y + y')) (product (difference (ratio x' a) (ratio x a)) (product (ratio 1 2) (sum (ratio y b) (ratio y' b)))) (x' * (y + y'))
  trapezoid x x' y y' =
      over_same
      (over-product (over-difference (over_own x' a) (over_own x a)) (over-product (over_own 1 2) (over-sum (over_own y b) (over_own y' b))))
      (x * (y + y')) (x' * (y + y')) (omega arith)

  -- So a count that each better grade raises by that is twice the area.
  pub area_over : (twice : Table → ℕ) → twice [] ≡ 0
      → ((r : Grade) (t : Table) → twice (r ∷ t) + across t * (up t + up (r ∷ t)) ≡ twice t + across (r ∷ t) * (up t + up (r ∷ t)))
      → (t : Table) → Over (a * (2 * b)) 0 (area t) (twice t)
  unfolding area_under
  area_over twice none more [] = rw none (over-nought (a * (2 * b)))
  area_over twice none more (r ∷ t) =
      let step = trapezoid (across t) (across (r ∷ t)) (up t) (up (r ∷ t)) in
      rw (area_cons r t) (over_same (over-sum (area_over twice none more t) step) 0 (twice (r ∷ t)) (omega (arith, more r t)))

pub roc_over : (t : Table) → Over (survivors_in t * (2 * defaults_in t)) 0 (roc_area t) (2 * concordant t + tied t)
unfolding concordant tied defaults_in survivors_in
roc_over t =
    area_over survivors_in defaults_in (survivors_in t) (defaults_in t) (λ t. 2 * concordant t + tied t) refl (λ r t. omega arith) t

-- The profile's area is that and the triangle of the defaults.
pub cap_over : (t : Table) → Over (obligors_in t * (2 * defaults_in t)) 0 (cap_area t) (2 * concordant t + tied t + defaults_in t * defaults_in t)
unfolding concordant tied defaults_in survivors_in
cap_over t =
    area_over (λ t. defaults_in t + survivors_in t) defaults_in (obligors_in t) (defaults_in t)
    (λ t. 2 * concordant t + tied t + defaults_in t * defaults_in t) refl (λ r t. omega arith) t
