-- One table is at least as good as another where it is no dearer at the break-even prices of its own blocks.
use Prim.Native.Nat.{ℕ, ◌+◌, ◌-◌, ◌*◌, ◌≤◌, ◌<◌}
use mathlib.Core.Path.{◌≡◌}
use mathlib.Core.Logic.{◌↔◌}
use mathlib.Core.List.{[], ◌∷◌}
use native.Mathlib.Nat.{mul-le-mul_left, le_of_mul-le-mul_left}
use native.Mathlib.Omega.{arith}
use native.Mathlib.Decide.{dec_le}
use lib.ListN.{length}
use Rattle.table.specs.Table.{Table, Grade, Every, Counted, survivors, defaults_in, survivors_in}
use Rattle.table.proofs.Arithmetic.{factor_pos}
use Rattle.table.proofs.Every.{every, every_map, every_map₂}
use Rattle.pooling.specs.Pool.{pooled_scale}
use Rattle.cutoff.specs.Cutoff.{turned_away, cost, caught, lost, AtLeastAsGood, NoDearer}
use Rattle.cutoff.proofs.Cost.{cheapest_cost, cheapest_is, no_dearer, drop_le, cost_le_all}
use Rattle.cutoff.proofs.Pooled.{pool_alike}
use Rattle.cutoff.proofs.Odds.{OddsBelow, OddsRise, pool_odds, gradewise, gradewise_le_all, all_turned_away, cheapest_pooled}

-- t₁ is no dearer than t₂ at the break-even prices of b, at which missing b's defaults costs as much as turning its survivors away.
abbrev pub NoDearerAt : Table → Table → Grade → Type 0
NoDearerAt t₁ t₂ b = cheapest_cost t₁ (survivors b) b.defaults ≤ cheapest_cost t₂ (survivors b) b.defaults

-- Only the last grade of rising odds may lack survivors.
first_survivors : (r : Grade) (t : Table) → Every (OddsBelow r) t → 1 ≤ survivors_in (r ∷ t) → 0 < survivors r
unfolding survivors_in
first_survivors r [] h pos = omega arith
first_survivors r (s ∷ t) h pos = factor_pos _ s.defaults (survivors r) h.0

-- Two cutoffs differ by a grade of d defaults and s survivors, and S survivors are worse. A cost c that is at most both cutoffs' costs
-- is at most that of missing m defaults and turning away S survivors and p of the s, if this holds at the grade's break-even prices.
between : (o m u v d p q S c s x : ℕ) → s ≡ p + q → x ≡ p + S → 0 < s → o * s + d * (s + S) ≤ s * m + d * x
    → c ≤ v * (s + S) → c ≤ u * d + v * S → o * u + c ≤ u * m + v * x
between o m u v d p q S c s x es ex pos h all none =
    le_of_mul-le-mul_left {k = s}
    (rw (es, ex) (omega (arith, mul-le-mul_left u (rw (es, ex) at h), mul-le-mul_left p (rw es at all), mul-le-mul_left q none)))
    pos

-- Missing m defaults and turning x survivors away costs at least what t does, o more defaults missed before it, at u and v.
abbrev Above : ℕ → ℕ → Table → ℕ → ℕ → ℕ → Type 0
Above m x t o u v = o * u + gradewise t u v ≤ u * m + v * x

abbrev AboveAt : ℕ → ℕ → Table → ℕ → Grade → Type 0
AboveAt m x t o b = Above m x t o (survivors b) b.defaults

-- For a scale of rising odds that holds everywhere if it holds at the break-even prices of its grades.
above_hull : (m x : ℕ) (t : Table) (o : ℕ) → OddsRise t → 1 ≤ survivors_in t → x ≤ survivors_in t
    → Every (AboveAt m x t o) t → (u v : ℕ) → Above m x t o u v
unfolding survivors_in gradewise
above_hull m x [] o odds pos le h u v = omega arith
above_hull m x (r ∷ t) o odds pos le h u v =
    elim (dec_le (survivors_in t) x) [
      | yes k ↦ between o m u v r.defaults (x - survivors_in t) (survivors r + survivors_in t - x) (survivors_in t)
          (gradewise (r ∷ t) u v) (survivors r) x (omega arith) (omega arith) (first_survivors r t odds.0 pos)
          (omega (arith, h.0, all_turned_away t (survivors r) r.defaults (every_map (λ s b. omega arith) t odds.0)))
          (gradewise_le_all (r ∷ t) u v) (omega (arith, gradewise_le_all t u v))
      | no k ↦ omega (
        arith,
        above_hull m x t (o + r.defaults) odds.1 (omega arith) (omega arith)
            (every_map₂ (λ s b g. omega arith) t odds.0 h.1)
            u v,
      )
    ]

-- Where t₁ is no dearer than t₂, each cutoff g of t₂ costs at least what the blocks of t₁ do.
cutoff_above : (t₁ t₂ : Table) → Every Counted t₁ → (g : ℕ) → g ≤ length t₂ → (b : Grade) → NoDearerAt t₁ t₂ b
    → AboveAt (defaults_in t₂ - caught t₂ g) (lost t₂ g) (pooled_scale t₁) 0 b
unfolding cost turned_away
cutoff_above t₁ t₂ counted g within b h =
    omega (arith, cheapest_pooled t₁ counted (survivors b) b.defaults, (cheapest_is t₂ (survivors b) b.defaults).least g within)

no_dearer_anywhere : (t₁ t₂ : Table) → Every Counted t₁ → survivors_in t₂ ≤ survivors_in t₁ → 1 ≤ survivors_in t₁
    → Every (NoDearerAt t₁ t₂) (pooled_scale t₁) → (u v : ℕ) → cheapest_cost t₁ u v ≤ cheapest_cost t₂ u v
unfolding cost turned_away
no_dearer_anywhere t₁ t₂ counted le pos h u v =
    let least = cheapest_is t₂ u v in
    let g = least.cutoff in
    let same = (pool_alike t₁ counted).same_survivors in
    let fewer = drop_le t₂ (length t₂ - g) in
    omega (
      arith,
      cheapest_pooled t₁ counted u v,
      above_hull (defaults_in t₂ - caught t₂ g) (lost t₂ g) (pooled_scale t₁) 0 (pool_odds t₁ counted) (omega arith) (omega arith)
          (every_map (cutoff_above t₁ t₂ counted g least.within) (pooled_scale t₁) h)
          u v,
    )

-- At least as good is decided at the break-even prices of the blocks.
pub at_least_as_good : (t₁ t₂ : Table) → Every Counted t₁ → survivors_in t₂ ≤ survivors_in t₁
    → AtLeastAsGood t₁ t₂ ↔ Every (NoDearerAt t₁ t₂) (pooled_scale t₁)
at_least_as_good t₁ t₂ counted le = (
  λ h. every (λ b. (no_dearer (survivors b) b.defaults t₁ t₂).0 (h (survivors b) b.defaults)) (pooled_scale t₁),
  λ h u v. (no_dearer u v t₁ t₂).1
      (elim (dec_le 1 (survivors_in t₁)) [
        | yes pos ↦ no_dearer_anywhere t₁ t₂ counted le pos h u v
        | no none ↦ let z : survivors_in t₁ ≡ 0 = omega arith in omega (arith, rw z at (cost_le_all t₁ u v))
      ]),
)

pub break_even_decides : (t₁ t₂ : Table) → Every Counted t₁ → survivors_in t₁ ≡ survivors_in t₂
    → AtLeastAsGood t₁ t₂ ↔ Every (λ b. NoDearer (survivors b) b.defaults t₁ t₂) (pooled_scale t₁)
break_even_decides t₁ t₂ counted same = (
  λ h. every (λ b. h (survivors b) b.defaults) (pooled_scale t₁),
  λ h. (at_least_as_good t₁ t₂ counted (omega arith)).1
      (every_map (λ b. (no_dearer (survivors b) b.defaults t₁ t₂).0) (pooled_scale t₁) h),
)
