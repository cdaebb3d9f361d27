-- Tables with equal totals compare on shares as on counts. Any two tables have equal totals when each is in the weights of the other's, and
-- weights play no part on shares: so comparing shares is comparing counts in these weights, and is decided where that is.
use Prim.Native.Nat.{ℕ, ◌*◌, ◌≤◌}
use mathlib.Core.Path.{◌≡◌}
use mathlib.Core.Logic.Iff
use mathlib.Core.Logic.{◌↔◌}
use native.Mathlib.Omega.{arith}
use Rattle.table.specs.Table.{Table, Grade, Every, Mixed, survivors, defaults_in, survivors_in}
use Rattle.table.proofs.Every.{every, every_map, map_every}
use Rattle.pooling.specs.Pool.{pooled_scale}
use Rattle.cutoff.specs.Cutoff.{NoDearer, AtLeastAsGood}
use Rattle.cutoff.specs.Weighted.{weigh, weighted}
use Rattle.cutoff.proofs.Cost.{no_dearer}
use Rattle.cutoff.proofs.Dominance.{break_even_decides}
use Rattle.cutoff.proofs.Weighted.{weigh-survivors, weighted_defaults, weighted-survivors, cost-times, pooled_weighted}
use Rattle.shares.specs.Shares.{NoDearerByShares, AtLeastAsGoodByShares}
use Rattle.shares.proofs.Shares.{pairs_in, pairs_pos, no-dearer-by-shares}
use Rattle.shares.proofs.Weights.{SameShares, times_le, same_no_dearer, same_agree, weighted_same}

-- k times the prices compare as the prices.
no_dearer_times : (k u v : ℕ) (t₁ t₂ : Table) → 1 ≤ k → NoDearer (k * u) (k * v) t₁ t₂ ↔ NoDearer u v t₁ t₂
no_dearer_times k u v t₁ t₂ pos =
    Iff.trans (rw (cost-times k t₁ u v, cost-times k t₂ u v) at (no_dearer (k * u) (k * v) t₁ t₂))
    (Iff.trans (times_le k _ _ pos) (Iff.symm (no_dearer u v t₁ t₂)))

-- Equal totals.

module _ (t₁ t₂ : Table) (mixed₁ : Mixed t₁) (mixed₂ : Mixed t₂)
    (equal-defaults : defaults_in t₁ ≡ defaults_in t₂) (equal-survivors : survivors_in t₁ ≡ survivors_in t₂) where
  -- The prices on counts are those on shares times S and D, but for a common factor.
  equal_totals : (k u v m n : ℕ) → 1 ≤ k → u * survivors_in t₁ ≡ k * m → v * defaults_in t₁ ≡ k * n
      → NoDearerByShares u v t₁ t₂ ↔ NoDearer m n t₁ t₂
  equal_totals k u v m n pos missed turned-away =
      let numerators = rw (← equal-defaults, ← equal-survivors, missed, turned-away) at (no-dearer-by-shares t₁ t₂ mixed₁ mixed₂ u v) in
      Iff.trans numerators
      (Iff.trans (times_le (pairs_in t₁) _ _ (pairs_pos mixed₁))
      (Iff.trans (Iff.symm (no_dearer (k * m) (k * n) t₁ t₂)) (no_dearer_times k m n t₁ t₂ pos)))

  pub equal_totals_agree : AtLeastAsGoodByShares t₁ t₂ ↔ AtLeastAsGood t₁ t₂
  equal_totals_agree = (
    λ h u v. (equal_totals (pairs_in t₁) (u * defaults_in t₁) (v * survivors_in t₁) u v (pairs_pos mixed₁) (omega arith) (omega arith)).0 (h _ _),
    λ h u v. (equal_totals 1 u v (u * survivors_in t₁) (v * defaults_in t₁) (omega arith) (omega arith) (omega arith)).1 (h _ _),
  )

-- Each table in the weights of the other's totals.

-- t₁ in those of t₂
abbrev pub weighted_by : Table → Table → Table
weighted_by t₁ t₂ = weighted (defaults_in t₂) (survivors_in t₂) t₁

pub defaults_by : (t₁ t₂ : Table) → defaults_in (weighted_by t₁ t₂) ≡ defaults_in t₂ * defaults_in t₁
defaults_by t₁ t₂ = weighted_defaults (defaults_in t₂) (survivors_in t₂) t₁

pub survivors-by : (t₁ t₂ : Table) → survivors_in (weighted_by t₁ t₂) ≡ survivors_in t₂ * survivors_in t₁
survivors-by t₁ t₂ = weighted-survivors (defaults_in t₂) (survivors_in t₂) t₁

pub same_defaults : (t₁ t₂ : Table) → defaults_in (weighted_by t₁ t₂) ≡ defaults_in (weighted_by t₂ t₁)
same_defaults t₁ t₂ = omega (arith, defaults_by t₁ t₂, defaults_by t₂ t₁)

pub same_survivors : (t₁ t₂ : Table) → survivors_in (weighted_by t₁ t₂) ≡ survivors_in (weighted_by t₂ t₁)
same_survivors t₁ t₂ = omega (arith, survivors-by t₁ t₂, survivors-by t₂ t₁)

same_by : (t₁ t₂ : Table) → Mixed t₁ → Mixed t₂ → SameShares (weighted_by t₁ t₂) t₁
same_by t₁ t₂ mixed₁ mixed₂ = weighted_same (defaults_in t₂) (survivors_in t₂) mixed₂.defaulted mixed₂.survived t₁ mixed₁

-- On shares t₁ is no dearer than t₂ at the break-even prices of b.
abbrev pub NoDearerAtBreakEven : Table → Table → Grade → Type 0
NoDearerAtBreakEven t₁ t₂ b = NoDearerByShares (survivors b * defaults_in t₁) (b.defaults * survivors_in t₁) t₁ t₂

module _ (t₁ t₂ : Table) (mixed₁ : Mixed t₁) (mixed₂ : Mixed t₂) where
  same₁ : SameShares (weighted_by t₁ t₂) t₁
  same₁ = same_by t₁ t₂ mixed₁ mixed₂

  same₂ : SameShares (weighted_by t₂ t₁) t₂
  same₂ = same_by t₂ t₁ mixed₂ mixed₁

  -- The prices in the weights are those on shares times S₂ S₁ and D₂ D₁, but for a common factor.
  pub in-weights : (k u v m n : ℕ) → 1 ≤ k → u * (survivors_in t₂ * survivors_in t₁) ≡ k * m → v * (defaults_in t₂ * defaults_in t₁) ≡ k * n
      → NoDearerByShares u v t₁ t₂ ↔ NoDearer m n (weighted_by t₁ t₂) (weighted_by t₂ t₁)
  in-weights k u v m n pos missed turned-away =
      Iff.trans (Iff.symm (same_no_dearer t₁ t₂ mixed₁ mixed₂ same₁ same₂ u v))
      (equal_totals (weighted_by t₁ t₂) (weighted_by t₂ t₁) same₁.mixed same₂.mixed (same_defaults t₁ t₂) (same_survivors t₁ t₂)
      k u v m n pos (rw (survivors-by t₁ t₂) missed) (rw (defaults_by t₁ t₂) turned-away))

  pub shares_are_weights : AtLeastAsGoodByShares t₁ t₂ ↔ AtLeastAsGood (weighted_by t₁ t₂) (weighted_by t₂ t₁)
  shares_are_weights =
      Iff.trans (Iff.symm (same_agree t₁ t₂ mixed₁ mixed₂ same₁ same₂))
      (equal_totals_agree (weighted_by t₁ t₂) (weighted_by t₂ t₁) same₁.mixed same₂.mixed (same_defaults t₁ t₂) (same_survivors t₁ t₂))

  -- In the weights t₁ is no dearer at the break-even prices of b.
  abbrev NoDearerWeighed : Grade → Type 0
  NoDearerWeighed b = NoDearer (survivors b) b.defaults (weighted_by t₁ t₂) (weighted_by t₂ t₁)

  -- The break-even prices of a block on shares are those of the block in the weights, but for the factor D₁ S₁.
  block_in_weights : (b : Grade) → NoDearerAtBreakEven t₁ t₂ b → NoDearerWeighed (weigh (defaults_in t₂) (survivors_in t₂) b)
  block_in_weights b =
      let w = weigh (defaults_in t₂) (survivors_in t₂) b in
      (in-weights (pairs_in t₁) (survivors b * defaults_in t₁) (b.defaults * survivors_in t₁) (survivors w) w.defaults (pairs_pos mixed₁)
      (rw (weigh-survivors (defaults_in t₂) (survivors_in t₂) b) (omega arith)) (omega arith)).0

  weights_decide : AtLeastAsGood (weighted_by t₁ t₂) (weighted_by t₂ t₁) ↔ Every NoDearerWeighed (weighted_by (pooled_scale t₁) t₂)
  weights_decide =
      rw (pooled_weighted (defaults_in t₂) (survivors_in t₂) mixed₂.defaulted mixed₂.survived t₁ mixed₁.counted)
      at (break_even_decides (weighted_by t₁ t₂) (weighted_by t₂ t₁) same₁.mixed.counted (same_survivors t₁ t₂))

  pub break_even_shares : AtLeastAsGoodByShares t₁ t₂ ↔ Every (NoDearerAtBreakEven t₁ t₂) (pooled_scale t₁)
  break_even_shares = (
    λ h. every (λ b. h (survivors b * defaults_in t₁) (b.defaults * survivors_in t₁)) (pooled_scale t₁),
    λ h. shares_are_weights.1
        (weights_decide.1
        (map_every NoDearerWeighed (weigh (defaults_in t₂) (survivors_in t₂)) (pooled_scale t₁) (every_map block_in_weights (pooled_scale t₁) h))),
  )
