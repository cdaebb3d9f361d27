-- A table is better than another exactly if its pooled scale is: pooling changes no cheapest cost.
use mathlib.Core.Path.{◌≡◌, refl, sym, ◌∙◌}
use mathlib.Core.Logic.{◌↔◌}
use mathlib.Core.Bool.{Bool, true, false}
use lib.Dec.{T}
use Rattle.table.specs.Table.{Table, Every, Counted, survivors_in}
use Rattle.pooling.specs.Pool.{pooled_scale}
use Rattle.pooling.proofs.Scale.{scale_counted}
use Rattle.cutoff.specs.Cutoff.{AtLeastAsGood}
use Rattle.cutoff.specs.Verdict.{never_dearer_lem}
use Rattle.cutoff.proofs.Pooled.{pool_alike, pooled_costs_same}
use Rattle.cutoff.proofs.Settled.{never-dearer}
use Rattle.shortlist.specs.Shortlist.{better}

-- Tests that hold together are equal.
pub tests_agree : (x y : Bool) → (T x → T y) → (T y → T x) → x ≡ y
tests_agree true true f g = refl
tests_agree true false f g = absurd (f tt)
tests_agree false true f g = absurd (g tt)
tests_agree false false f g = refl

module _ (t₁ t₂ : Table) (counted₁ : Every Counted t₁) (counted₂ : Every Counted t₂) where
  good_pooled : AtLeastAsGood (pooled_scale t₁) (pooled_scale t₂) ↔ AtLeastAsGood t₁ t₂
  good_pooled = (
    λ h u v c₁ c₂ p₁ p₂. h u v c₁ c₂ ((pooled_costs_same t₁ counted₁ u v c₁).1 p₁) ((pooled_costs_same t₂ counted₂ u v c₂).1 p₂),
    λ h u v c₁ c₂ p₁ p₂. h u v c₁ c₂ ((pooled_costs_same t₁ counted₁ u v c₁).0 p₁) ((pooled_costs_same t₂ counted₂ u v c₂).0 p₂),
  )

  never_dearer_pooled : survivors_in t₁ ≡ survivors_in t₂ → never_dearer_lem (pooled_scale t₁) (pooled_scale t₂) ≡ never_dearer_lem t₁ t₂
  never_dearer_pooled same =
      let s = (pool_alike t₁ counted₁).same_survivors ∙ same ∙ sym (pool_alike t₂ counted₂).same_survivors in
      let pooled = never-dearer (pooled_scale t₁) (pooled_scale t₂) (scale_counted t₁ counted₁) s in
      let whole = never-dearer t₁ t₂ counted₁ same in
      tests_agree _ _ (λ h. whole.1 (good_pooled.0 (pooled.0 h))) (λ h. pooled.1 (good_pooled.1 (whole.0 h)))

pub better_pooled : (t₁ t₂ : Table) → Every Counted t₁ → Every Counted t₂ → survivors_in t₁ ≡ survivors_in t₂
    → better (pooled_scale t₁) (pooled_scale t₂) ≡ better t₁ t₂
better_pooled t₁ t₂ counted₁ counted₂ same =
    rw (never_dearer_pooled t₁ t₂ counted₁ counted₂ same, never_dearer_pooled t₂ t₁ counted₂ counted₁ (sym same))
