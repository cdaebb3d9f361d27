-- What is claimed of cutoffs beyond the contracts. The contract of `claims` in src/lib.rt is all of it, so that the crate is refused where
-- a claim is not proved.
use Rattle.std.specs.Prelude.{ℕ, ◌≤◌, ◌<◌, ◌≡◌, ◌↔◌, length}
use Rattle.table.specs.Table.{Table, Every, Counted, survivors, survivors_in}
use Rattle.pooling.specs.Pool.{pooled_scale}
use Rattle.cutoff.specs.Cutoff.{cost, IsCheapest, cheapest_of, NoDearer, AtLeastAsGood}
use Rattle.cutoff.specs.Verdict.{IsVerdict, Settles}
use Rattle.cutoff.specs.declared.Verdict.{Verdict}

-- "Returns g and cost of a cutoff that has the cheapest cost": no cutoff of the table costs less.
abbrev pub CheapestIsCheapest : Type 0
CheapestIsCheapest = (t : Table) (u v : ℕ) → IsCheapest t u v (cheapest_of t u v).cost

-- g is a cutoff of the table and has that cost.
abbrev pub CutoffHasTheCost : Type 0
CutoffHasTheCost =
    (t : Table) (u v : ℕ) → ((cheapest_of t u v).cutoff ≤ length t) × (cost t u v (cheapest_of t u v).cutoff ≡ (cheapest_of t u v).cost)

-- "Among equals, the smallest g": every smaller cutoff costs more.
abbrev pub NoSmallerCutoffIsAsCheap : Type 0
NoSmallerCutoffIsAsCheap =
    (t : Table) (u v h : ℕ) → h < (cheapest_of t u v).cutoff → (cheapest_of t u v).cost < cost t u v h

-- A table has one cheapest cost.
abbrev pub CheapestCostIsUnique : Type 0
CheapestCostIsUnique = (t : Table) (u v c d : ℕ) → IsCheapest t u v c → IsCheapest t u v d → c ≡ d

-- "At every pair of prices the pooled scale of any table has the same cheapest cost as the table."
abbrev pub PooledScaleCostsTheSame : Type 0
PooledScaleCostsTheSame =
    (t : Table) → Every Counted t → (u v c : ℕ) → IsCheapest (pooled_scale t) u v c ↔ IsCheapest t u v c

-- Of two tables with equally many survivors one is at least as good as the other exactly if it is no dearer at the break-even prices
-- of its own blocks, at which missing a block's defaults costs as much as turning its survivors away.
abbrev pub BreakEvenPricesDecide : Type 0
BreakEvenPricesDecide =
    (t₁ t₂ : Table) → Every Counted t₁ → survivors_in t₁ ≡ survivors_in t₂
    → AtLeastAsGood t₁ t₂ ↔ Every (λ b. NoDearer (survivors b) b.defaults t₁ t₂) (pooled_scale t₁)

-- Every verdict on two tables with equally many survivors calls the first at least as good exactly if at no prices it costs more than
-- the second, and otherwise carries prices at which it does. The same for the second.
abbrev pub VerdictsAreRight : Type 0
VerdictsAreRight =
    (t₁ t₂ : Table) → Every Counted t₁ → Every Counted t₂ → survivors_in t₁ ≡ survivors_in t₂
    → (v : Verdict) → IsVerdict t₁ t₂ v → Settles t₁ t₂ v

-- All of them: what the function `claims` of this crate promises.
pub record Claims : Type 0 where
  pub cheapest_is_cheapest : CheapestIsCheapest
  pub cutoff_has_the_cost : CutoffHasTheCost
  pub no_smaller_cutoff_is_as_cheap : NoSmallerCutoffIsAsCheap
  pub cheapest_cost_is_unique : CheapestCostIsUnique
  pub pooled_scale_costs_the_same : PooledScaleCostsTheSame
  pub break_even_prices_decide : BreakEvenPricesDecide
  pub verdicts_are_right : VerdictsAreRight
