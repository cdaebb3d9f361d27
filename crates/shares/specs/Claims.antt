-- What is claimed of the comparison on shares beyond the contracts. The contract of `claims` in src/lib.rt is all of it, so that the crate is
-- refused where a claim is not proved.
use Rattle.std.specs.Prelude.{ℕ, ◌*◌, ◌≤◌, ◌≡◌, ◌↔◌, map}
use Rattle.table.specs.Table.{Table, Every, Mixed, survivors, defaults_in, survivors_in}
use Rattle.pooling.specs.Pool.{pooled_scale}
use Rattle.pooling.specs.Fraction.{Fraction, Proper, Equal}
use Rattle.cutoff.specs.Cutoff.{AtLeastAsGood}
use Rattle.cutoff.specs.Weighted.{weighted}
use Rattle.cutoff.specs.Verdict.{calls_first, calls_second, IsVerdict}
use Rattle.cutoff.specs.declared.Verdict.{Verdict}
use Rattle.shares.specs.Shares.{share_cost, IsCheapestShare, cheapest_share, NoDearerByShares, AtLeastAsGoodByShares}
use Rattle.shares.specs.Verdict.{IsVerdictByShares, SettlesByShares}

-- Every table has a cheapest cost on shares,
abbrev pub CheapestShareIsCheapest : Type 0
CheapestShareIsCheapest = (t : Table) (u v : ℕ) → IsCheapestShare t u v (cheapest_share t u v)

-- and has no other: two of them have the same value, by cross-multiplication.
abbrev pub CheapestShareIsUnique : Type 0
CheapestShareIsUnique = (t : Table) (u v : ℕ) (c d : Fraction) → IsCheapestShare t u v c → IsCheapestShare t u v d → Equal c d

-- Cross-multiplication compares proper fractions only, those over at least 1. What a cutoff costs on shares is one, given a default and a survivor.
abbrev pub ShareCostsAreProper : Type 0
ShareCostsAreProper = (t : Table) → Mixed t → (u v g : ℕ) → Proper (share_cost t u v g)

-- Comparing shares is comparing counts, each table in the weights of the other's totals.
abbrev pub SharesAreWeights : Type 0
SharesAreWeights =
    (t₁ t₂ : Table) → Mixed t₁ → Mixed t₂
    → AtLeastAsGoodByShares t₁ t₂
    ↔ AtLeastAsGood (weighted (defaults_in t₂) (survivors_in t₂) t₁) (weighted (defaults_in t₁) (survivors_in t₁) t₂)

-- One table is at least as good as the other on shares exactly if it is no dearer at the break-even prices of its own blocks, at which
-- missing a block's share of the defaults costs as much as turning its share of the survivors away.
abbrev pub BreakEvenSharesDecide : Type 0
BreakEvenSharesDecide =
    (t₁ t₂ : Table) → Mixed t₁ → Mixed t₂
    → AtLeastAsGoodByShares t₁ t₂
    ↔ Every (λ b. NoDearerByShares (survivors b * defaults_in t₁) (b.defaults * survivors_in t₁) t₁ t₂) (pooled_scale t₁)

-- Every verdict on shares calls the first at least as good exactly if at no prices it costs more than the second, and otherwise carries
-- prices at which it does. The same for the second.
abbrev pub SharesSettle : Type 0
SharesSettle = (t₁ t₂ : Table) → Mixed t₁ → Mixed t₂ → (v : Verdict) → IsVerdictByShares t₁ t₂ v → SettlesByShares t₁ t₂ v

-- "On tables with equal totals it must agree in verdict with the first comparison": at least as good means the same,
abbrev pub EqualTotalsAgree : Type 0
EqualTotalsAgree =
    (t₁ t₂ : Table) → Mixed t₁ → Mixed t₂ → defaults_in t₁ ≡ defaults_in t₂ → survivors_in t₁ ≡ survivors_in t₂
    → AtLeastAsGoodByShares t₁ t₂ ↔ AtLeastAsGood t₁ t₂

-- and every verdict on shares is of the kind of every verdict of the first comparison.
abbrev pub EqualTotalsHaveOneVerdict : Type 0
EqualTotalsHaveOneVerdict =
    (t₁ t₂ : Table) → Mixed t₁ → Mixed t₂ → defaults_in t₁ ≡ defaults_in t₂ → survivors_in t₁ ≡ survivors_in t₂
    → (v w : Verdict) → IsVerdictByShares t₁ t₂ v → IsVerdict t₁ t₂ w
    → (calls_first v ≡ calls_first w) × (calls_second v ≡ calls_second w)

-- k times as many obligors and defaults in each grade
abbrev pub multiple : ℕ → Table → Table
multiple k t = map (λ r. record { obligors = k * r.obligors; defaults = k * r.defaults; announced = r.announced }) t

-- "Although the books differ in size": a table k times as large costs the same on shares at all prices,
abbrev pub MultiplesAreEqual : Type 0
MultiplesAreEqual =
    (t : Table) → Mixed t → (k : ℕ) → 1 ≤ k
    → (u v : ℕ) (c d : Fraction) → IsCheapestShare t u v c → IsCheapestShare (multiple k t) u v d → Equal c d

-- tables j and k times as large are at least as good exactly where the tables are,
abbrev pub MultiplesAreAsGood : Type 0
MultiplesAreAsGood =
    (t₁ t₂ : Table) → Mixed t₁ → Mixed t₂ → (j k : ℕ) → 1 ≤ j → 1 ≤ k
    → AtLeastAsGoodByShares t₁ t₂ ↔ AtLeastAsGoodByShares (multiple j t₁) (multiple k t₂)

-- and have the same verdict.
abbrev pub MultiplesKeepTheVerdict : Type 0
MultiplesKeepTheVerdict =
    (t₁ t₂ : Table) → Mixed t₁ → Mixed t₂ → (j k : ℕ) → 1 ≤ j → 1 ≤ k
    → (v w : Verdict) → IsVerdictByShares t₁ t₂ v → IsVerdictByShares (multiple j t₁) (multiple k t₂) w
    → (calls_first v ≡ calls_first w) × (calls_second v ≡ calls_second w)

-- All of them: what the function `claims` of this crate promises.
pub record Claims : Type 0 where
  pub cheapest_share_is_cheapest : CheapestShareIsCheapest
  pub cheapest_share_is_unique : CheapestShareIsUnique
  pub share_costs_are_proper : ShareCostsAreProper
  pub shares_are_weights : SharesAreWeights
  pub break_even_shares_decide : BreakEvenSharesDecide
  pub shares_settle : SharesSettle
  pub equal_totals_agree : EqualTotalsAgree
  pub equal_totals_have_one_verdict : EqualTotalsHaveOneVerdict
  pub multiples_are_equal : MultiplesAreEqual
  pub multiples_are_as_good : MultiplesAreAsGood
  pub multiples_keep_the_verdict : MultiplesKeepTheVerdict
