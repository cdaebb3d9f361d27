-- The verdict on shares: "It gives the same four verdicts, under the same meaning over all whole-number prices."
use Rattle.std.specs.Prelude.{◌+◌, ◌*◌, ◌≤◌, ◌≡◌, ◌↔◌, Bool, T, leb}
use Rattle.table.specs.Table.{Table, Grade, survivors, defaults_in, survivors_in}
use Rattle.pooling.specs.Pool.{pooled_scale}
use Rattle.pooling.specs.Fraction.{Fraction}
use Rattle.cutoff.specs.Verdict.{calls_first, calls_second, FirstDearer, SecondDearer, all}
use Rattle.cutoff.specs.declared.Price.{Price}
use Rattle.cutoff.specs.declared.Verdict.{Verdict}
use Rattle.shares.specs.Shares.{IsCheapestShare, cheapest_share, AtLeastAsGoodByShares, Below}

-- At the prices p t₁ costs more than t₂ on shares. "The pairs carried have prices up to 2,500,000,000."
pub record DearerByShares (t₁ t₂ : Table) (p : Price) : Type 0 where
  pub missed : p.u ≤ 2_500_000_000
  pub turned-away : p.v ≤ 2_500_000_000
  pub more : (c₁ c₂ : Fraction) → IsCheapestShare t₁ p.u p.v c₁ → IsCheapestShare t₂ p.u p.v c₂ → Below c₂ c₁

-- the prices at which missing a grade's defaults costs as much as turning its survivors away, each as a share of t's
abbrev pub break_even_share : Table → Grade → Price
break_even_share t b = record { u = survivors b * defaults_in t; v = b.defaults * survivors_in t }

-- x is at most y
abbrev pub at_most : Fraction → Fraction → Bool
at_most x y = leb (x.plus * y.over + y.minus * x.over) (y.plus * x.over + x.minus * y.over)

-- At prices p t₁ costs no more than t₂ on shares.
abbrev pub no_dearer_by_shares : Table → Table → Price → Bool
no_dearer_by_shares t₁ t₂ p = at_most (cheapest_share t₁ p.u p.v) (cheapest_share t₂ p.u p.v)

-- t₁ costs no more than t₂ at the break-even prices of its own blocks, and so at all prices: `BreakEvenSharesDecide`.
abbrev pub never_dearer_by_shares : Table → Table → Bool
never_dearer_by_shares t₁ t₂ = all (λ b. no_dearer_by_shares t₁ t₂ (break_even_share t₁ b)) (pooled_scale t₁)

-- What a verdict may be. Its kind is given; its pairs are only limited: "The pairs carried have prices up to 2,500,000,000."
pub record IsVerdictByShares (t₁ t₂ : Table) (v : Verdict) : Type 0 where
  pub first : calls_first v ≡ never_dearer_by_shares t₁ t₂
  pub second : calls_second v ≡ never_dearer_by_shares t₂ t₁
  pub first-dearer : (p : Price) → FirstDearer v p → DearerByShares t₁ t₂ p
  pub second-dearer : (p : Price) → SecondDearer v p → DearerByShares t₂ t₁ p

-- What a verdict is for: it calls the first at least as good exactly if at every pair of prices its cheapest cutoff costs no more on shares
-- than the second's, and otherwise carries a pair at which the first costs more. The same for the second.
pub record SettlesByShares (t₁ t₂ : Table) (v : Verdict) : Type 0 where
  pub first : T (calls_first v) ↔ AtLeastAsGoodByShares t₁ t₂
  pub first_pair : (T (calls_first v) → ⊥) → (p : Price) × FirstDearer v p × DearerByShares t₁ t₂ p
  pub second : T (calls_second v) ↔ AtLeastAsGoodByShares t₂ t₁
  pub second_pair : (T (calls_second v) → ⊥) → (p : Price) × SecondDearer v p × DearerByShares t₂ t₁ p
