-- The verdict: which of two scales over the same obligors is better, and the prices that show it.
use Rattle.std.specs.Prelude.{ℕ, ◌≤◌, ◌<◌, ◌≡◌, ◌↔◌, Bool, true, false, ◌&&◌, [], ◌∷◌, T, leb}
use Rattle.table.specs.Table.{Table, Grade, survivors}
use Rattle.pooling.specs.Pool.{pooled_scale}
use Rattle.cutoff.specs.Cutoff.{IsCheapest, cheapest_of, AtLeastAsGood}
use Rattle.cutoff.specs.declared.Price.{Price}
use Rattle.cutoff.specs.declared.Verdict.{Verdict}
use Rattle.cutoff.specs.declared.Verdict.TheVariants.{Equal, First, Second, Crossing}

-- "Equal and First call the first at least as good; Equal and Second the second."
abbrev pub calls_first : Verdict → Bool
calls_first Equal = true
calls_first (First p) = true
calls_first (Second p) = false
calls_first (Crossing p q) = false

abbrev pub calls_second : Verdict → Bool
calls_second Equal = true
calls_second (First p) = false
calls_second (Second p) = true
calls_second (Crossing p q) = false

-- "First, with a price pair at which the second costs more; Second, with a pair at which the first costs more; Crossing, with one
-- pair of each sort, the one at which the first costs more standing first": r is carried as a pair at which the first costs more,
-- and as one at which the second does.
abbrev pub FirstDearer : Verdict → Price → Type 0
FirstDearer Equal r = ⊥
FirstDearer (First p) r = ⊥
FirstDearer (Second p) r = r ≡ p
FirstDearer (Crossing p q) r = r ≡ p

abbrev pub SecondDearer : Verdict → Price → Type 0
SecondDearer Equal r = ⊥
SecondDearer (First p) r = r ≡ p
SecondDearer (Second p) r = ⊥
SecondDearer (Crossing p q) r = r ≡ q

-- At the prices p, each at most 1,000,000, t₁ costs more than t₂.
pub record DearerAt (t₁ t₂ : Table) (p : Price) : Type 0 where
  pub missed : p.u ≤ 1_000_000
  pub turned-away : p.v ≤ 1_000_000
  pub more : (c₁ c₂ : ℕ) → IsCheapest t₁ p.u p.v c₁ → IsCheapest t₂ p.u p.v c₂ → c₂ < c₁

-- the prices at which missing a grade's defaults costs as much as turning its survivors away
abbrev pub break_even_lem : Grade → Price
break_even_lem b = record { u = survivors b; v = b.defaults }

-- At prices p t₁ costs no more than t₂.
abbrev pub no_dearer_at : Table → Table → Price → Bool
no_dearer_at t₁ t₂ p = leb (cheapest_of t₁ p.u p.v).cost (cheapest_of t₂ p.u p.v).cost

unfoldable pub all : (Grade → Bool) → Table → Bool
all test [] = true
all test (b ∷ t) = test b && all test t

-- t₁ costs no more than t₂ at the break-even prices of its own blocks, and so at all prices: `BreakEvenPricesDecide`.
abbrev pub never_dearer_lem : Table → Table → Bool
never_dearer_lem t₁ t₂ = all (λ b. no_dearer_at t₁ t₂ (break_even_lem b)) (pooled_scale t₁)

-- What a verdict may be. Its kind is given; its pairs are only limited, since "which pair is carried is free; its prices are at most
-- 1,000,000 and its costs differ as said".
pub record IsVerdict (t₁ t₂ : Table) (v : Verdict) : Type 0 where
  pub first : calls_first v ≡ never_dearer_lem t₁ t₂
  pub second : calls_second v ≡ never_dearer_lem t₂ t₁
  pub first-dearer : (p : Price) → FirstDearer v p → DearerAt t₁ t₂ p
  pub second-dearer : (p : Price) → SecondDearer v p → DearerAt t₂ t₁ p

-- What a verdict is for: it calls the first at least as good exactly if at every pair of prices its cheapest cutoff costs no more than
-- the second's, and otherwise carries a pair at which the first costs more. The same for the second.
pub record Settles (t₁ t₂ : Table) (v : Verdict) : Type 0 where
  pub first : T (calls_first v) ↔ AtLeastAsGood t₁ t₂
  pub first_pair : (T (calls_first v) → ⊥) → (p : Price) × FirstDearer v p × DearerAt t₁ t₂ p
  pub second : T (calls_second v) ↔ AtLeastAsGood t₂ t₁
  pub second_pair : (T (calls_second v) → ⊥) → (p : Price) × SecondDearer v p × DearerAt t₂ t₁ p
