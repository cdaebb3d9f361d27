-- Serves contracts of functions inside the library only: what is promised does not rest on it.
-- The search for prices at which one scale costs more than another, each in its weights, and the verdict that two searches make.
use Rattle.std.specs.Prelude.{ℕ, suc, ◌-◌, ◌*◌, ◌≤◌, ◌<◌, ◌≡◌, cond, List, [], ◌∷◌, map, leb, ℤ, pos, nat_abs, ◌+ℤ◌, ◌-ℤ◌, length, drop, Option, Some, None}
use Rattle.std.proofs.Math.IntN.{sub_ℕ}
use Rattle.table.specs.Table.{Table, Grade, Every, Occupied, Counted, survivors, defaults_in, survivors_in, obligors_in}
use Rattle.table.specs.Counts.{largest}
use Rattle.pooling.specs.declared.Block.{Block}
use Rattle.pooling.specs.Pool.{Rising, as_grade}
use Rattle.cutoff.specs.Cutoff.{IsCheapest, NoDearer}
use Rattle.cutoff.specs.Verdict.{calls_first, calls_second, FirstDearer, SecondDearer, never_dearer_lem}
use Rattle.cutoff.specs.Weighted.{weighted}
use Rattle.cutoff.specs.declared.Weights.{Weights}
use Rattle.cutoff.specs.declared.Counts.{Counts}
use Rattle.cutoff.specs.declared.Lead.{Lead}
use Rattle.cutoff.specs.declared.Price.{Price}
use Rattle.cutoff.specs.declared.Verdict.{Verdict}
use Rattle.cutoff.specs.declared.Verdict.TheVariants.{Equal, First, Second, Crossing}

-- The scales.

-- the scale whose grades are these blocks
abbrev pub scale_in : List Block → Table
scale_in bs = map as_grade bs

-- What is known of the blocks of a sound table.
pub record Sweepable (bs : List Block) : Type 0 where
  pub rising : Rising bs
  pub occupied : Every Occupied (scale_in bs)
  pub counted : Every Counted (scale_in bs)
  pub total : obligors_in (scale_in bs) ≤ 1_000_000

abbrev pub in_weights : Weights → Table → Table
in_weights w t = weighted w.defaults w.survivors.0 t

-- each counts once
abbrev pub once : Weights
once = record { defaults = 1; survivors = record { 0 = 1 } }

-- weights that a table of at most 100,000 obligors can have as its totals
abbrev pub Light : Weights → Type 0
Light w = (w.defaults ≤ 100_000) × (w.survivors.0 ≤ 100_000)

-- the most pairs of a default and a survivor in weights: 2,500,000,000 squared, which fits in 64 bits with a sign
abbrev pub most_pairs : ℕ
most_pairs = 6_250_000_000_000_000_000

-- Two scales with equally many defaults, equally many survivors and no more pairs than that.
pub record Matched (t₁ t₂ : Table) : Type 0 where
  pub same_defaults : defaults_in t₁ ≡ defaults_in t₂
  pub same_survivors : survivors_in t₁ ≡ survivors_in t₂
  pub few_pairs : defaults_in t₁ * survivors_in t₁ ≤ most_pairs

-- Two scales, each in its weights, that can be searched for where one of them costs more.
pub record Opposed (w₁ w₂ : Weights) (first second : List Block) : Type 0 where
  pub sweepable₁ : Sweepable first
  pub sweepable₂ : Sweepable second
  pub light₁ : Light w₁
  pub light₂ : Light w₂
  pub matched : Matched (in_weights w₁ (scale_in first)) (in_weights w₂ (scale_in second))

-- The search.

-- what a block counts in weights
abbrev pub counts_in : Weights → Grade → Counts
counts_in w b = record { defaults = w.defaults * b.defaults; survivors = w.survivors.0 * survivors b }

-- as many as a block of 1,000,000 obligors can count
abbrev pub Few : Counts → Type 0
Few c = (c.defaults ≤ 100_000_000_000) × (c.survivors ≤ 100_000_000_000)

-- well within 64 bits with a sign
abbrev pub FitsSigned : ℤ → Type 0
FitsSigned z = nat_abs z ≤ most_pairs

-- the lead once the second turns one more block away,
abbrev pub ahead : Lead → Counts → Lead
ahead l b = record { accepted = l.accepted - 1; defaults = l.defaults +ℤ pos b.defaults; survivors = l.survivors +ℤ pos b.survivors }

-- or the first
abbrev pub behind : Lead → Counts → Lead
behind l b = record { accepted = l.accepted; defaults = l.defaults -ℤ pos b.defaults; survivors = l.survivors -ℤ pos b.survivors }

-- the defaults that the cutoff which accepts the k best blocks of t catches, and the survivors that it turns away
abbrev pub caught_after : Weights → Table → ℕ → ℕ
caught_after w t k = w.defaults * defaults_in (drop k t)

abbrev pub lost_after : Weights → Table → ℕ → ℕ
lost_after w t k = w.survivors.0 * survivors_in (drop k t)

-- The lead l of that cutoff over one that catches y defaults and turns x survivors away.
pub record Leads (w : Weights) (t : Table) (k y x : ℕ) (l : Lead) : Type 0 where
  pub accepted : l.accepted ≡ k
  pub defaults : l.defaults ≡ sub_ℕ (caught_after w t k) y
  pub survivors : l.survivors ≡ sub_ℕ (lost_after w t k) x

-- It is the lead of some cutoff of t over one that catches and turns away few.
pub record IsLead (w : Weights) (t : Table) (l : Lead) : Type 0 where
  pub caught : ℕ
  pub lost : ℕ
  pub few : l.accepted ≤ length t
  pub few_caught : caught ≤ 100_000_000_000
  pub few_lost : lost ≤ 100_000_000_000
  pub leads : Leads w t l.accepted caught lost l

-- how many blocks are accepted at u and v: those before the first whose survivors cost no more than its defaults
unfoldable pub accepted_at : ℕ → ℕ → Table → ℕ
accepted_at u v [] = 0
accepted_at u v (b ∷ t) = cond (leb (v * survivors b) (u * b.defaults)) 0 (suc (accepted_at u v t))

-- how many in weights at the break-even prices of a block
abbrev pub accepted_in : Weights → Counts → Table → ℕ
accepted_in w at t = accepted_at (at.survivors * w.defaults) (at.defaults * w.survivors.0) t

-- What all survivors, and all defaults, of t cost at these is small.
abbrev pub SmallIn : Weights → Table → Counts → Type 0
SmallIn w t at =
    (at.defaults * (w.survivors.0 * survivors_in t) ≤ most_pairs)
    × (at.survivors * (w.defaults * defaults_in t) ≤ most_pairs)

-- Whatever cutoff l is ahead of, r is the lead over it of the one that accepts so many.
abbrev pub Turned : Weights → Counts → Table → Lead → Lead → Type 0
Turned w at t l r = (k y x : ℕ) → Leads w t k y x l → Leads w t (accepted_in w at t) y x r

-- At the break-even prices of b, which has no more defaults and no more survivors than t₁, t₁ costs more than t₂, each in its weights.
pub record DearerAtBlock (w₁ w₂ : Weights) (t₁ t₂ : Table) (b : Block) : Type 0 where
  pub counted : Counted (as_grade b)
  pub few_defaults : b.defaults ≤ defaults_in t₁
  pub few_survivors : survivors (as_grade b) ≤ survivors_in t₁
  pub more : (c₁ c₂ : ℕ)
      → IsCheapest (in_weights w₁ t₁) (w₁.survivors.0 * survivors (as_grade b)) (w₁.defaults * b.defaults) c₁
      → IsCheapest (in_weights w₂ t₂) (w₁.survivors.0 * survivors (as_grade b)) (w₁.defaults * b.defaults) c₂
      → c₂ < c₁

-- such a block; or t₁ costs no more at the break-even prices of any of its own grades
abbrev pub Finds : Weights → Weights → Table → Table → Option Block → Type 0
Finds w₁ w₂ t₁ t₂ (Some b) = DearerAtBlock w₁ w₂ t₁ t₂ b
Finds w₁ w₂ t₁ t₂ None = Every (λ b. NoDearer (survivors b) b.defaults (in_weights w₁ t₁) (in_weights w₂ t₂)) (in_weights w₁ t₁)

-- The prices.

-- the break-even prices of a block, in the other scale's weights
abbrev pub price_in : Weights → Block → Price
price_in other b = record { u = survivors (as_grade b) * other.defaults; v = b.defaults * other.survivors.0 }

-- They are numbers of 32 bits,
abbrev pub SmallPrice : Weights → Option Block → Type 0
SmallPrice other (Some b) = Counted (as_grade b) × (((price_in other b).u ≤ largest) × ((price_in other b).v ≤ largest))
SmallPrice other None = Unit {0}

-- as is what all survivors, and all defaults, of t count in these weights.
abbrev pub SmallPrices : Weights → Table → Type 0
SmallPrices other t = (survivors_in t * other.defaults ≤ largest) × (defaults_in t * other.survivors.0 ≤ largest)

abbrev pub dearer_at : Weights → Option Block → Option Price
dearer_at other (Some b) = Some (price_in other b)
dearer_at other None = None

-- The prices of a block that a search finds.
pub record FindsPrices (w₁ w₂ : Weights) (t₁ t₂ : Table) (p : Option Price) : Type 0 where
  pub block : Option Block
  pub finds : Finds w₁ w₂ t₁ t₂ block
  pub prices : p ≡ dearer_at w₂ block

-- The verdict.

-- the verdict that two searches make
abbrev pub verdict_of : Option Price → Option Price → Verdict
verdict_of None None = Equal
verdict_of None (Some q) = First q
verdict_of (Some p) None = Second p
verdict_of (Some p) (Some q) = Crossing p q

-- weights in which each default and each survivor counts
abbrev pub Positive : Weights → Type 0
Positive w = (1 ≤ w.defaults) × (1 ≤ w.survivors.0)

-- Two scales that can be searched both ways for prices.
pub record Comparable (w₁ w₂ : Weights) (first second : List Block) : Type 0 where
  pub opposed : Opposed w₁ w₂ first second
  pub positive : Positive w₁ × Positive w₂
  pub small : SmallPrices w₂ (scale_in first) × SmallPrices w₁ (scale_in second)

-- At the prices p, counted in both scales' weights, t₁ costs more than t₂, each in its own.
pub record DearerInWeights (w₁ w₂ : Weights) (t₁ t₂ : Table) (p : Price) : Type 0 where
  pub missed : p.u ≤ survivors_in t₁ * w₂.defaults
  pub turned-away : p.v ≤ defaults_in t₁ * w₂.survivors.0
  pub more : (c₁ c₂ : ℕ)
      → IsCheapest (in_weights w₁ t₁) (p.u * (w₁.survivors.0 * w₂.survivors.0)) (p.v * (w₁.defaults * w₂.defaults)) c₁
      → IsCheapest (in_weights w₂ t₂) (p.u * (w₁.survivors.0 * w₂.survivors.0)) (p.v * (w₁.defaults * w₂.defaults)) c₂
      → c₂ < c₁

-- What a verdict on two tables in weights may be: its kind is given, its pairs are limited.
pub record IsVerdictInWeights (w₁ w₂ : Weights) (t₁ t₂ : Table) (v : Verdict) : Type 0 where
  pub first : calls_first v ≡ never_dearer_lem (in_weights w₁ t₁) (in_weights w₂ t₂)
  pub second : calls_second v ≡ never_dearer_lem (in_weights w₂ t₂) (in_weights w₁ t₁)
  pub first-dearer : (p : Price) → FirstDearer v p → DearerInWeights w₁ w₂ t₁ t₂ p
  pub second-dearer : (p : Price) → SecondDearer v p → DearerInWeights w₂ w₁ t₂ t₁ p
