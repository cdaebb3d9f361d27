-- Cutoffs and prices. Cutoff g turns away the g worst grades, which are the last g of the table.
use Rattle.std.specs.Prelude.{ℕ, ◌+◌, ◌-◌, ◌*◌, ◌≤◌, ◌≡◌, ltb, length, drop}
use Rattle.table.specs.Table.{Table, defaults_in, survivors_in}
use Rattle.cutoff.specs.Best.{best}
use Rattle.cutoff.specs.declared.CheapestCutoff.{CheapestCutoff}

-- the grades that cutoff g turns away
unfoldable pub turned_away : Table → ℕ → Table
turned_away t g = drop (length t - g) t

-- y, the defaults that cutoff g catches, and x, the survivors that it turns away
abbrev pub caught : Table → ℕ → ℕ
caught t g = defaults_in (turned_away t g)

abbrev pub lost : Table → ℕ → ℕ
lost t g = survivors_in (turned_away t g)

-- u (D - y) + v x: what cutoff g costs at price u of a missed default and v of a survivor turned away
unfoldable pub cost : Table → ℕ → ℕ → ℕ → ℕ
cost t u v g = u * (defaults_in t - caught t g) + v * lost t g

-- c is the cheapest cost of t at u and v: some cutoff has it, and every cutoff costs at least as much.
pub record IsCheapest (t : Table) (u v c : ℕ) : Type 0 where
  pub cutoff : ℕ
  pub within : cutoff ≤ length t
  pub costs : cost t u v cutoff ≡ c
  pub least : (h : ℕ) → h ≤ length t → c ≤ cost t u v h

-- the cheapest cutoff, the smallest among equals, and what it costs
abbrev pub cheapest_at : Table → ℕ → ℕ → ℕ
cheapest_at t u v = best ltb (cost t u v) (length t)

unfoldable pub cheapest_of : Table → ℕ → ℕ → CheapestCutoff
cheapest_of t u v = record { cutoff = cheapest_at t u v; cost = cost t u v (cheapest_at t u v) }

-- At u and v the cheapest cost of t₁ is no more than that of t₂.
abbrev pub NoDearer : ℕ → ℕ → Table → Table → Type 0
NoDearer u v t₁ t₂ = (c₁ c₂ : ℕ) → IsCheapest t₁ u v c₁ → IsCheapest t₂ u v c₂ → c₁ ≤ c₂

-- t₁ is at least as good as t₂: at every pair of whole-number prices, however high.
abbrev pub AtLeastAsGood : Table → Table → Type 0
AtLeastAsGood t₁ t₂ = (u v : ℕ) → NoDearer u v t₁ t₂
