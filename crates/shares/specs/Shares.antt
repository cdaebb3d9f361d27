-- What a cutoff costs on shares, so that scales of different books compare (document 02, R-6). D and S are the table's own totals.
use Rattle.std.specs.Prelude.{ℕ, ◌+◌, ◌-◌, ◌*◌, ◌≤◌, ◌<◌, ◌≡◌, ltb, length}
use Rattle.table.specs.Table.{Table, defaults_in, survivors_in}
use Rattle.pooling.specs.Fraction.{Fraction, AtMost, ratio, sum}
use Rattle.cutoff.specs.Best.{best}
use Rattle.cutoff.specs.Cutoff.{caught, lost}

-- "A second comparison works on shares: a cutoff costs u(D − y)/D + vx/S."
unfoldable pub share_cost : Table → ℕ → ℕ → ℕ → Fraction
share_cost t u v g = sum (ratio (u * (defaults_in t - caught t g)) (defaults_in t)) (ratio (v * lost t g) (survivors_in t))

-- c is the cheapest cost of t on shares at u and v: some cutoff has it, and every cutoff costs at least as much.
pub record IsCheapestShare (t : Table) (u v : ℕ) (c : Fraction) : Type 0 where
  pub cutoff : ℕ
  pub within : cutoff ≤ length t
  pub costs : share_cost t u v cutoff ≡ c
  pub least : (h : ℕ) → h ≤ length t → AtMost c (share_cost t u v h)

-- the cheapest cost: those of all cutoffs are over D S, so that their numerators compare them
unfoldable pub cheapest_share : Table → ℕ → ℕ → Fraction
cheapest_share t u v = share_cost t u v (best ltb (λ g. (share_cost t u v g).plus) (length t))

-- At u and v the cheapest cost of t₁ on shares is no more than that of t₂.
abbrev pub NoDearerByShares : ℕ → ℕ → Table → Table → Type 0
NoDearerByShares u v t₁ t₂ = (c₁ c₂ : Fraction) → IsCheapestShare t₁ u v c₁ → IsCheapestShare t₂ u v c₂ → AtMost c₁ c₂

-- t₁ is at least as good as t₂ on shares: "under the same meaning over all whole-number prices".
abbrev pub AtLeastAsGoodByShares : Table → Table → Type 0
AtLeastAsGoodByShares t₁ t₂ = (u v : ℕ) → NoDearerByShares u v t₁ t₂

-- x is less than y
abbrev pub Below : Fraction → Fraction → Type 0
Below x y = x.plus * y.over + y.minus * x.over < y.plus * x.over + x.minus * y.over
