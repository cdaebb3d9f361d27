-- What a cutoff costs on shares is what it costs on counts at other prices, u S of a missed default and v D of a survivor turned away, over D S.
-- So the cheapest cutoffs are those on counts at these prices, and costs on shares compare as their numerators do, each times the other's D S.
use Prim.Native.Nat.{ℕ, ◌+◌, ◌*◌, ◌≤◌}
use mathlib.Core.Path.{◌≡◌, refl}
use mathlib.Core.Logic.{◌↔◌}
use native.Mathlib.Nat.{mul-pos, mul-le-mul_left, le_of_mul-le-mul_left}
use native.Mathlib.Omega.{arith}
use native.Mathlib.Decide.{dec_le}
use lib.Dec.{ltb, nltb→le}
use lib.ListN.{length}
use Rattle.table.specs.Table.{Table, Mixed, defaults_in, survivors_in}
use Rattle.pooling.specs.Fraction.{Fraction, Proper, Equal, ratio, sum}
use Rattle.cutoff.specs.Best.{best}
use Rattle.cutoff.specs.Cutoff.{cost}
use Rattle.cutoff.proofs.Best.{is_best, ltb_order}
use Rattle.cutoff.proofs.Cost.{cheapest_cost, is_cheapest}
use Rattle.shares.specs.Shares.{share_cost, IsCheapestShare, cheapest_share, NoDearerByShares, Below}

-- D S
abbrev pub pairs_in : Table → ℕ
pairs_in t = defaults_in t * survivors_in t

pub pairs_pos : {t : Table} → Mixed t → 1 ≤ pairs_in t
pairs_pos mixed = mul-pos mixed.defaulted mixed.survived

-- the numerator of the cheapest cost
abbrev pub share : Table → ℕ → ℕ → ℕ
share t u v = cheapest_cost t (u * survivors_in t) (v * defaults_in t)

-- x in the comparison of x with y: x is at most y exactly if this is at most `scaled y x`
abbrev pub scaled : Fraction → Fraction → ℕ
scaled x y = x.plus * y.over + y.minus * x.over

-- What a cutoff costs.

pub share_costs_proper : (t : Table) → Mixed t → (u v g : ℕ) → Proper (share_cost t u v g)
unfolding share_cost sum ratio
share_costs_proper t mixed u v g = pairs_pos mixed

cutoff_scaled : (t₁ t₂ : Table) (u v g h : ℕ)
    → scaled (share_cost t₁ u v g) (share_cost t₂ u v h) ≡ pairs_in t₂ * cost t₁ (u * survivors_in t₁) (v * defaults_in t₁) g
unfolding share_cost sum ratio cost
cutoff_scaled t₁ t₂ u v g h = omega arith

-- What the cheapest costs.

pub cheapest-share : (t : Table) (u v : ℕ) → IsCheapestShare t u v (cheapest_share t u v)
unfolding cheapest_share share_cost sum ratio
cheapest-share t u v =
    let b = is_best ltb ltb_order (λ g. (share_cost t u v g).plus) (length t) in
    record {
      cutoff = best ltb (λ g. (share_cost t u v g).plus) (length t);
      within = b.within;
      costs = refl;
      least = λ h l.
          let le : (cheapest_share t u v).plus ≤ (share_cost t u v h).plus = nltb→le _ _ (b.none_better h l) in
          omega (arith, mul-le-mul_left (pairs_in t) le);
    }

pub cheapest_shares_equal : (t : Table) (u v : ℕ) (c d : Fraction) → IsCheapestShare t u v c → IsCheapestShare t u v d → Equal c d
cheapest_shares_equal t u v c d p q =
    omega (arith, rw q.costs at (p.least q.cutoff q.within), rw p.costs at (q.least p.cutoff p.within))

-- Its cutoff is the cheapest on counts, too, at the prices u S and v D.
cheapest_on_counts : (t : Table) → Mixed t → (u v : ℕ) (c : Fraction) (p : IsCheapestShare t u v c)
    → cost t (u * survivors_in t) (v * defaults_in t) p.cutoff ≡ share t u v
cheapest_on_counts t mixed u v c p =
    (is_cheapest t (u * survivors_in t) (v * defaults_in t) _).0 (record {
      cutoff = p.cutoff;
      within = p.within;
      costs = refl;
      least = λ h l.
          le_of_mul-le-mul_left {k = pairs_in t}
          (omega (
            arith,
            p.least h l,
            rw p.costs at (cutoff_scaled t t u v p.cutoff h),
            rw p.costs at (cutoff_scaled t t u v h p.cutoff),
          ))
          (pairs_pos mixed);
    })

cheapest_scaled : (t₁ t₂ : Table) → Mixed t₁ → (u v : ℕ) (c₁ c₂ : Fraction) → IsCheapestShare t₁ u v c₁ → IsCheapestShare t₂ u v c₂
    → scaled c₁ c₂ ≡ pairs_in t₂ * share t₁ u v
cheapest_scaled t₁ t₂ mixed₁ u v c₁ c₂ p₁ p₂ =
    rw (p₁.costs, p₂.costs, cheapest_on_counts t₁ mixed₁ u v c₁ p₁) at (cutoff_scaled t₁ t₂ u v p₁.cutoff p₂.cutoff)

-- Comparing.

module _ (t₁ t₂ : Table) (mixed₁ : Mixed t₁) (mixed₂ : Mixed t₂) (u v : ℕ) where
  pub compared : (c₁ c₂ : Fraction) → IsCheapestShare t₁ u v c₁ → IsCheapestShare t₂ u v c₂
      → (scaled c₁ c₂ ≡ pairs_in t₂ * share t₁ u v) × (scaled c₂ c₁ ≡ pairs_in t₁ * share t₂ u v)
  compared c₁ c₂ p₁ p₂ = (cheapest_scaled t₁ t₂ mixed₁ u v c₁ c₂ p₁ p₂, cheapest_scaled t₂ t₁ mixed₂ u v c₂ c₁ p₂ p₁)

  pub no-dearer-by-shares : NoDearerByShares u v t₁ t₂ ↔ (pairs_in t₂ * share t₁ u v ≤ pairs_in t₁ * share t₂ u v)
  no-dearer-by-shares =
      let one = cheapest-share t₁ u v in
      let two = cheapest-share t₂ u v in (
        λ h. omega (arith, h _ _ one two, compared _ _ one two),
        λ h c₁ c₂ p₁ p₂. omega (arith, compared c₁ c₂ p₁ p₂),
      )

  pub dearer_by_shares : (NoDearerByShares u v t₁ t₂ → ⊥)
      → (c₁ c₂ : Fraction) → IsCheapestShare t₁ u v c₁ → IsCheapestShare t₂ u v c₂ → Below c₂ c₁
  dearer_by_shares h c₁ c₂ p₁ p₂ =
      elim (dec_le (pairs_in t₂ * share t₁ u v) (pairs_in t₁ * share t₂ u v)) [
        | yes le ↦ absurd (h (no-dearer-by-shares.1 le))
        | no gt ↦ omega (arith, compared c₁ c₂ p₁ p₂)
      ]
