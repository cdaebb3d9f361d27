-- Weights play no part on shares: with each default counted a times and each survivor b times, a cutoff costs what it did. Nor does the size of
-- a book: in a multiple of it defaults and survivors have one weight.
use Prim.Native.Nat.{ℕ, ◌+◌, ◌*◌, ◌≤◌}
use mathlib.Core.Path.{◌≡◌, refl}
use mathlib.Core.Logic.Iff
use mathlib.Core.Logic.{◌↔◌}
use mathlib.Core.List.{[], ◌∷◌}
use native.Mathlib.Nat.{mul-sub, mul-pos, mul-le-mul_left, le_of_mul-le-mul_left}
use native.Mathlib.Omega.{arith}
use Rattle.table.specs.Table.{Table, Every, Counted, Mixed, survivors, defaults_in, survivors_in}
use Rattle.pooling.specs.Fraction.{Fraction, Equal}
use Rattle.cutoff.specs.Weighted.{weighted}
use Rattle.cutoff.proofs.Weighted.{weighted_defaults, weighted-survivors, weighted_counted, weighted-cost, cost-times}
use Rattle.shares.specs.Shares.{IsCheapestShare, NoDearerByShares, AtLeastAsGoodByShares}
use Rattle.shares.specs.Claims.{multiple}
use Rattle.shares.proofs.Shares.{pairs_in, share, compared, no-dearer-by-shares}

-- w costs on shares what t does: its D S and its numerators are the same multiple of those of t.
pub record SameShares (w t : Table) : Type 0 where
  pub mixed : Mixed w
  pub factor : ℕ
  pub positive : 1 ≤ factor
  pub pairs : pairs_in w ≡ factor * pairs_in t
  pub shares : (u v : ℕ) → share w u v ≡ factor * share t u v

-- A common factor plays no part in a comparison.
pub times_le : (k m n : ℕ) → 1 ≤ k → (k * m ≤ k * n) ↔ (m ≤ n)
times_le k m n pos = (λ h. le_of_mul-le-mul_left {k = k} h pos, λ h. mul-le-mul_left k h)

same_equal : {w : Table} (t : Table) → Mixed t → SameShares w t
    → (u v : ℕ) (c d : Fraction) → IsCheapestShare t u v c → IsCheapestShare w u v d → Equal c d
same_equal {w} t mixed same u v c d p q = omega (arith, rw (same.pairs, same.shares u v) at (compared t w mixed same.mixed u v c d p q))

module _ {w₁ w₂ : Table} (t₁ t₂ : Table) (mixed₁ : Mixed t₁) (mixed₂ : Mixed t₂) (same₁ : SameShares w₁ t₁) (same₂ : SameShares w₂ t₂) where
  pub same_no_dearer : (u v : ℕ) → NoDearerByShares u v w₁ w₂ ↔ NoDearerByShares u v t₁ t₂
  same_no_dearer u v =
      let k : ℕ = same₁.factor * same₂.factor in
      let one : pairs_in w₂ * share w₁ u v ≡ k * (pairs_in t₂ * share t₁ u v) = rw (same₂.pairs, same₁.shares u v) (omega arith) in
      let two : pairs_in w₁ * share w₂ u v ≡ k * (pairs_in t₁ * share t₂ u v) = rw (same₁.pairs, same₂.shares u v) (omega arith) in
      Iff.trans (rw (one, two) at (no-dearer-by-shares w₁ w₂ same₁.mixed same₂.mixed u v))
      (Iff.trans (times_le k _ _ (mul-pos same₁.positive same₂.positive)) (Iff.symm (no-dearer-by-shares t₁ t₂ mixed₁ mixed₂ u v)))

  pub same_agree : AtLeastAsGoodByShares w₁ w₂ ↔ AtLeastAsGoodByShares t₁ t₂
  same_agree = (λ h u v. (same_no_dearer u v).0 (h u v), λ h u v. (same_no_dearer u v).1 (h u v))

-- Weights.

share_weighted : (a b : ℕ) (t : Table) (u v : ℕ) → share (weighted a b t) u v ≡ a * b * share t u v
share_weighted a b t u v =
    let missed : u * (b * survivors_in t) * a ≡ a * b * (u * survivors_in t) = omega arith in
    let turned-away : v * (a * defaults_in t) * b ≡ a * b * (v * defaults_in t) = omega arith in
    rw (weighted-survivors a b t, weighted_defaults a b t, weighted-cost a b t (u * (b * survivors_in t)) (v * (a * defaults_in t)))
    (rw (missed, turned-away) (cost-times (a * b) t (u * survivors_in t) (v * defaults_in t)))

pub weighted_same : (a b : ℕ) → 1 ≤ a → 1 ≤ b → (t : Table) → Mixed t → SameShares (weighted a b t) t
weighted_same a b a-pos b-pos t mixed =
    let d = weighted_defaults a b t in
    let s = weighted-survivors a b t in
    record {
      mixed = record {
        counted = weighted_counted a b t;
        defaulted = rw d (mul-pos a-pos mixed.defaulted);
        survived = rw s (mul-pos b-pos mixed.survived);
      };
      factor = a * b;
      positive = mul-pos a-pos b-pos;
      pairs = rw (d, s) (omega arith);
      shares = share_weighted a b t;
    }

-- Multiples.

multiple-weighted : (k : ℕ) (t : Table) → Every Counted t → multiple k t ≡ weighted k k t
multiple-weighted k [] h = refl
multiple-weighted k (r ∷ t) h =
    let n : k * r.obligors ≡ k * r.defaults + k * survivors r =
    omega (arith, mul-sub k r.obligors r.defaults, mul-le-mul_left k h.0) in
    rw (n, multiple-weighted k t h.1)

pub multiple_same : (k : ℕ) → 1 ≤ k → (t : Table) → Mixed t → SameShares (multiple k t) t
multiple_same k pos t mixed = rw (multiple-weighted k t mixed.counted) (weighted_same k k pos pos t mixed)

pub multiples_equal : (t : Table) → Mixed t → (k : ℕ) → 1 ≤ k
    → (u v : ℕ) (c d : Fraction) → IsCheapestShare t u v c → IsCheapestShare (multiple k t) u v d → Equal c d
multiples_equal t mixed k pos = same_equal t mixed (multiple_same k pos t mixed)

pub multiples_as_good : (t₁ t₂ : Table) → Mixed t₁ → Mixed t₂ → (j k : ℕ) → 1 ≤ j → 1 ≤ k
    → AtLeastAsGoodByShares t₁ t₂ ↔ AtLeastAsGoodByShares (multiple j t₁) (multiple k t₂)
multiples_as_good t₁ t₂ mixed₁ mixed₂ j k j_pos k-pos =
    Iff.symm (same_agree t₁ t₂ mixed₁ mixed₂ (multiple_same j j_pos t₁ mixed₁) (multiple_same k k-pos t₂ mixed₂))
