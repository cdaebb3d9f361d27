-- A verdict in weights, each table in those of the other, is a verdict on shares. Of tables with at most 100,000 obligors D S, which no
-- break-even price is above, is at most 2,500,000,000, and the counts in the weights are small enough to be searched.
use Prim.Native.Nat.{ℕ, ◌+◌, ◌*◌, ◌≤◌}
use mathlib.Core.Path.{◌≡◌, ap, ◌∙◌}
use mathlib.Core.Logic.Iff
use native.Mathlib.Nat.{mul-le-mul}
use native.Mathlib.Omega.{arith}
use native.Mathlib.Decide.{dec_le}
use Rattle.table.specs.Table.{Table, defaults_in, survivors_in}
use Rattle.table.specs.declared.Totals.{Totals}
use Rattle.table.specs.Counts.{totals_of_lem}
use Rattle.table.proofs.Arithmetic.{rearrange}
use Rattle.table.proofs.Sums.{obligors_split}
use Rattle.cutoff.specs.Verdict.{never_dearer_lem}
use Rattle.cutoff.specs.Sweep.{in_weights, Matched, DearerInWeights, IsVerdictInWeights}
use Rattle.cutoff.specs.declared.Price.{Price}
use Rattle.cutoff.specs.declared.Verdict.{Verdict}
use Rattle.cutoff.specs.declared.Weights.{Weights}
use Rattle.cutoff.proofs.Cost.{cheapest_is}
use Rattle.cutoff.proofs.Judged.{Weighable, Judges}
use Rattle.cutoff.proofs.Settled.{never-dearer}
use Rattle.cutoff.proofs.Weighted.{weighted_counted}
use Rattle.shares.specs.Verdict.{DearerByShares, never_dearer_by_shares, IsVerdictByShares}
use Rattle.shares.specs.Judge.{Shareable, total_weights}
use Rattle.shares.proofs.Shares.{pairs_in, dearer_by_shares}
use Rattle.shares.proofs.Totals.{weighted_by, defaults_by, survivors-by, same_defaults, same_survivors, in-weights, shares_are_weights}
use Rattle.shares.proofs.Settled.{same_decision, never-dearer-by-shares}

-- a table's totals, the weights of the other
abbrev table_weights : Table → Weights
table_weights t = record { defaults = defaults_in t; survivors = record { 0 = survivors_in t } }

-- The sizes.

-- Of two numbers with a given sum equal ones have the largest product.
half_squared : (m n : ℕ) → m + n ≤ 100_000 → m * n ≤ 2_500_000_000
half_squared m n h =
    elim (dec_le m n) [
      | yes le ↦ omega (arith, mul-le-mul h h, rearrange m n m n le le)
      | no gt ↦ let le : n ≤ m = omega arith in omega (arith, mul-le-mul h h, rearrange n m n m le le)
    ]

few_obligors : (t : Table) → Shareable t → defaults_in t + survivors_in t ≤ 100_000
few_obligors t s = omega (arith, s.few, obligors_split t s.sound.counted)

few_pairs : (t : Table) → Shareable t → pairs_in t ≤ 2_500_000_000
few_pairs t s = half_squared (defaults_in t) (survivors_in t) (few_obligors t s)

module _ (t₁ t₂ : Table) (shareable₁ : Shareable t₁) (shareable₂ : Shareable t₂) where
  matched : Matched (in_weights (table_weights t₂) t₁) (in_weights (table_weights t₁) t₂)
  matched =
      let d = defaults_by t₁ t₂ in
      let s = survivors-by t₁ t₂ in
      record {
        same_defaults = same_defaults t₁ t₂;
        same_survivors = same_survivors t₁ t₂;
        few_pairs = rw (d, s) (omega (arith, mul-le-mul (few_pairs t₁ shareable₁) (few_pairs t₂ shareable₂)));
      }

  weighable : Weighable (table_weights t₂) (table_weights t₁) t₁
  weighable = record {
    positive = (shareable₂.mixed.defaulted, shareable₂.mixed.survived);
    light = (omega (arith, few_obligors t₂ shareable₂), omega (arith, few_obligors t₂ shareable₂));
    small = (omega (arith, few_pairs t₁ shareable₁), omega (arith, few_pairs t₁ shareable₁));
  }

  -- The verdict.

  -- Its kind: the tests in the weights and on shares decide the same.
  kind : never_dearer_lem (weighted_by t₁ t₂) (weighted_by t₂ t₁) ≡ never_dearer_by_shares t₁ t₂
  kind =
      same_decision (never-dearer (weighted_by t₁ t₂) (weighted_by t₂ t₁) (weighted_counted _ _ t₁) (same_survivors t₁ t₂))
      (never-dearer-by-shares t₁ t₂ shareable₁.mixed shareable₂.mixed)
      (Iff.symm (shares_are_weights t₁ t₂ shareable₁.mixed shareable₂.mixed))

  -- Its pairs: prices on shares, times S₂ S₁ and D₂ D₁, are prices in the weights.
  pair : (p : Price) → DearerInWeights (table_weights t₂) (table_weights t₁) t₁ t₂ p → DearerByShares t₁ t₂ p
  pair p dearer =
      let m : ℕ = p.u * (survivors_in t₂ * survivors_in t₁) in
      let n : ℕ = p.v * (defaults_in t₂ * defaults_in t₁) in
      let shares = in-weights t₁ t₂ shareable₁.mixed shareable₂.mixed 1 p.u p.v m n (omega arith) (omega arith) (omega arith) in
      let one = cheapest_is (weighted_by t₁ t₂) m n in
      let two = cheapest_is (weighted_by t₂ t₁) m n in
      record {
        missed = omega (arith, dearer.missed, few_pairs t₁ shareable₁);
        turned-away = omega (arith, dearer.turned-away, few_pairs t₁ shareable₁);
        more = dearer_by_shares t₁ t₂ shareable₁.mixed shareable₂.mixed p.u p.v
            (λ h. omega (arith, shares.0 h _ _ one two, dearer.more _ _ one two));
      }

judged : (t₁ t₂ : Table) → Shareable t₁ → Shareable t₂ → (v : Verdict)
    → IsVerdictInWeights (table_weights t₂) (table_weights t₁) t₁ t₂ v → IsVerdictByShares t₁ t₂ v
judged t₁ t₂ shareable₁ shareable₂ v is = record {
  first = is.first ∙ kind t₁ t₂ shareable₁ shareable₂;
  second = is.second ∙ kind t₂ t₁ shareable₂ shareable₁;
  first-dearer = λ p carried. pair t₁ t₂ shareable₁ shareable₂ p (is.first-dearer p carried);
  second-dearer = λ p carried. pair t₂ t₁ shareable₂ shareable₁ p (is.second-dearer p carried);
}

-- What the code holds: each table's totals, as the weights of the other.
pub record Holds (w : Weights) (n : Totals) (t : Table) : Type 0 where
  pub weights : w ≡ total_weights n
  pub totals : n ≡ totals_of_lem t
  pub shareable : Shareable t

weights_are : {w : Weights} {n : Totals} {t : Table} → Holds w n t → w ≡ table_weights t
unfolding totals_of_lem
weights_are h = h.weights ∙ ap total_weights h.totals

module _ {w₁ w₂ : Weights} {n₁ n₂ : Totals} {t₁ t₂ : Table} (one : Holds w₂ n₁ t₁) (two : Holds w₁ n₂ t₂) where
  pub judges : Judges w₁ w₂ t₁ t₂
  judges =
      rw (weights_are one, weights_are two)
      (record {
        sound₁ = one.shareable.sound;
        sound₂ = two.shareable.sound;
        ok₁ = weighable t₁ t₂ one.shareable two.shareable;
        ok₂ = weighable t₂ t₁ two.shareable one.shareable;
        matched = matched t₁ t₂ one.shareable two.shareable;
      })

  pub judged_by_shares : {v : Verdict} → IsVerdictInWeights w₁ w₂ t₁ t₂ v → IsVerdictByShares t₁ t₂ v
  judged_by_shares {v} is = judged t₁ t₂ one.shareable two.shareable v (rw (weights_are one, weights_are two) at is)
