-- Tables and scales whose defaults and survivors count once: the verdict in these weights is the verdict on the tables, and what a search finds
-- in two scales says whether the first ever costs more.
use Prim.Native.Nat.{◌≤◌}
use mathlib.Core.Path.{◌≡◌, sym, ap, ◌∙◌}
use mathlib.Core.Bool.{Bool, not, not-not}
use mathlib.Core.List.{List}
use native.Mathlib.Nat.{mul-one}
use native.Mathlib.Omega.{arith}
use Rattle.std.specs.Prelude.{Option, Some, None, is_some}
use Rattle.table.specs.Table.{Table, Sound, defaults_in, survivors_in}
use Rattle.table.proofs.Arithmetic.{counts_le}
use Rattle.table.proofs.Suffix.{sound_small, few_counts}
use Rattle.table.proofs.Sums.{obligors_split}
use Rattle.pooling.specs.declared.Block.{Block}
use Rattle.cutoff.specs.Verdict.{DearerAt, never_dearer_lem, IsVerdict}
use Rattle.cutoff.specs.Sweep.{scale_in, Sweepable, once, in_weights, Matched, Opposed, Finds, dearer_at, DearerInWeights, IsVerdictInWeights}
use Rattle.cutoff.specs.declared.Price.{Price}
use Rattle.cutoff.specs.declared.Verdict.{Verdict}
use Rattle.cutoff.proofs.Weighted.{weighted_once}
use Rattle.cutoff.proofs.Judged.{calls, told, Weighable, Judges}

once_weighable : {t : Table} → Sound t → Weighable once once t
once_weighable sound =
    let few = few_counts (sound_small sound) in
    record { positive = (omega arith, omega arith); light = (omega arith, omega arith); small = (omega (arith, few), omega (arith, few)) }

module _ (t₁ t₂ : Table) (sound₁ : Sound t₁) (sound₂ : Sound t₂) where
  few : (defaults_in t₁ ≤ 1_000_000) × (survivors_in t₁ ≤ 1_000_000)
  few = few_counts (sound_small sound₁)

  pub once_matched : defaults_in t₁ ≡ defaults_in t₂ → survivors_in t₁ ≡ survivors_in t₂ → Matched (in_weights once t₁) (in_weights once t₂)
  once_matched d s =
      rw (weighted_once t₁ sound₁.counted, weighted_once t₂ sound₂.counted)
      (record { same_defaults = d; same_survivors = s; few_pairs = omega (arith, counts_le few.0 few.1) })

  dearer_once : (p : Price) → DearerInWeights once once t₁ t₂ p → DearerAt t₁ t₂ p
  dearer_once p d =
      record {
        missed = omega (arith, d.missed, few);
        turned-away = omega (arith, d.turned-away, few);
        more = rw (weighted_once t₁ sound₁.counted, weighted_once t₂ sound₂.counted, mul-one p.u, mul-one p.v) at d.more;
      }

pub verdict_once : (t₁ t₂ : Table) → Sound t₁ → Sound t₂ → (v : Verdict) → IsVerdictInWeights once once t₁ t₂ v → IsVerdict t₁ t₂ v
verdict_once t₁ t₂ sound₁ sound₂ v is =
    let e₁ = weighted_once t₁ sound₁.counted in
    let e₂ = weighted_once t₂ sound₂.counted in
    record {
      first = rw (e₁, e₂) at is.first;
      second = rw (e₂, e₁) at is.second;
      first-dearer = λ p h. dearer_once t₁ t₂ sound₁ sound₂ p (is.first-dearer p h);
      second-dearer = λ p h. dearer_once t₂ t₁ sound₂ sound₁ p (is.second-dearer p h);
    }

pub judges_once : {t₁ t₂ : Table} → Sound t₁ → Sound t₂ → defaults_in t₁ ≡ defaults_in t₂ → survivors_in t₁ ≡ survivors_in t₂ → Judges once once t₁ t₂
judges_once {t₁} {t₂} sound₁ sound₂ d s =
    record {
      sound₁ = sound₁;
      sound₂ = sound₂;
      ok₁ = once_weighable sound₁;
      ok₂ = once_weighable sound₂;
      matched = once_matched t₁ t₂ sound₁ sound₂ d s;
    }

-- Two scales that are pooled already.
module _ {first second : List Block} (k₁ : Sweepable first) (k₂ : Sweepable second) (same_defaults : defaults_in (scale_in first) ≡ defaults_in (scale_in second))
    (same_survivors : survivors_in (scale_in first) ≡ survivors_in (scale_in second)) where
  pub opposed_once : Opposed once once first second
  opposed_once =
      let split = obligors_split (scale_in first) k₁.counted in
      let d : defaults_in (scale_in first) ≤ 1_000_000 = omega (arith, split, k₁.total) in
      let s : survivors_in (scale_in first) ≤ 1_000_000 = omega (arith, split, k₁.total) in
      record {
        sweepable₁ = k₁;
        sweepable₂ = k₂;
        light₁ = (omega arith, omega arith);
        light₂ = (omega arith, omega arith);
        matched = rw (weighted_once (scale_in first) k₁.counted, weighted_once (scale_in second) k₂.counted)
            (record { same_defaults = same_defaults; same_survivors = same_survivors; few_pairs = omega (arith, counts_le d s) });
      }

  called : (a : Option Block) {b : Bool} → is_some a ≡ not b → b ≡ calls (dearer_at once a)
  called None e = sym (ap not e ∙ not-not _)
  called (Some x) e = sym (ap not e ∙ not-not _)

  -- What a search finds in them says whether the first ever costs more.
  pub never_once : (a : Option Block) → Finds once once (scale_in first) (scale_in second) a → {b : Bool} → is_some a ≡ not b
      → b ≡ never_dearer_lem (scale_in first) (scale_in second)
  never_once a f e =
      let h = told opposed_once (omega arith, omega arith) (omega arith, omega arith) a f in
      called a e ∙ (rw (weighted_once (scale_in first) k₁.counted, weighted_once (scale_in second) k₂.counted) at h.called)
