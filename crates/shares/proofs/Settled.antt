-- A verdict on shares is right: the test at the break-even prices of a table's blocks decides whether the table is at least as good as the other.
-- So verdicts are of one kind where at least as good means the same: on tables with equal totals as on counts, on multiples as on the tables.
use Prim.Native.Nat.{ℕ, ◌≤◌}
use mathlib.Core.Path.{◌≡◌, refl, sym}
use mathlib.Core.Logic.Iff
use mathlib.Core.Logic.{◌↔◌}
use mathlib.Core.Bool.{Bool, true, false}
use native.Mathlib.Omega.{arith}
use lib.Dec.{T, leb→le, le→leb}
use Rattle.table.specs.Table.{Table, Mixed, defaults_in, survivors_in}
use Rattle.pooling.specs.Pool.{pooled_scale}
use Rattle.pooling.specs.Fraction.{AtMost}
use Rattle.cutoff.specs.Verdict.{calls_first, calls_second, IsVerdict}
use Rattle.cutoff.specs.declared.Price.{Price}
use Rattle.cutoff.specs.declared.Verdict.{Verdict}
use Rattle.cutoff.proofs.Settled.{all_every, first_carried, second_carried, settles}
use Rattle.shares.specs.Shares.{cheapest_share, NoDearerByShares, AtLeastAsGoodByShares}
use Rattle.shares.specs.Verdict.{break_even_share, no_dearer_by_shares, never_dearer_by_shares, IsVerdictByShares, SettlesByShares}
use Rattle.shares.specs.Claims.{multiple}
use Rattle.shares.proofs.Shares.{cheapest-share, compared, no-dearer-by-shares}
use Rattle.shares.proofs.Weights.{same_agree, multiple_same}
use Rattle.shares.proofs.Totals.{NoDearerAtBreakEven, equal_totals_agree, break_even_shares}

-- The test.

module _ (t₁ t₂ : Table) (mixed₁ : Mixed t₁) (mixed₂ : Mixed t₂) where
  test_no_dearer : (p : Price) → T (no_dearer_by_shares t₁ t₂ p) ↔ NoDearerByShares p.u p.v t₁ t₂
  test_no_dearer p =
      let one = cheapest-share t₁ p.u p.v in
      let two = cheapest-share t₂ p.u p.v in (
        λ h.
            let le : AtMost (cheapest_share t₁ p.u p.v) (cheapest_share t₂ p.u p.v) = leb→le _ _ h in
            (no-dearer-by-shares t₁ t₂ mixed₁ mixed₂ p.u p.v).1
            (omega (arith, compared t₁ t₂ mixed₁ mixed₂ p.u p.v _ _ one two)),
        λ h. le→leb _ _ (h _ _ one two),
      )

  pub never-dearer-by-shares : T (never_dearer_by_shares t₁ t₂) ↔ AtLeastAsGoodByShares t₁ t₂
  never-dearer-by-shares =
      let tested = all_every (λ b. no_dearer_by_shares t₁ t₂ (break_even_share t₁ b)) (NoDearerAtBreakEven t₁ t₂)
      (λ b. test_no_dearer (break_even_share t₁ b)) (pooled_scale t₁) in
      Iff.trans tested (Iff.symm (break_even_shares t₁ t₂ mixed₁ mixed₂))

-- A verdict settles which table is at least as good.
pub settles_by_shares : (t₁ t₂ : Table) → Mixed t₁ → Mixed t₂ → (v : Verdict) → IsVerdictByShares t₁ t₂ v → SettlesByShares t₁ t₂ v
settles_by_shares t₁ t₂ mixed₁ mixed₂ v is =
    record {
      first = rw is.first (never-dearer-by-shares t₁ t₂ mixed₁ mixed₂);
      first_pair = λ h. let (p, carried) = first_carried v h in (p, carried, is.first-dearer p carried);
      second = rw is.second (never-dearer-by-shares t₂ t₁ mixed₂ mixed₁);
      second_pair = λ h. let (p, carried) = second_carried v h in (p, carried, is.second-dearer p carried);
    }

-- Verdicts of one kind.

same_truth : (x y : Bool) → (T x ↔ T y) → x ≡ y
same_truth true true e = refl
same_truth true false e = absurd (e.0 tt)
same_truth false true e = absurd (e.1 tt)
same_truth false false e = refl

-- Two tests agree where what they decide does.
pub same_decision : {x y : Bool} {A B : Type 0} → (T x ↔ A) → (T y ↔ B) → (A ↔ B) → x ≡ y
same_decision one two agree = same_truth _ _ (Iff.trans one (Iff.trans agree (Iff.symm two)))

pub one_verdict : (t₁ t₂ : Table) → Mixed t₁ → Mixed t₂ → defaults_in t₁ ≡ defaults_in t₂ → survivors_in t₁ ≡ survivors_in t₂
    → (v w : Verdict) → IsVerdictByShares t₁ t₂ v → IsVerdict t₁ t₂ w
    → (calls_first v ≡ calls_first w) × (calls_second v ≡ calls_second w)
one_verdict t₁ t₂ mixed₁ mixed₂ equal-defaults equal-survivors v w is-v is-w =
    let one = settles_by_shares t₁ t₂ mixed₁ mixed₂ v is-v in
    let two = settles t₁ t₂ mixed₁.counted mixed₂.counted equal-survivors w is-w in (
      same_decision one.first two.first (equal_totals_agree t₁ t₂ mixed₁ mixed₂ equal-defaults equal-survivors),
      same_decision one.second two.second (equal_totals_agree t₂ t₁ mixed₂ mixed₁ (sym equal-defaults) (sym equal-survivors)),
    )

pub multiples_one_verdict : (t₁ t₂ : Table) → Mixed t₁ → Mixed t₂ → (j k : ℕ) → 1 ≤ j → 1 ≤ k
    → (v w : Verdict) → IsVerdictByShares t₁ t₂ v → IsVerdictByShares (multiple j t₁) (multiple k t₂) w
    → (calls_first v ≡ calls_first w) × (calls_second v ≡ calls_second w)
multiples_one_verdict t₁ t₂ mixed₁ mixed₂ j k j_pos k-pos v w is-v is-w =
    let same₁ = multiple_same j j_pos t₁ mixed₁ in
    let same₂ = multiple_same k k-pos t₂ mixed₂ in
    let one = settles_by_shares t₁ t₂ mixed₁ mixed₂ v is-v in
    let two = settles_by_shares (multiple j t₁) (multiple k t₂) same₁.mixed same₂.mixed w is-w in (
      same_decision one.first two.first (Iff.symm (same_agree t₁ t₂ mixed₁ mixed₂ same₁ same₂)),
      same_decision one.second two.second (Iff.symm (same_agree t₂ t₁ mixed₂ mixed₁ same₂ same₁)),
    )
