-- How large the numbers of a table's measures are: all fit a signed number of 64 bits.
use Prim.Native.Nat.{ℕ, ◌-◌, ◌*◌, ◌≤◌}
use mathlib.Core.List.{[], ◌∷◌}
use native.Mathlib.Nat.{mul-le-mul_left}
use native.Mathlib.Omega.{arith}
use Rattle.table.specs.Table.{Table, Grade, Every, Counted, Rated, Sound, survivors, obligors_in}
use Rattle.table.proofs.Arithmetic.{counts_le}
use Rattle.table.proofs.Suffix.{sound_small, few_counts}
use Rattle.measures.specs.declared.Measures.{Measures}
use Rattle.measures.specs.declared.Fraction.{Fraction}
use Rattle.measures.specs.Measures.{measures_of}
use Rattle.measures.specs.Brier.{brier_at, brier_sum, brier_of}
use Rattle.measures.proofs.Pairs.{every_pair}
use Rattle.measures.proofs.Pietra.{farthest}

-- The Brier score.

pub brier_at_le : (r : Grade) → Counted r → Rated r → brier_at r ≤ 1_000_000_000_000 * r.obligors
brier_at_le r counted rated =
    let q : 1_000_000 - r.announced ≤ 1_000_000 = omega arith in
    omega (arith, mul-le-mul_left r.defaults (counts_le q q), mul-le-mul_left (survivors r) (counts_le rated rated))

brier_le : (t : Table) → Every Counted t → Every Rated t → brier_sum t ≤ 1_000_000_000_000 * obligors_in t
unfolding brier_sum obligors_in
brier_le [] counted rated = omega arith
brier_le (r ∷ t) counted rated = omega (arith, brier_at_le r counted.0 rated.0, brier_le t counted.1 rated.1)

pub record FewBrier (f : Fraction ℕ) : Type 0 where
  pub numerator : f.numerator ≤ 1_000_000_000_000_000_000
  pub denominator : f.denominator ≤ 1_000_000_000_000_000_000

pub few_brier : {t : Table} → Sound t → FewBrier (brier_of t)
unfolding brier_of
few_brier {t} s =
    let b = brier_le t s.counted s.rated in
    record { numerator = omega (arith, s.total); denominator = omega (arith, s.total) }

-- The measures of the pairs.

pub record FewPairs (m : Measures) : Type 0 where
  pub counts : (m.defaults ≤ 1_000_000) × (m.survivors.0 ≤ 1_000_000)
  pub gini : m.gini.denominator ≤ 1_000_000_000_000
  pub roc : (m.roc.numerator ≤ 2_000_000_000_000) × (m.roc.denominator ≤ 2_000_000_000_000)
  pub cap : (m.cap.numerator ≤ 2_000_000_000_000) × (m.cap.denominator ≤ 2_000_000_000_000)
  pub pietra : m.pietra.denominator ≤ 1_000_000_000_000
  pub cutoff : m.cutoff ≤ 40

pub few_measures : {t : Table} → Sound t → FewPairs (measures_of t)
unfolding measures_of
few_measures {t} s =
    let small = sound_small s in
    let n = few_counts small in
    let ds = counts_le n.0 n.1 in
    let dn = counts_le n.0 small.obligors in
    let every = every_pair t in
    record {
      counts = n;
      gini = ds;
      roc = (omega arith, omega arith);
      cap = (omega arith, omega arith);
      pietra = ds;
      cutoff = omega (arith, (farthest t).within, small.grades);
    }
