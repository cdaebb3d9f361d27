-- Numbers of an answer that are stored as signed ones.
use Prim.Native.Nat.{ℕ, ◌≤◌}
use mathlib.Core.Path.{◌≡◌, refl}
use mathlib.Core.List.{List, [], ◌∷◌}
use native.Mathlib.Omega.{arith}
use lib.IntN.{ℤ}
use mir.Syntax.{w64}
use mir.Val.{SFits, to_z, of_z}
use mir.ValLaws.{to_z-of_z}
use Rattle.table.specs.Table.{Table, Sound}
use Rattle.table.proofs.Arithmetic.{counts_le}
use Rattle.table.proofs.Signed.{count_back}
use Rattle.table.proofs.Suffix.{sound_small, few_counts}
use Rattle.cutoff.specs.declared.CheapestCutoff.{CheapestCutoff}
use Rattle.cutoff.specs.Cutoff.{cheapest_of}
use Rattle.cutoff.proofs.Cost.{cutoff_costs, cost_le_all}
use Rattle.measures.specs.declared.Measures.{Measures}
use Rattle.measures.proofs.Sizes.{FewPairs}
use Rattle.desk_c.specs.Numbers.{cutoff_numbers, measures_numbers}

-- A cheapest cutoff costs no more than turning every survivor away.

pub record FewCosts (c : CheapestCutoff) : Type 0 where
  pub cutoff : c.cutoff ≤ 40
  pub cost : c.cost ≤ 1_000_000_000_000

pub few_costs : {t : Table} (u v : ℕ) → Sound t → v ≤ 1_000_000 → FewCosts (cheapest_of t u v)
few_costs {t} u v s priced =
    let small = sound_small s in
    record {
      cutoff = omega (arith, (cutoff_costs t u v).0, small.grades);
      cost = omega (arith, cost_le_all t u v, counts_le priced (few_counts small).1);
    }

pub stores_cutoff : (c : CheapestCutoff) → FewCosts c → to_z w64 c.cutoff ∷ to_z w64 c.cost ∷ [] ≡ cutoff_numbers c
stores_cutoff c f = rw (count_back c.cutoff (omega (arith, f.cutoff)), count_back c.cost (omega (arith, f.cost))) refl

-- The numbers of a table's measures, each as 64 bits read as a signed number.
abbrev pub stores : Measures → List ℤ
stores m =
    to_z w64 m.defaults
    ∷ to_z w64 m.survivors.0
    ∷ to_z w64 (of_z w64 m.gini.numerator)
    ∷ to_z w64 m.gini.denominator
    ∷ to_z w64 m.roc.numerator
    ∷ to_z w64 m.roc.denominator
    ∷ to_z w64 m.cap.numerator
    ∷ to_z w64 m.cap.denominator
    ∷ to_z w64 (of_z w64 m.pietra.numerator)
    ∷ to_z w64 m.pietra.denominator
    ∷ to_z w64 m.cutoff
    ∷ []

pub record Signed (m : Measures) : Type 0 where
  pub gini : SFits w64 m.gini.numerator
  pub pietra : SFits w64 m.pietra.numerator
  pub few : FewPairs m

pub stores_numbers : (m : Measures) → Signed m → stores m ≡ measures_numbers m
stores_numbers m s =
    let f = s.few in
    rw (
      count_back m.defaults (omega (arith, f.counts)),
      count_back m.survivors.0 (omega (arith, f.counts)),
      to_z-of_z w64 m.gini.numerator s.gini,
      count_back m.gini.denominator (omega (arith, f.gini)),
      count_back m.roc.numerator (omega (arith, f.roc)),
      count_back m.roc.denominator (omega (arith, f.roc)),
      count_back m.cap.numerator (omega (arith, f.cap)),
      count_back m.cap.denominator (omega (arith, f.cap)),
      to_z-of_z w64 m.pietra.numerator s.pietra,
      count_back m.pietra.denominator (omega (arith, f.pietra)),
      count_back m.cutoff (omega (arith, f.cutoff)),
    ) refl
