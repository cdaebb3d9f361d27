-- `brier` meets its contract. The invariant: the sums are those of the grades from grade i on, at most 10^12 for each obligor.
use Prim.Native.Nat.{ℕ, ◌*◌, ◌≤◌}
use mathlib.Core.Path.{◌≡◌}
use Rattle.table.specs.declared.Place.{Place}
use Rattle.table.specs.declared.Obligors.{Obligors}
use Rattle.table.specs.Table.{obligors_in}
use Rattle.table.specs.Words.{place_in}
use Rattle.table.proofs.Suffix.{suffix}
use Rattle.measures.specs.Brier.{brier_sum}
use Rattle.measures.proofs.brier.Given as goal

pub record Summed (p : Place) (i : ℕ) (n : Obligors) (sum : ℕ) : Type 0 where
  pub inside : i ≤ p.grades
  pub all_obligors : n.0 ≡ obligors_in (suffix p i)
  pub all_squares : sum ≡ brier_sum (suffix p i)
  pub bounded : sum ≤ 1_000_000_000_000 * obligors_in (suffix p i)

abbrev pub invariant-loop-i : goal.invariant-loop-i
invariant-loop-i l = Summed (place_in l.place) l.i l.all l.sum
