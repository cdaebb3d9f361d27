-- `cheapest` meets its contract. The invariant: what the loop keeps is the cheapest cutoff of the grades from grade i on.
use Prim.Native.Nat.{ℕ, ◌≤◌}
use mathlib.Core.Path.{◌≡◌}
use Rattle.table.specs.declared.Place.{Place}
use Rattle.table.specs.declared.Survivors.{Survivors}
use Rattle.table.specs.Table.{survivors_in}
use Rattle.table.specs.Words.{place_in}
use Rattle.table.proofs.Suffix.{suffix}
use Rattle.cutoff.specs.Cutoff.{cheapest_of}
use Rattle.cutoff.proofs.cheapest.Given as goal

pub record Swept (u v : ℕ) (p : Place) (i : ℕ) (passed : Survivors) (cutoff cost : ℕ) : Type 0 where
  pub inside : i ≤ p.grades
  pub all_passed : passed.0 ≡ survivors_in (suffix p i)
  pub cheapest : record { cutoff = cutoff; cost = cost } ≡ cheapest_of (suffix p i) u v

abbrev pub invariant-loop-i : goal.invariant-loop-i
invariant-loop-i l = Swept l.u l.v (place_in l.place) l.i l.passed l.cutoff l.cost
