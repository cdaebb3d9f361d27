-- `count_pairs` meets its contract. The invariant: the counts are those of the grades from grade i on.
use Prim.Native.Nat.{ℕ, ◌≤◌}
use mathlib.Core.Path.{◌≡◌}
use Rattle.table.specs.declared.Place.{Place}
use Rattle.table.specs.declared.Survivors.{Survivors}
use Rattle.table.specs.Table.{defaults_in, survivors_in}
use Rattle.table.specs.Words.{place_in}
use Rattle.table.proofs.Suffix.{suffix}
use Rattle.measures.specs.Pairs.{concordant, discordant}
use Rattle.measures.proofs.count_pairs.Given as goal

pub record Passed (p : Place) (i d c x : ℕ) (s : Survivors) : Type 0 where
  pub inside : i ≤ p.grades
  pub all-defaults : d ≡ defaults_in (suffix p i)
  pub all-survivors : s.0 ≡ survivors_in (suffix p i)
  pub all-concordant : c ≡ concordant (suffix p i)
  pub all-discordant : x ≡ discordant (suffix p i)

abbrev pub invariant-loop-i : goal.invariant-loop-i
invariant-loop-i l = Passed (place_in l.place) l.i l.defaulted l.concordant l.discordant l.survivors
