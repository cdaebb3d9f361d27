-- `add_up` meets its contract. The invariant: the sums stand from grade i on.
use Prim.Native.Nat.{ℕ, ◌≤◌}
use mathlib.Core.Path.{◌≡◌}
use mathlib.Core.List.{List}
use lib.ListN.{length, get_or}
use Rattle.table.specs.declared.Place.{Place}
use Rattle.table.specs.declared.Survivors.{Survivors}
use Rattle.table.specs.Table.{Table, defaults_in, survivors_in}
use Rattle.table.specs.Words.{place_in}
use Rattle.table.proofs.Suffix.{suffix}
use Rattle.shorter.specs.declared.Sums.{Sums}
use Rattle.shorter.specs.Private.{nobody}
use Rattle.shorter.proofs.add_up.Given as goal

-- the sums of grades
abbrev pub sums_of : Table → Sums
sums_of t = record { survivors = survivors_in t; defaults = defaults_in t }

pub record Summed (p : Place) (i : ℕ) (s : Survivors) (d : ℕ) (w : List Sums) : Type 0 where
  pub inside : i ≤ p.grades
  pub survived : s.0 ≡ survivors_in (suffix p i)
  pub defaulted : d ≡ defaults_in (suffix p i)
  pub long : length w ≡ 41
  pub at : (h : ℕ) → i ≤ h → h ≤ p.grades → get_or w h nobody ≡ sums_of (suffix p h)

abbrev pub invariant-loop-i : goal.invariant-loop-i
invariant-loop-i l = Summed (place_in l.place) l.i l.survivors l.defaults l.sums
