-- `last_runs` meets its contract. The invariant: the values stand before grade i.
use Prim.Native.Nat.{ℕ, ◌+◌, ◌*◌, ◌≤◌, ◌<◌}
use mathlib.Core.Path.{◌≡◌}
use mathlib.Core.List.{List}
use lib.ListN.{length, get_or}
use Rattle.shorter.specs.declared.sizes.Size.{Size}
use Rattle.shorter.specs.declared.Sums.{Sums}
use Rattle.shorter.specs.Private.{survived_from, defaulted_from}
use Rattle.shorter.proofs.last_runs.Given as goal

-- Before grade i the values stand.
pub record Filled (w : List Sums) (z : Size) (i : ℕ) (v : List ℕ) : Type 0 where
  pub from : z.runs ≤ i + 1
  pub to : i ≤ z.grades
  pub long : length v ≡ 41
  pub at : (h : ℕ) → z.runs ≤ h + 1 → h < i → get_or v h 0 ≡ survived_from w h * defaulted_from w h

abbrev pub invariant-loop-i : goal.invariant-loop-i
invariant-loop-i l = Filled l.sums l.fn.size l.i l.values
