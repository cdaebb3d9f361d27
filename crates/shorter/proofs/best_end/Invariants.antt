-- `best_end` meets its contract. The invariant: the ends before e have been tried.
use Prim.Native.Nat.{ℕ, suc, ◌-◌, ◌≤◌, ◌<◌}
use mathlib.Core.Path.{◌≡◌}
use Rattle.shorter.specs.Private.{top_from, by}
use Rattle.shorter.proofs.best_end.Given as goal

-- Up to e, the best end is `end`.
pub record Tried (f : ℕ → ℕ) (i last e end value : ℕ) : Type 0 where
  pub after : i < e
  pub inside : e ≤ last
  pub found : end ≡ top_from f (suc i) e
  pub worth : value ≡ f end

abbrev pub invariant-loop-e : goal.invariant-loop-e
invariant-loop-e l = Tried (by l.sums l.values l.i) l.i l.last (l.e - 1) l.end l.value
