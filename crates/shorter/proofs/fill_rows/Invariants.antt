-- `fill_rows` meets its contract. The invariant: row j stands, and the choices of the rows before it.
use Prim.Native.Nat.{ℕ, ◌<◌}
use mathlib.Core.List.{List}
use Rattle.shorter.specs.declared.sizes.Size.{Size}
use Rattle.shorter.specs.declared.Sums.{Sums}
use Rattle.shorter.specs.Private.{Values, ChoicesOf}
use Rattle.shorter.proofs.fill_rows.Given as goal

pub record Stands (w : List Sums) (z : Size) (j : ℕ) (v : List ℕ) (c : List (List ℕ)) : Type 0 where
  pub within : j < z.runs
  pub values : Values w z j v
  pub choices : ChoicesOf w z j c

abbrev pub invariant-loop-j : goal.invariant-loop-j
invariant-loop-j l = Stands l.sums l.size l.j l.values l.choices
