-- `check_tables` meets its contract. The invariant: the tables from here on have the fault that all have.
use Prim.Native.Nat.{ℕ, ◌+◌, ◌-◌, ◌≤◌}
use mathlib.Core.Path.{◌≡◌}
use mathlib.Core.List.{List}
use lib.ListN.{length}
use Rattle.book.specs.Layout.{raters, tables_fault_from, tables_fault_lem}
use Rattle.book.proofs.layout.check_tables.Given as goal

pub record Walked (b : List ℕ) (at j : ℕ) : Type 0 where
  pub to : j ≤ raters b
  pub room : at ≤ length b
  pub rest : tables_fault_from b (raters b - j) (j + 1) at ≡ tables_fault_lem b

abbrev pub invariant-loop-j : goal.invariant-loop-j
invariant-loop-j l = Walked l.b l.at l.j
