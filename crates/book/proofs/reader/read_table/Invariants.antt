-- `read_table` meets its contract. The invariant: the total is that of the first i rows, the rows from row i on, behind one that announced the
-- rate `before`, have the fault that all have, and to store them is to store all.
use Prim.Native.Nat.{ℕ, ◌+◌, ◌-◌, ◌*◌, ◌≤◌}
use mathlib.Core.Path.{◌≡◌}
use mathlib.Core.List.{List}
use lib.ListN.{length}
use Rattle.table.specs.Table.{Table, obligors_in}
use Rattle.book.specs.Layout.{grades_at, kind_at}
use Rattle.book.specs.Rows.{grades_in, table_from, later_fault, rows_fault}
use Rattle.book.proofs.Rows.{capped_table}
use Rattle.book.proofs.Filled.{columns_after}
use Rattle.book.proofs.reader.read_table.Given as goal

-- the rows read, and the rows to come
abbrev pub read : List ℕ → ℕ → ℕ → Table
read b start i = capped_table (grades_in b (kind_at b start) i (start + 4))

abbrev pub rest : List ℕ → ℕ → ℕ → Table
rest b start i = grades_in b (kind_at b start) (grades_at b start - i) (start + 4 + 12 * i)

-- w₀ are the words of the place before the first row, w those before row i.
pub record Swept (b : List ℕ) (start : ℕ) (w₀ w : List ℕ) (total before i : ℕ) : Type 0 where
  pub to : i ≤ grades_at b start
  pub small : total ≤ i * 4_294_967_295
  pub long : length w ≡ 122
  pub faults : later_fault before (rest b start i) ≡ rows_fault (table_from b start)
  pub sum : total ≡ obligors_in (read b start i)
  pub whole : columns_after w i (capped_table (rest b start i)) ≡ columns_after w₀ 0 (capped_table (table_from b start))

abbrev pub invariant-loop-i : goal.invariant-loop-i
invariant-loop-i l = Swept l.b l.start l.initial.place l.place l.total l.before l.i
