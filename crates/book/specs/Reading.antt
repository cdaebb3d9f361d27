-- What reading the table of a rater out of a book finds, and what reading all of them does.
use Rattle.std.specs.Prelude.{ℕ, List, [], ◌∷◌}
use Rattle.table.specs.Table.{Table}
use Rattle.book.specs.Checks.{fault, first_fault}
use Rattle.book.specs.Layout.{raters, head_checks, rater_checks, tables_fault_lem, layout_fault}
use Rattle.book.specs.Rows.{table_of_rater, tables_in, table_fault_lem}

-- 2 and 3; 4; then table by table and the leftover; then row by row and the total
unfoldable pub read_fault : List ℕ → ℕ → ℕ
read_fault b j =
    first_fault (fault (head_checks b))
    (first_fault (fault (rater_checks b j)) (first_fault (tables_fault_lem b) (table_fault_lem (table_of_rater b j))))

-- the tables of all raters, in book order
abbrev pub all_tables : List ℕ → List Table
all_tables b = tables_in b 1 (raters b)

-- one table after the other
unfoldable pub table_faults : List Table → ℕ
table_faults [] = 0
table_faults (t ∷ ts) = first_fault (table_fault_lem t) (table_faults ts)

-- R-7: "The layout of the whole book is checked first as in load, without 1, 21 and 4. Then come the row checks, 9 and 11 of each rater in book
-- order."
unfoldable pub book_fault : List ℕ → ℕ
book_fault b = first_fault (layout_fault b) (table_faults (all_tables b))
