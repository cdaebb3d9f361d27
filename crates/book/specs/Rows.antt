-- The rows of a table as they stand in a book, and the checks on them.
use Rattle.std.specs.Prelude.{ℕ, zero, suc, ◌+◌, cond, List, [], ◌∷◌, ◌++◌, eqb, length}
use Rattle.table.specs.Table.{Table, Grade, occupied, obligors_in}
use Rattle.book.specs.Bytes.{four_at_lem}
use Rattle.book.specs.Checks.{Check, at_most, fault, first_fault}
use Rattle.book.specs.Layout.{start_of, grades_at, kind_at}

-- n as the kind says: the first column, or first column + defaults
abbrev pub obligors_by_lem : ℕ → ℕ → ℕ → ℕ
obligors_by_lem kind column defaults = cond (eqb kind 0) column (column + defaults)

-- the grade in the 12 bytes from `at` on
unfoldable pub grade_in : List ℕ → ℕ → ℕ → Grade
grade_in b kind at =
    record {
      obligors = obligors_by_lem kind (four_at_lem b at) (four_at_lem b (at + 4));
      defaults = four_at_lem b (at + 4);
      announced = four_at_lem b (at + 8);
    }

-- k grades, from byte `at` on
unfoldable pub grades_in : List ℕ → ℕ → ℕ → ℕ → Table
grades_in b kind zero at = []
grades_in b kind (suc k) at = grade_in b kind at ∷ grades_in b kind k (at + 12)

-- the table that starts at byte `at`
abbrev pub table_from : List ℕ → ℕ → Table
table_from b at = grades_in b (kind_at b at) (grades_at b at) (at + 4)

-- the table of rater j
abbrev pub table_of_rater : List ℕ → ℕ → Table
table_of_rater b j = table_from b (start_of b j)

-- the tables of k raters, from that of rater j on
unfoldable pub tables_in : List ℕ → ℕ → ℕ → List Table
tables_in b j zero = []
tables_in b j (suc k) = table_of_rater b j ∷ tables_in b (suc j) k

-- One row. Of kind 1 the first check never fails: n is first column + defaults.
unfoldable pub row_checks : Grade → List Check
row_checks g = at_most g.defaults g.obligors 8 ∷ at_most g.announced 1_000_000 10 ∷ []

-- One row behind another, which announced the rate `before`. R-5: "A rate below that of the row before is 34, tested in each row after 10."
unfoldable pub later_checks : ℕ → Grade → List Check
later_checks before g = row_checks g ++ at_most before g.announced 34 ∷ []

-- row by row, behind one that announced the rate `before`
unfoldable pub later_fault : ℕ → Table → ℕ
later_fault before [] = 0
later_fault before (g ∷ t) = first_fault (fault (later_checks before g)) (later_fault g.announced t)

-- all rows: the first has no row before it
unfoldable pub rows_fault : Table → ℕ
rows_fault [] = 0
rows_fault (g ∷ t) = first_fault (fault (row_checks g)) (later_fault g.announced t)

-- The checks after the last row. R-4: "Number 9 moves from the row checks to just before 11 and means that all grades are empty."
unfoldable pub total_checks : Table → List Check
total_checks t = at_most 1 (length (occupied t)) 9 ∷ at_most (obligors_in t) 1_000_000 11 ∷ []

unfoldable pub table_fault_lem : Table → ℕ
table_fault_lem t = first_fault (rows_fault t) (fault (total_checks t))
