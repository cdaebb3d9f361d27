-- The layout of a book: bytes that hold the grade tables of 1 to 16 raters. (Document 01's terms: a rater is whose rating scale a table is, and is
-- numbered from 1.)
use Rattle.std.specs.Prelude.{ℕ, zero, suc, ◌+◌, ◌*◌, List, [], ◌∷◌, length}
use Rattle.book.specs.Bytes.{byte_at, two_at_lem}
use Rattle.book.specs.Checks.{Check, at_most, equal, fault, first_fault}

-- Where a book is cut wrong (R-2). "A table that starts elsewhere than where the last one ended now gives 31."
abbrev pub start_fault : ℕ
start_fault = 31

-- "A table that runs past the end, in header or rows, gives 32."
abbrev pub end_fault : ℕ
end_fault = 32

-- "Bytes after the last table give 33."
abbrev pub leftover_fault : ℕ
leftover_fault = 33

-- the number of raters R
abbrev pub raters : List ℕ → ℕ
raters b = two_at_lem b 0

-- the offset of rater j: where its table starts
abbrev pub start_of : List ℕ → ℕ → ℕ
start_of b j = two_at_lem b (2 + 2 * j)

-- where the first table has to start: behind the offsets
abbrev pub first_start : List ℕ → ℕ
first_start b = 4 + 2 * raters b

-- of the table that starts at byte `at`: its grade count, its kind (0 obligors, 1 survivors), and where it ends
abbrev pub grades_at : List ℕ → ℕ → ℕ
grades_at b at = byte_at b at

abbrev pub kind_at : List ℕ → ℕ → ℕ
kind_at b at = byte_at b (at + 1)

abbrev pub end_of : List ℕ → ℕ → ℕ
end_of b at = at + 4 + 12 * grades_at b at

unfoldable pub head_checks : List ℕ → List Check
head_checks b =
    at_most 4 (length b) 2
    ∷ equal (two_at_lem b 2) (length b) 2
    ∷ at_most 1 (raters b) 3
    ∷ at_most (raters b) 16 3
    ∷ at_most (first_start b) (length b) 3
    ∷ []

unfoldable pub rater_checks : List ℕ → ℕ → List Check
rater_checks b j = at_most 1 j 4 ∷ at_most j (raters b) 4 ∷ []

-- the table of rater j, where the one before ended at `at`
unfoldable pub table_checks : List ℕ → ℕ → ℕ → List Check
table_checks b j at =
    equal (start_of b j) at start_fault
    ∷ at_most (at + 4) (length b) end_fault
    ∷ at_most 1 (grades_at b at) 6
    ∷ at_most (grades_at b at) 40 6
    ∷ at_most (kind_at b at) 1 7
    ∷ equal (two_at_lem b (at + 2)) 0 7
    ∷ at_most (end_of b at) (length b) end_fault
    ∷ []

-- k tables, from that of rater j on, and then nothing
unfoldable pub tables_fault_from : List ℕ → ℕ → ℕ → ℕ → ℕ
tables_fault_from b zero j at = fault (equal at (length b) leftover_fault ∷ [])
tables_fault_from b (suc k) j at = first_fault (fault (table_checks b j at)) (tables_fault_from b k (suc j) (end_of b at))

abbrev pub tables_fault_lem : List ℕ → ℕ
tables_fault_lem b = tables_fault_from b (raters b) 1 (first_start b)

-- the whole layout, whoever's table is wanted
unfoldable pub layout_fault : List ℕ → ℕ
layout_fault b = first_fault (fault (head_checks b)) (tables_fault_lem b)
