-- What is claimed of books beyond the contracts. The contract of `claims` in src/lib.rt is all of it, so that the crate is refused where a
-- claim is not proved.
use Rattle.std.specs.Prelude.{ℕ, ◌+◌, ◌-◌, ◌*◌, ◌≤◌, ◌<◌, ◌≡◌, true, ◌↔◌, List, [], length, get_or, take}
use Rattle.table.specs.declared.Place.{Place}
use Rattle.table.specs.Table.{Every, Sound, occupied, survivors}
use Rattle.table.specs.Place.{grade_at, table_of, blank, place_of}
use Rattle.refusals.specs.Answers.{accepted}
use Rattle.book.specs.Bytes.{Byte, four_at_lem}
use Rattle.book.specs.Checks.{fault}
use Rattle.book.specs.Layout.{raters, start_of, grades_at, kind_at, head_checks, layout_fault}
use Rattle.book.specs.WrongCut.{WrongCut}
use Rattle.book.specs.Rows.{table_of_rater, tables_in, rows_fault}
use Rattle.book.specs.Fall.{FallsAfter}
use Rattle.book.specs.Reading.{read_fault, book_fault}
use Rattle.book.specs.Encode.{encode}
use Rattle.book.specs.Writing.{tables_of, write_answer, buffer_after}

-- what a reading of rater j without a fault leaves in a place
pub record Accepted (b : List ℕ) (j : ℕ) (p : Place) : Type 0 where
  pub table : table_of p ≡ table_of_rater b j
  pub sound : Sound (table_of p)
  pub loaded : p.loaded ≡ true
  pub unused : (i : ℕ) → p.grades ≤ i → grade_at p i ≡ blank

-- The table in a place is that of the rater loaded there, as it stands in the book; it is as "A grade table" says, and nothing stands behind it.
abbrev pub ReadingIsSound : Type 0
ReadingIsSound = (b : List ℕ) (j : ℕ) → read_fault b j ≡ 0 → Accepted b j (place_of (table_of_rater b j))

-- The other way: of a book that is laid out, every such table is read. R-4: "n 0 loads if another grade is occupied."
abbrev pub SoundTablesAreRead : Type 0
SoundTablesAreRead =
    (b : List ℕ) (j : ℕ) → layout_fault b ≡ 0 → 1 ≤ j → j ≤ raters b → Sound (table_of_rater b j) → read_fault b j ≡ 0

-- R-4: 9 "means that all grades are empty", and stands behind the row checks: it is given for no other table,
abbrev pub NineMeansAllEmpty : Type 0
NineMeansAllEmpty =
    (b : List ℕ) (j : ℕ) → read_fault b j ≡ 9 → (rows_fault (table_of_rater b j) ≡ 0) × (occupied (table_of_rater b j) ≡ [])

-- and for every such table of a book that is laid out, if no row has a fault.
abbrev pub AllEmptyIsTold : Type 0
AllEmptyIsTold =
    (b : List ℕ) (j : ℕ) → layout_fault b ≡ 0 → 1 ≤ j → j ≤ raters b
    → rows_fault (table_of_rater b j) ≡ 0 → occupied (table_of_rater b j) ≡ [] → read_fault b j ≡ 9

-- R-5: of a book that is laid out, a table whose announced rates fall is refused with 34,
abbrev pub FallsAreTold : Type 0
FallsAreTold =
    (b : List ℕ) (j k : ℕ) → layout_fault b ≡ 0 → 1 ≤ j → j ≤ raters b → FallsAfter (table_of_rater b j) k → read_fault b j ≡ 34

-- and 34 is given for nothing else: it stands behind the whole layout.
abbrev pub FallsAreMeant : Type 0
FallsAreMeant =
    (b : List ℕ) (j : ℕ) → read_fault b j ≡ 34
    → (layout_fault b ≡ 0) × (1 ≤ j) × (j ≤ raters b) × ((k : ℕ) × FallsAfter (table_of_rater b j) k)

-- "Kind of first column (0 obligors, 1 survivors)": so many obligors, or so many survivors, has grade i.
abbrev pub FirstColumnIsOfItsKind : Type 0
FirstColumnIsOfItsKind =
    (b : List ℕ) (j i : ℕ) → i < grades_at b (start_of b j)
    → (kind_at b (start_of b j) ≡ 0 → (get_or (table_of_rater b j) i blank).obligors ≡ four_at_lem b (start_of b j + 4 + 12 * i))
    × (kind_at b (start_of b j) ≡ 1 → survivors (get_or (table_of_rater b j) i blank) ≡ four_at_lem b (start_of b j + 4 + 12 * i))

-- Loading rater j of a written book finds no fault, and gives the j-th of the loaded tables.
abbrev pub WrittenBookReadsBack : Type 0
WrittenBookReadsBack =
    (p q : Place) → (p.loaded ≡ true → Sound (table_of p)) → (q.loaded ≡ true → Sound (table_of q))
    → (buf : List ℕ) (n : ℕ) → write_answer (tables_of p q) (length buf) ≡ accepted n
    → (j : ℕ) → 1 ≤ j → j ≤ length (tables_of p q)
    → (read_fault (take n (buffer_after (tables_of p q) buf)) j ≡ 0)
    × (table_of_rater (take n (buffer_after (tables_of p q) buf)) j ≡ get_or (tables_of p q) (j - 1) [])

-- Writing the tables of a book whose columns are all of kind 0 gives the bytes of that book again.
abbrev pub ReadBookWritesBack : Type 0
ReadBookWritesBack =
    (b : List ℕ) → Every Byte b → layout_fault b ≡ 0
    → ((j : ℕ) → 1 ≤ j → j ≤ raters b → kind_at b (start_of b j) ≡ 0)
    → encode (tables_in b 1 (raters b)) ≡ b

-- R-7: a book as a whole has no fault exactly if it is laid out and each of its raters can be read: the checks are load's.
abbrev pub WholeBooksAreRead : Type 0
WholeBooksAreRead =
    (b : List ℕ) → (book_fault b ≡ 0) ↔ ((layout_fault b ≡ 0) × ((j : ℕ) → 1 ≤ j → j ≤ raters b → read_fault b j ≡ 0))

-- R-7: "The layout of the whole book is checked first as in load .. Then come the row checks, 9 and 11 of each rater in book order": the fault of the
-- layout, or else what a load of the first rater that has a fault is refused with.
abbrev pub FirstFaultIsTold : Type 0
FirstFaultIsTold =
    (b : List ℕ)
    → ((layout_fault b ≡ 0 → ⊥) → book_fault b ≡ layout_fault b)
    × ((j : ℕ) → layout_fault b ≡ 0 → 1 ≤ j → j ≤ raters b
    → ((i : ℕ) → 1 ≤ i → i < j → read_fault b i ≡ 0) → (read_fault b j ≡ 0 → ⊥) → book_fault b ≡ read_fault b j)

-- A book that is cut wrong is refused with the number of the cut, whichever of its raters is wanted.
abbrev pub WrongCutsAreTold : Type 0
WrongCutsAreTold = (b : List ℕ) (j n : ℕ) → fault (head_checks b) ≡ 0 → 1 ≤ j → j ≤ raters b → WrongCut b n → read_fault b j ≡ n

-- The other way: a number from 31 to 33 is given for such a cut, and for nothing else.
abbrev pub WrongCutsAreMeant : Type 0
WrongCutsAreMeant = (b : List ℕ) (j n : ℕ) → 31 ≤ n → n ≤ 33 → read_fault b j ≡ n → WrongCut b n

-- All of them: what the function `claims` of this crate promises.
pub record Claims : Type 0 where
  pub reading_is_sound : ReadingIsSound
  pub sound_tables_are_read : SoundTablesAreRead
  pub nine_means_all_empty : NineMeansAllEmpty
  pub all_empty_is_told : AllEmptyIsTold
  pub falls_are_told : FallsAreTold
  pub falls_are_meant : FallsAreMeant
  pub first_column_is_of_its_kind : FirstColumnIsOfItsKind
  pub written_book_reads_back : WrittenBookReadsBack
  pub read_book_writes_back : ReadBookWritesBack
  pub whole_books_are_read : WholeBooksAreRead
  pub first_fault_is_told : FirstFaultIsTold
  pub wrong_cuts_are_told : WrongCutsAreTold
  pub wrong_cuts_are_meant : WrongCutsAreMeant
