-- Serves contracts of functions inside the library only: what is promised does not rest on it.
-- Bytes, rows and places as the code of this crate holds them.
use Rattle.std.specs.Prelude.{ℕ, zero, suc, ◌+◌, ◌*◌, ◌≤◌, ◌≡◌, List, [], ◌∷◌, ◌++◌, length}
use Rattle.std.proofs.lemmas.List.Edits.{sets}
use Rattle.table.specs.Table.{Table, Grade}
use Rattle.table.specs.Counts.{capped}
use Rattle.table.specs.Place.{place_of}
use Rattle.table.specs.Words.{place_size, words_of, place_in}
use Rattle.book.specs.Bytes.{two_bytes}
use Rattle.book.specs.Checks.{Check, at_most}
use Rattle.book.specs.Writing.{tables_of}
use Rattle.book.specs.declared.Row.{Row}
use Rattle.book.specs.declared.reader.Kind.{Kind}
use Rattle.book.specs.declared.reader.Kind.TheVariants.{Obligors, Survivors}

-- a list with the bytes v stored from `at` on
unfoldable pub stored : List ℕ → ℕ → List ℕ → List ℕ
stored b at v = sets b at v

-- the first bytes of a written book: the number of raters, the length, and where the first table starts
unfoldable pub encode_head : ℕ → ℕ → List ℕ
encode_head n size = two_bytes n ++ (two_bytes size ++ two_bytes (4 + 2 * n))

-- the number that stands for a kind in a book
abbrev pub number_of_kind : Kind → ℕ
number_of_kind Obligors = 0
number_of_kind Survivors = 1

-- a row as the code holds it, and a grade as 32 bits hold it
abbrev pub grade_of : Row → Grade
grade_of r = record { obligors = r.obligors.0; defaults = r.defaults; announced = r.announced }

abbrev pub capped_grade : Grade → Grade
capped_grade g = record { obligors = capped g.obligors; defaults = g.defaults; announced = g.announced }

-- the checks after the last row as the code makes them: by the sum of the obligors alone
abbrev pub sum_checks : ℕ → List Check
sum_checks n = at_most 1 n 9 ∷ at_most n 1_000_000 11 ∷ []

-- the words w of a place after a reading of the table t with the fault n
abbrev pub words_after_lem : ℕ → Table → List ℕ → List ℕ
words_after_lem zero t w = words_of (place_of t)
words_after_lem (suc n) t w = w

-- What a write requires of a lent place: every place that calls left is so.
pub record Writable (w : List ℕ) : Type 0 where
  pub long : length w ≡ place_size
  pub few : (place_in w).grades ≤ 40

-- the tables of the loaded ones of two lent places
abbrev pub lent_tables : List ℕ → List ℕ → List Table
lent_tables w v = tables_of (place_in w) (place_in v)
