-- A book of kind 0 as bytes.
use Rattle.std.specs.Prelude.{ℕ, ◌+◌, ◌*◌, List, [], ◌∷◌, ◌++◌, length}
use Rattle.table.specs.Table.{Table, Grade}
use Rattle.book.specs.Bytes.{two_bytes, four_bytes}

unfoldable pub encode_grade : Grade → List ℕ
encode_grade g = four_bytes g.obligors ++ (four_bytes g.defaults ++ four_bytes g.announced)

unfoldable pub encode_grades : Table → List ℕ
encode_grades [] = []
encode_grades (g ∷ t) = encode_grade g ++ encode_grades t

-- grade count, kind 0, two zero bytes, and the grades
unfoldable pub encode_table : Table → List ℕ
encode_table t = length t ∷ 0 ∷ 0 ∷ 0 ∷ encode_grades t

abbrev pub size_of : Table → ℕ
size_of t = 4 + 12 * length t

unfoldable pub encode_tables : List Table → List ℕ
encode_tables [] = []
encode_tables (t ∷ ts) = encode_table t ++ encode_tables ts

-- of tables without gaps, the first at `at`: their offsets, and where the last ends
unfoldable pub offsets : ℕ → List Table → List ℕ
offsets at [] = []
offsets at (t ∷ ts) = two_bytes at ++ offsets (at + size_of t) ts

unfoldable pub ends_at : ℕ → List Table → ℕ
ends_at at [] = at
ends_at at (t ∷ ts) = ends_at (at + size_of t) ts

-- the length of the book in bytes
abbrev pub book_size : List Table → ℕ
book_size ts = ends_at (4 + 2 * length ts) ts

unfoldable pub encode : List Table → List ℕ
encode ts = two_bytes (length ts) ++ (two_bytes (book_size ts) ++ (offsets (4 + 2 * length ts) ts ++ encode_tables ts))
