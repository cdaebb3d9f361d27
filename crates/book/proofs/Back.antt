-- Numbers, grades and tables that were written are read back, wherever in a list they stand.
use Prim.Native.Nat.{ℕ, zero, suc, ◌+◌, ◌≤◌, ◌<◌}
use mathlib.Core.Path.{◌≡◌, refl, ap, ◌∙◌}
use mathlib.Core.List.{List, [], ◌∷◌, ◌++◌, append_assoc}
use native.Mathlib.Omega.{arith}
use lib.ListN.{length}
use lib.Seq.{get_or-append-add}
use Rattle.table.specs.Table.{Table, Grade, Every, Counted, Rated, Sound, obligors_in}
use Rattle.book.specs.Bytes.{byte_at, two_at_lem, four_at_lem, two_bytes, four_bytes}
use Rattle.book.specs.Layout.{grades_at, kind_at}
use Rattle.book.specs.Rows.{grade_in, grades_in, table_from}
use Rattle.book.specs.Encode.{encode_grade, encode_grades, encode_table}
use Rattle.book.proofs.Books.{length_grade}

-- What stands k behind a list u stands at k without it.

module _ (u w : List ℕ) where
  byte_shift : (n k : ℕ) → n ≡ length u + k → byte_at (u ++ w) n ≡ byte_at w k
  byte_shift n k e = rw e (get_or-append-add u w k 0)

  pub two_shift : (n k : ℕ) → n ≡ length u + k → two_at_lem (u ++ w) n ≡ two_at_lem w k
  unfolding two_at_lem
  two_shift n k e = rw (byte_shift n k e, byte_shift (n + 1) (k + 1) (omega arith))

  four_shift : (n k : ℕ) → n ≡ length u + k → four_at_lem (u ++ w) n ≡ four_at_lem w k
  unfolding four_at_lem
  four_shift n k e = rw (two_shift n k e, two_shift (n + 2) (k + 2) (omega arith))

  grade_shift : (kind n k : ℕ) → n ≡ length u + k → grade_in (u ++ w) kind n ≡ grade_in w kind k
  unfolding grade_in
  grade_shift kind n k e = rw (four_shift n k e, four_shift (n + 4) (k + 4) (omega arith), four_shift (n + 8) (k + 8) (omega arith))

  rows_shift : (kind m n k : ℕ) → n ≡ length u + k → grades_in (u ++ w) kind m n ≡ grades_in w kind m k
  unfolding grades_in
  rows_shift kind zero n k e = refl
  rows_shift kind (suc m) n k e = rw (grade_shift kind n k e, rows_shift kind m (n + 12) (k + 12) (omega arith))

-- Read back.

pub two_back : (n : ℕ) (w : List ℕ) → n < 65_536 → two_at_lem (two_bytes n ++ w) 0 ≡ n
unfolding two_at_lem two_bytes
two_back n w h = omega arith

grade_back : (g : Grade) (w : List ℕ) → g.obligors ≤ 1_000_000 → g.defaults ≤ 1_000_000 → g.announced ≤ 1_000_000
    → grade_in (encode_grade g ++ w) 0 0 ≡ g
unfolding grade_in four_at_lem two_at_lem encode_grade four_bytes two_bytes
grade_back g w h i j =
    let n : four_at_lem (encode_grade g ++ w) 0 ≡ g.obligors = omega arith in
    let d : four_at_lem (encode_grade g ++ w) 4 ≡ g.defaults = omega arith in
    let a : four_at_lem (encode_grade g ++ w) 8 ≡ g.announced = omega arith in
    rw (n, d, a)

rows_back : (t : Table) (w : List ℕ) → Every Counted t → Every Rated t → obligors_in t ≤ 1_000_000 → grades_in (encode_grades t ++ w) 0 (length t) 0 ≡ t
unfolding grades_in encode_grades obligors_in
rows_back [] w c r h = refl
rows_back (g ∷ t) w c r h =
    let v = encode_grades t ++ w in
    let e : encode_grades (g ∷ t) ++ w ≡ encode_grade g ++ v = append_assoc (encode_grade g) (encode_grades t) w in
    let head : grade_in (encode_grade g ++ v) 0 0 ≡ g = grade_back g v (omega arith) (omega arith) (omega arith) in
    let shift : grades_in (encode_grade g ++ v) 0 (length t) 12 ≡ grades_in v 0 (length t) 0 =
    rows_shift (encode_grade g) v 0 (length t) 12 0 (omega (arith, length_grade g))
    in
    let rest : grades_in v 0 (length t) 0 ≡ t = rows_back t w c.1 r.1 (omega arith) in
    ap (λ (b : List ℕ). grades_in b 0 (suc (length t)) 0) e ∙ rw (head, shift ∙ rest)

-- the table t stands at `at`, with kind 0
pub record TableFrom (b : List ℕ) (at : ℕ) (t : Table) : Type 0 where
  pub grades : grades_at b at ≡ length t
  pub kind : kind_at b at ≡ 0
  pub zeros : two_at_lem b (at + 2) ≡ 0
  pub table : table_from b at ≡ t

table_front : (t : Table) (w : List ℕ) → Sound t → TableFrom (encode_table t ++ w) 0 t
unfolding encode_table two_at_lem
table_front t w s = record {
  grades = refl;
  kind = refl;
  zeros = refl;
  table =
      rows_shift (length t ∷ 0 ∷ 0 ∷ 0 ∷ []) (encode_grades t ++ w) 0 (length t) 4 0 refl
      ∙ rows_back t w s.counted s.rated s.total;
}

pub table_back : (u : List ℕ) (t : Table) (w : List ℕ) (at : ℕ) → length u ≡ at → Sound t → TableFrom (u ++ (encode_table t ++ w)) at t
table_back u t w at e s =
    let v = encode_table t ++ w in
    let h = table_front t w s in
    let g : byte_at (u ++ v) at ≡ byte_at v 0 = byte_shift u v at 0 (omega arith) in
    let k : byte_at (u ++ v) (at + 1) ≡ byte_at v 1 = byte_shift u v (at + 1) 1 (omega arith) in
    record {
      grades = g ∙ h.grades;
      kind = k ∙ h.kind;
      zeros = two_shift u v (at + 2) 2 (omega arith) ∙ h.zeros;
      table = rw (g, k) (rows_shift u v (kind_at v 0) (grades_at v 0) (at + 4) 4 (omega arith)) ∙ h.table;
    }
