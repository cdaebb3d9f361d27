-- The other way round: the tables of a book of kind 0 are written as the bytes of that book.
use Prim.Native.Nat.{ℕ, zero, suc, ◌+◌, ◌*◌, ◌/◌, ◌%◌, ◌≤◌, ◌<◌}
use mathlib.Core.Path.{◌≡◌, refl, sym, ◌∙◌}
use mathlib.Core.List.{List, [], ◌∷◌, ◌++◌, append_assoc}
use native.Mathlib.Nat.{zero-add, add-zero, mod-eq_of_lt, div-eq_of_lt, add-mul-mod_self_left, add-mul-div_left}
use native.Mathlib.Numerals.{add-one}
use native.Mathlib.Omega.{arith}
use lib.ListN.{length, drop}
use lib.Seq.{drop-cons, drop-length}
use Rattle.table.specs.Table.{Every}
use Rattle.book.specs.Bytes.{Byte, byte_at, two_at_lem, four_at_lem, two_bytes, four_bytes}
use Rattle.book.specs.Checks.{equal, fault}
use Rattle.book.specs.Layout.{raters, start_of, grades_at, kind_at, end_of, first_start, leftover_fault}
use Rattle.book.specs.Layout.{head_checks, table_checks, tables_fault_from, layout_fault}
use Rattle.book.specs.Rows.{grade_in, grades_in, table_from, tables_in}
use Rattle.book.specs.Encode.{encode_grade, encode_grades, encode_table, size_of, encode_tables, offsets, ends_at, encode}
use Rattle.book.proofs.Checks.{held, held_first}
use Rattle.book.proofs.Rows.{length_rows}
use Rattle.book.proofs.Books.{header}
use Rattle.book.proofs.Whole.{count_tables}

byte : (b : List ℕ) (i : ℕ) → Every Byte b → byte_at b i < 256
byte [] i h = omega arith
byte (x ∷ b) zero h = h.0
byte (x ∷ b) (suc i) h = byte b i h.1

-- a number's low digit and the rest, to a base k
digits : (k x y : ℕ) → x < k → ((x + k * y) % k ≡ x) × ((x + k * y) / k ≡ y)
digits k x y h = (
  add-mul-mod_self_left x k y ∙ mod-eq_of_lt h,
  add-mul-div_left x y (omega arith) ∙ rw (div-eq_of_lt h, zero-add),
)

-- Each part of a book, from i to j, is the bytes of what is read there.

module _ (b : List ℕ) (h : Every Byte b) where
  two_small : (i : ℕ) → two_at_lem b i < 65_536
  unfolding two_at_lem
  two_small i = omega (arith, byte b i h, byte b (i + 1) h)

  two_again : (i j : ℕ) → j ≡ i + 2 → j ≤ length b → drop i b ≡ two_bytes (two_at_lem b i) ++ drop j b
  unfolding two_at_lem two_bytes
  two_again i j e l =
      let d = digits 256 (byte_at b i) (byte_at b (i + 1)) (byte b i h) in
      let high = mod-eq_of_lt (byte b (i + 1) h) in
      let f : j ≡ suc (suc i) = omega arith in
      drop-cons b i 0 (omega arith) ∙ rw (drop-cons b (suc i) 0 (omega arith), d.0, d.1, high, add-one i, f)

  four_again : (i j : ℕ) → j ≡ i + 4 → j ≤ length b → drop i b ≡ four_bytes (four_at_lem b i) ++ drop j b
  unfolding four_at_lem four_bytes
  four_again i j e l =
      let d = digits 65_536 (two_at_lem b i) (two_at_lem b (i + 2)) (two_small i) in
      two_again i (i + 2) refl (omega arith)
      ∙ rw (two_again (i + 2) j (omega arith) l, d.0, d.1, append_assoc (two_bytes (two_at_lem b i)))

  grade_again : (i j : ℕ) → j ≡ i + 12 → j ≤ length b → drop i b ≡ encode_grade (grade_in b 0 i) ++ drop j b
  unfolding grade_in encode_grade
  grade_again i j e l =
      four_again i (i + 4) refl (omega arith)
      ∙ rw (four_again (i + 4) (i + 8) (omega arith) (omega arith), four_again (i + 8) j (omega arith) l) (simp append_assoc)

  rows_again : (k i j : ℕ) → j ≡ i + 12 * k → j ≤ length b → drop i b ≡ encode_grades (grades_in b 0 k i) ++ drop j b
  unfolding grades_in encode_grades
  rows_again zero i j e l = let f : i ≡ j = omega arith in rw f
  rows_again (suc k) i j e l =
      grade_again i (i + 12) refl (omega arith)
      ∙ rw (rows_again k (i + 12) j (omega arith) l, append_assoc (encode_grade (grade_in b 0 i)))

  table_again : (i : ℕ) → grades_at b i ≤ 40 → kind_at b i ≡ 0 → two_at_lem b (i + 2) ≡ 0 → end_of b i ≤ length b
      → drop i b ≡ encode_table (table_from b i) ++ drop (end_of b i) b
  unfolding two_at_lem
  table_again i few kind zeros l =
      let n = grades_at b i in
      let e : two_at_lem b i ≡ n = omega arith in
      let t = grades_in b 0 n (i + 4) in
      two_again i (i + 2) refl (omega arith)
      ∙ rw (
        e,
        two_again (i + 2) (i + 4) (omega arith) (omega arith),
        zeros,
        rows_again n (i + 4) (end_of b i) refl l,
        kind,
        ← header t n (length_rows b 0 n (i + 4)) few,
      )
      (simp append_assoc)

-- What the checks of the table of rater j say, where the one before ended at `at`.
record Here (b : List ℕ) (j at : ℕ) : Type 0 where
  pub start : start_of b j ≡ at
  pub few : grades_at b at ≤ 40
  pub zeros : two_at_lem b (at + 2) ≡ 0
  pub inside : end_of b at ≤ length b
  pub size : at + size_of (table_from b at) ≡ end_of b at

here : (b : List ℕ) (j at : ℕ) → fault (table_checks b j at) ≡ 0 → Here b j at
unfolding table_checks
here b j at e =
    let h = held (table_checks b j at) e in
    record {
      start = h.0;
      few = omega arith;
      zeros = omega arith;
      inside = omega arith;
      size = omega (arith, length_rows b (kind_at b at) (grades_at b at) (at + 4));
    }

ends_again : (b : List ℕ) (k j at : ℕ) → tables_fault_from b k j at ≡ 0 → ends_at at (tables_in b j k) ≡ length b
unfolding tables_fault_from tables_in ends_at
ends_again b zero j at e = (held (equal at (length b) leftover_fault ∷ []) e).0
ends_again b (suc k) j at e =
    let f = held_first _ _ e in
    let t = here b j at f.0 in
    rw (t.start, t.size) (ends_again b k (suc j) (end_of b at) f.1)

module _ (b : List ℕ) (h : Every Byte b) where
  offsets_again : (k j at : ℕ) → tables_fault_from b k j at ≡ 0 → 2 + 2 * (j + k) ≤ length b
      → drop (2 + 2 * j) b ≡ offsets at (tables_in b j k) ++ drop (2 + 2 * (j + k)) b
  unfolding tables_fault_from tables_in offsets
  offsets_again zero j at e l = rw add-zero
  offsets_again (suc k) j at e l =
      let f = held_first _ _ e in
      let t = here b j at f.0 in
      let n : j + suc k ≡ suc j + k = omega arith in
      two_again b h (2 + 2 * j) (2 + 2 * suc j) (omega arith) (omega arith)
      ∙ rw (t.start, t.size, n, offsets_again k (suc j) (end_of b at) f.1 (omega arith)) (simp append_assoc)

  tables_again : (k j at : ℕ) → tables_fault_from b k j at ≡ 0 → ((i : ℕ) → j ≤ i → i < j + k → kind_at b (start_of b i) ≡ 0)
      → drop at b ≡ encode_tables (tables_in b j k)
  unfolding tables_fault_from tables_in encode_tables
  tables_again zero j at e kinds = rw (held (equal at (length b) leftover_fault ∷ []) e).0 (drop-length b)
  tables_again (suc k) j at e kinds =
      let f = held_first _ _ e in
      let t = here b j at f.0 in
      let kind : kind_at b at ≡ 0 = rw t.start at (kinds j (omega arith) (omega arith)) in
      table_again b h at t.few kind t.zeros t.inside
      ∙ rw (t.start, tables_again k (suc j) (end_of b at) f.1 (λ i from to. kinds i (omega arith) (omega arith)))

  pub written_again : layout_fault b ≡ 0 → ((j : ℕ) → 1 ≤ j → j ≤ raters b → kind_at b (start_of b j) ≡ 0) → encode (tables_in b 1 (raters b)) ≡ b
  unfolding layout_fault head_checks encode
  written_again e kinds =
      let f = held_first _ _ e in
      let c = held (head_checks b) f.0 in
      let ts = tables_in b 1 (raters b) in
      let n = count_tables b 1 (raters b) in
      let size = ends_again b (raters b) 1 (first_start b) f.1 in
      let first : 2 + 2 * (1 + raters b) ≡ first_start b = omega arith in
      let parts : b ≡ two_bytes (raters b) ++ (two_bytes (length b) ++ (offsets (first_start b) ts ++ encode_tables ts)) =
      two_again b h 0 2 refl (omega arith)
      ∙ rw (
        two_again b h 2 4 refl (omega arith),
        c.1.0,
        offsets_again (raters b) 1 (first_start b) f.1 (omega arith),
        first,
        tables_again (raters b) 1 (first_start b) f.1 (λ i from to. kinds i from (omega arith)),
      ) in
      rw (n, size) (sym parts)
