-- The bytes of a book: how many they are, and how they are stored part by part; and what a write of tables answers.
use Prim.Native.Nat.{ℕ, suc, ◌+◌, ◌*◌, ◌/◌, ◌%◌, ◌≤◌, ◌<◌}
use mathlib.Core.Path.{◌≡◌, refl, ap, ◌∙◌}
use mathlib.Core.Bool.{Bool, cond}
use mathlib.Core.List.{List, [], ◌∷◌, ◌++◌, append-nil, append_assoc}
use native.Mathlib.Nat.{add-zero}
use native.Mathlib.Omega.{arith}
use lib.ListN.{length, drop, length-append}
use Rattle.table.specs.declared.Place.{Place}
use Rattle.table.specs.Table.{Table, Grade}
use Rattle.table.specs.Place.{table_of}
use Rattle.table.specs.Words.{place_in, table_in, IsPlace}
use Rattle.table.proofs.Suffix.{length_grades}
use Rattle.table.proofs.Words.{few_grades, long_words}
use Rattle.refusals.specs.Answers.{Answer, accepted, refused}
use Rattle.book.specs.Bytes.{two_bytes, four_bytes}
use Rattle.book.specs.Private.{stored, encode_head, Writable}
use Rattle.book.specs.Encode.{encode_grade, encode_grades, encode_table, encode_tables, offsets, ends_at, size_of, book_size, encode}
use Rattle.book.specs.Writing.{write_fault, buffer_or, write_answer, buffer_after, tables_of}
use Rattle.book.proofs.Checks.{found, none, pass, over}
use Rattle.book.proofs.Stored.{stored_two, stored-three, stored-all}

-- Lengths.

pub length_two : (n : ℕ) → length (two_bytes n) ≡ 2
unfolding two_bytes
length_two n = refl

pub length_grade : (g : Grade) → length (encode_grade g) ≡ 12
unfolding encode_grade four_bytes two_bytes
length_grade g = refl

length_rows : (t : Table) → length (encode_grades t) ≡ 12 * length t
unfolding encode_grades
length_rows [] = refl
length_rows (g ∷ t) = rw (length-append, length_grade) (omega (arith, length_rows t))

pub length_table : (t : Table) → length (encode_table t) ≡ size_of t
unfolding encode_table
length_table t = omega (arith, length_rows t)

pub length-offsets : (at : ℕ) (ts : List Table) → length (offsets at ts) ≡ 2 * length ts
unfolding offsets
length-offsets at [] = refl
length-offsets at (t ∷ ts) = rw (length-append, length_two) (omega (arith, length-offsets (at + size_of t) ts))

pub length_tables : (at : ℕ) (ts : List Table) → at + length (encode_tables ts) ≡ ends_at at ts
unfolding encode_tables ends_at
length_tables at [] = rw add-zero
length_tables at (t ∷ ts) = rw (length-append, length_table) (omega (arith, length_tables (at + size_of t) ts))

pub length-encode : (ts : List Table) → length (encode ts) ≡ book_size ts
unfolding encode
length-encode ts = simp (length-append, length_two, length-offsets) (omega (arith, length_tables (4 + 2 * length ts) ts))

pub size_one : (t : Table) → book_size (t ∷ []) ≡ 6 + size_of t
unfolding ends_at
size_one t = refl

pub size_two : (t u : Table) → book_size (t ∷ u ∷ []) ≡ 8 + size_of t + size_of u
unfolding ends_at
size_two t u = refl

-- the table of a lent place has as many grades as the place says
pub length-lent : (w : List ℕ) → length (table_in w) ≡ (place_in w).grades
length-lent w = length_grades (place_in w) 0 (place_in w).grades

-- Parts stored one after the other.

pub grade_stored : (l : List ℕ) (at : ℕ) (g : Grade)
    → stored (stored (stored l at (four_bytes g.obligors)) (at + 4) (four_bytes g.defaults)) (at + 8) (four_bytes g.announced)
    ≡ stored l at (encode_grade g)
unfolding encode_grade four_bytes two_bytes
grade_stored l at g = stored-three _ _ _ l at (at + 4) (at + 8) (omega arith) (omega arith)

pub header : (t : Table) (n : ℕ) → length t ≡ n → n ≤ 40 → two_bytes n ++ (two_bytes 0 ++ encode_grades t) ≡ encode_table t
unfolding two_bytes encode_table
header t n e h =
    let low : n % 256 ≡ length t = omega arith in
    let high : n / 256 % 256 ≡ 0 = omega arith in
    rw (low, high)

pub table_stored : (l : List ℕ) (at : ℕ) (t : Table) (n : ℕ) → length t ≡ n → n ≤ 40
    → stored (stored (stored l at (two_bytes n)) (at + 2) (two_bytes 0)) (at + 4) (encode_grades t) ≡ stored l at (encode_table t)
unfolding two_bytes
table_stored l at t n e h =
    stored-three (two_bytes n) (two_bytes 0) (encode_grades t) l at (at + 2) (at + 4) refl (omega arith) ∙ rw (header t n e h)

pub head_stored : (l : List ℕ) (n size : ℕ)
    → stored (stored (stored l 0 (two_bytes n)) 2 (two_bytes size)) 4 (two_bytes (4 + 2 * n)) ≡ stored l 0 (encode_head n size)
unfolding encode_head two_bytes
head_stored l n size = stored-three (two_bytes n) (two_bytes size) (two_bytes (4 + 2 * n)) l 0 2 4 refl refl

length_head : (n size : ℕ) → 0 + length (encode_head n size) ≡ 6
unfolding encode_head two_bytes
length_head n size = refl

pub one_stored : (l : List ℕ) (t : Table) (size : ℕ) → size ≡ book_size (t ∷ [])
    → stored (stored l 0 (encode_head 1 size)) 6 (encode_table t) ≡ stored l 0 (encode (t ∷ []))
unfolding encode encode_head offsets encode_tables
one_stored l t size e =
    stored_two (encode_head 1 size) (encode_table t) l 0 6 (length_head 1 size) ∙ rw e (simp (append-nil, append_assoc))

pub two_stored : (l : List ℕ) (t u : Table) (next size : ℕ) → next ≡ 8 + size_of t → size ≡ book_size (t ∷ u ∷ [])
    → stored (stored (stored (stored l 0 (encode_head 2 size)) 6 (two_bytes next)) 8 (encode_table t)) next (encode_table u)
    ≡ stored l 0 (encode (t ∷ u ∷ []))
unfolding encode encode_head offsets encode_tables
two_stored l t u next size s e =
    stored-three (two_bytes next) (encode_table t) (encode_table u) (stored l 0 (encode_head 2 size)) 6 8 next (rw length_two) (rw (length_table, s))
    ∙ stored_two (encode_head 2 size) (two_bytes next ++ (encode_table t ++ encode_table u)) l 0 6 (length_head 2 size)
    ∙ rw (e, s) (simp (append-nil, append_assoc))

-- What a write leaves.

book_stored : (ts : List Table) (buf : List ℕ) → book_size ts ≤ length buf → stored buf 0 (encode ts) ≡ encode ts ++ drop (book_size ts) buf
book_stored ts buf h = let l = length-encode ts in stored-all (encode ts) buf (omega arith) ∙ rw l

abbrev pub Wrote : List Table → List ℕ → Answer ℕ → List ℕ → Type 0
Wrote ts buf r after = (r ≡ write_answer ts (length buf)) × (after ≡ buffer_after ts buf)

module _ (ts : List Table) (buf : List ℕ) where
  pub fits : (r : Answer ℕ) (after : List ℕ) → 1 ≤ length ts → book_size ts ≤ length buf → r ≡ accepted (book_size ts) → after ≡ stored buf 0 (encode ts)
      → Wrote ts buf r after
  unfolding write_fault buffer_or
  fits r after some h e f =
      let z : 0 ≡ write_fault ts (length buf) = found (pass some (pass h none)) in
      (e ∙ rw (← z), f ∙ book_stored ts buf h ∙ rw (← z))

  refuses : (n : ℕ) → suc n ≡ write_fault ts (length buf) → Wrote ts buf (refused (suc n)) buf
  unfolding buffer_or
  refuses n z = (rw (← z), rw (← z))

  pub short : 1 ≤ length ts → length buf < book_size ts → Wrote ts buf (refused 13) buf
  unfolding write_fault
  short some h = refuses 12 (found (pass some (over h)))

pub nothing : (buf : List ℕ) → Wrote [] buf (refused 22) buf
unfolding write_fault
nothing buf = refuses [] buf 21 (found (over (omega arith)))

-- Every place that calls left can be written.
pub writable : {w : List ℕ} → IsPlace w → Writable w
writable i = record { long = long_words i; few = few_grades i.sound }

-- The loaded places, where it is known which are.

abbrev pub chosen : Place → Place → Bool → Bool → List Table
chosen p q s t = cond s (table_of p ∷ cond t (table_of q ∷ []) []) (cond t (table_of q ∷ []) [])

pub tables_are : (p q : Place) {s t : Bool} → p.loaded ≡ s → q.loaded ≡ t → tables_of p q ≡ chosen p q s t
tables_are p q {s} e f = ap (λ (x : Bool). chosen p q x q.loaded) e ∙ ap (λ (y : Bool). chosen p q s y) f
