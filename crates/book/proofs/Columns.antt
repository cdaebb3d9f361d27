-- The first column of a table in a book is its obligors or its survivors, as the kind says.
use Prim.Native.Nat.{ℕ, zero, suc, ◌+◌, ◌*◌, ◌<◌}
use mathlib.Core.Path.{◌≡◌}
use mathlib.Core.List.{List}
use native.Mathlib.Nat.{add-zero}
use native.Mathlib.Omega.{arith}
use lib.ListN.{get_or}
use Rattle.table.specs.Table.{survivors}
use Rattle.table.specs.Place.{blank}
use Rattle.book.specs.Bytes.{four_at_lem}
use Rattle.book.specs.Layout.{start_of, grades_at, kind_at}
use Rattle.book.specs.Rows.{grade_in, grades_in, table_of_rater}

grade-at : (b : List ℕ) (kind n i at : ℕ) → i < n → get_or (grades_in b kind n at) i blank ≡ grade_in b kind (at + 12 * i)
unfolding grades_in
grade-at b kind zero i at h = absurd (omega arith)
grade-at b kind (suc n) zero at h = rw add-zero
grade-at b kind (suc n) (suc i) at h =
    let e : at + 12 * suc i ≡ at + 12 + 12 * i = omega arith in
    rw (e, grade-at b kind n i (at + 12) (omega arith))

obligors-by : (b : List ℕ) (kind at : ℕ) → kind ≡ 0 → (grade_in b kind at).obligors ≡ four_at_lem b at
unfolding grade_in
obligors-by b kind at e = rw e

survivors-by : (b : List ℕ) (kind at : ℕ) → kind ≡ 1 → survivors (grade_in b kind at) ≡ four_at_lem b at
unfolding grade_in
survivors-by b kind at e = rw e (omega arith)

pub first_column : (b : List ℕ) (j i : ℕ) → i < grades_at b (start_of b j)
    → (kind_at b (start_of b j) ≡ 0 → (get_or (table_of_rater b j) i blank).obligors ≡ four_at_lem b (start_of b j + 4 + 12 * i))
    × (kind_at b (start_of b j) ≡ 1 → survivors (get_or (table_of_rater b j) i blank) ≡ four_at_lem b (start_of b j + 4 + 12 * i))
first_column b j i h =
    let at = start_of b j in
    let e = grade-at b (kind_at b at) (grades_at b at) i (at + 4) h in
    (λ k. rw e (obligors-by b (kind_at b at) (at + 4 + 12 * i) k), λ k. rw e (survivors-by b (kind_at b at) (at + 4 + 12 * i) k))
