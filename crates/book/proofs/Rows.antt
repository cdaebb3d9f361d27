-- The rows of a table in a book: those read so far and those to come, as 32 bits hold them, and the faults of both.
use Prim.Native.Nat.{ℕ, zero, suc, ◌+◌, ◌-◌, ◌*◌, ◌≤◌, ◌<◌}
use Rattle.std.specs.Prelude.{min}
use mathlib.Core.Path.{◌≡◌, refl, sym, ap, ◌∙◌}
use mathlib.Core.Bool.{Bool, true, false}
use mathlib.Core.List.{List, [], ◌∷◌, ◌++◌, map}
use native.Mathlib.Decide.{dec_le}
use native.Mathlib.Nat.{add-zero}
use native.Mathlib.Omega.{arith}
use borrow.Author.Tests.{le-leb, lt-leb, leb-true, leb-false, ne_eqb}
use lib.Dec.{leb, eqb}
use lib.ListN.{length}
use Rattle.table.specs.Table.{Table, Grade, occupied, obligors_in}
use Rattle.table.specs.Counts.{largest, capped}
use Rattle.table.proofs.Occupied.{someone, some_grade}
use Rattle.book.specs.Checks.{fault}
use Rattle.book.specs.Rows.{grade_in, grades_in, row_checks, later_checks, later_fault, rows_fault, total_checks, table_fault_lem}
use Rattle.book.specs.Private.{capped_grade, sum_checks}
use Rattle.book.proofs.Checks.{held, first_none, first_some}

-- Rows read, and rows to come.

pub rows_end : (b : List ℕ) (kind n i at : ℕ) → n ≤ i → grades_in b kind (n - i) at ≡ []
unfolding grades_in
rows_end b kind n i at h = let e : n - i ≡ 0 = omega arith in rw e

pub rows_at : (b : List ℕ) (kind n i at : ℕ) → i < n → grades_in b kind (n - i) at ≡ grade_in b kind at ∷ grades_in b kind (n - (i + 1)) (at + 12)
unfolding grades_in
rows_at b kind n i at h = let e : n - i ≡ suc (n - (i + 1)) = omega arith in rw e

pub length_rows : (b : List ℕ) (kind n at : ℕ) → length (grades_in b kind n at) ≡ n
unfolding grades_in
length_rows b kind zero at = refl
length_rows b kind (suc n) at = ap suc (length_rows b kind n (at + 12))

pub rows_more : (b : List ℕ) (kind i at : ℕ) → grades_in b kind (suc i) at ≡ grades_in b kind i at ++ grade_in b kind (at + 12 * i) ∷ []
unfolding grades_in
rows_more b kind zero at = rw add-zero
rows_more b kind (suc i) at =
    let e : at + 12 * suc i ≡ at + 12 + 12 * i = omega arith in
    rw (e, rows_more b kind i (at + 12))

-- any kind but 0 is read as 1

same_test : (k n : ℕ) → k ≡ min n 1 → eqb k 0 ≡ eqb n 0
same_test k zero e = let f : k ≡ 0 = omega arith in rw f
same_test k (suc n) e = ne_eqb k 0 (λ z. omega arith) ∙ sym (ne_eqb (suc n) 0 (λ z. omega arith))

pub same_kind : (b : List ℕ) (k n at : ℕ) → k ≡ min n 1 → grade_in b k at ≡ grade_in b n at
unfolding grade_in
same_kind b k n at e = rw (same_test k n e)

-- Rows as 32 bits hold them: a count that they cannot hold has the same faults, and takes the total over the limit.

abbrev pub capped_table : Table → Table
capped_table t = map capped_grade t

pub capped_more : (t u : Table) → capped_table (t ++ u) ≡ capped_table t ++ capped_table u
capped_more [] u = refl
capped_more (g ∷ t) u = ap (λ (l : Table). capped_grade g ∷ l) (capped_more t u)

capped_le : (t : Table) → obligors_in (capped_table t) ≤ obligors_in t
unfolding obligors_in
capped_le [] = omega arith
capped_le (g ∷ t) = omega (arith, capped_le t)

capped_exact : (t : Table) → obligors_in (capped_table t) ≤ 1_000_000 → capped_table t ≡ t
unfolding obligors_in
capped_exact [] h = refl
capped_exact (g ∷ t) h =
    let e : capped g.obligors ≡ g.obligors = omega arith in
    rw (e, capped_exact t (omega arith))

leb_same : (a b c d : ℕ) (t : Bool) → leb a b ≡ t → (a ≤ b → c ≤ d) → (b < a → d < c) → leb a b ≡ leb c d
leb_same a b c d true e f g = e ∙ sym (le-leb c d (f (leb-true a b e)))
leb_same a b c d false e f g = e ∙ sym (lt-leb c d (g (leb-false a b e)))

pub capped-fault : (before : ℕ) (g : Grade) → g.defaults ≤ largest → fault (later_checks before (capped_grade g)) ≡ fault (later_checks before g)
unfolding fault row_checks later_checks
capped-fault before g h =
    rw (leb_same g.defaults (capped g.obligors) g.defaults g.obligors _ refl (λ l. omega arith) (λ l. omega arith))

-- No rate is below 0: the first row is as one behind a row that announced 0.
pub rows_later : (t : Table) → rows_fault t ≡ later_fault 0 t
unfolding fault row_checks later_checks later_fault rows_fault
rows_later [] = refl
rows_later (g ∷ t) = rw (le-leb 0 g.announced (omega arith))

-- The code tests the sum of the rows as 32 bits hold them, and counts no occupied grades: the faults after the last row are the same.

all-empty : (t : Table) → obligors_in t < 1 → length (occupied t) < 1
all-empty t h = elim (dec_le 1 (length (occupied t))) [ yes o ↦ absurd (omega (arith, someone t o)) | no n ↦ omega arith ]

pub sum-fault : (t : Table) (sum : ℕ) → sum ≡ obligors_in (capped_table t) → fault (sum_checks sum) ≡ fault (total_checks t)
unfolding fault total_checks
sum-fault t sum e =
    let low = capped_le t in
    let exact : sum ≤ 1_000_000 → sum ≡ obligors_in t = λ l. e ∙ ap obligors_in (capped_exact t (omega arith)) in
    rw (
      leb_same 1 sum 1 (length (occupied t)) _ refl (λ l. some_grade t (omega arith)) (λ l. all-empty t (omega (arith, exact (omega arith)))),
      leb_same sum 1_000_000 (obligors_in t) 1_000_000 _ refl (λ l. omega (arith, exact l)) (λ l. omega arith),
    )

-- A table without such a fault is as 32 bits hold it.
pub faultless_exact : (t : Table) → fault (total_checks t) ≡ 0 → capped_table t ≡ t
unfolding total_checks
faultless_exact t e = let h = held (total_checks t) e in capped_exact t (omega (arith, capped_le t))

-- The fault of a table is that of its rows, and if they have none that of its total.

pub by_rows : (t : Table) (n : ℕ) → (n ≡ 0 → ⊥) → rows_fault t ≡ n → n ≡ table_fault_lem t
unfolding table_fault_lem
by_rows t n k e = rw e (sym (first_some n _ k))

pub by_total : (t : Table) (n : ℕ) → rows_fault t ≡ 0 → n ≡ fault (total_checks t) → n ≡ table_fault_lem t
unfolding table_fault_lem
by_total t n e h = h ∙ sym (first_none _ _ e)
