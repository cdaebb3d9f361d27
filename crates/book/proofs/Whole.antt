-- A book read as a whole: where its tables stand, that it has no fault exactly if each of its raters is read without one, and which is the first.
use Prim.Native.Nat.{ℕ, zero, suc, ◌+◌, ◌*◌, ◌≤◌, ◌<◌}
use mathlib.Core.Path.{◌≡◌, refl, sym, ap, ◌∙◌}
use mathlib.Core.Logic.{◌↔◌}
use mathlib.Core.List.{List, []}
use native.Mathlib.Decide.{dec_le}
use native.Mathlib.Omega.{arith}
use lib.ListN.{length, get_or}
use Rattle.table.specs.Table.{Every, Sound}
use Rattle.book.specs.Layout.{raters, head_checks, layout_fault}
use Rattle.book.specs.Rows.{table_of_rater, tables_in, table_fault_lem}
use Rattle.book.specs.Reading.{read_fault, all_tables, table_faults, book_fault}
use Rattle.book.proofs.Checks.{held, held_first, first_none, first_some, go}
use Rattle.book.proofs.Stands.{Stands, stands}
use Rattle.book.proofs.Accept.{sound_read, rows_decide}

-- What a faultless layout says of the book.
pub record Laid (b : List ℕ) : Type 0 where
  pub some : 1 ≤ raters b
  pub few : raters b ≤ 16
  pub long : 4 + 2 * raters b ≤ length b
  pub standing : (j : ℕ) → 1 ≤ j → j ≤ raters b → Stands b j

pub laid : (b : List ℕ) → layout_fault b ≡ 0 → Laid b
unfolding layout_fault head_checks
laid b e =
    let f = held_first _ _ e in
    let h = held (head_checks b) f.0 in
    record { some = h.1.1.0; few = h.1.1.1.0; long = h.1.1.1.1.0; standing = λ j from to. stands b j f.0 from to f.1 }

-- The tables, one by one.

pub count_tables : (b : List ℕ) (j k : ℕ) → length (tables_in b j k) ≡ k
unfolding tables_in
count_tables b j zero = refl
count_tables b j (suc k) = ap suc (count_tables b (suc j) k)

pub table_at : (b : List ℕ) (j k m : ℕ) → m < k → get_or (tables_in b j k) m [] ≡ table_of_rater b (j + m)
unfolding tables_in
table_at b j zero m h = absurd (omega arith)
table_at b j (suc k) zero h = let e : j + 0 ≡ j = omega arith in rw e
table_at b j (suc k) (suc m) h = let e : j + suc m ≡ suc j + m = omega arith in rw e (table_at b (suc j) k m (omega arith))

faults_at : (b : List ℕ) (j k : ℕ) → table_faults (tables_in b j k) ≡ 0 → (m : ℕ) → j ≤ m → m < j + k → table_fault_lem (table_of_rater b m) ≡ 0
unfolding tables_in table_faults
faults_at b j zero e m from to = absurd (omega arith)
faults_at b j (suc k) e m from to =
    let f = held_first _ _ e in
    elim (dec_le m j) [
      | yes le ↦ let n : m ≡ j = omega arith in rw n f.0
      | no gt ↦ faults_at b (suc j) k f.1 m (omega arith) (omega arith)
    ]

at_faults : (b : List ℕ) (j k : ℕ) → ((m : ℕ) → j ≤ m → m < j + k → table_fault_lem (table_of_rater b m) ≡ 0) → 0 ≡ table_faults (tables_in b j k)
unfolding tables_in table_faults
at_faults b j zero each = refl
at_faults b j (suc k) each = go (each j (omega arith) (omega arith)) (at_faults b (suc j) k (λ m from to. each m (omega arith) (omega arith)))

-- Each of them is read as load reads it.
pub whole_read : (b : List ℕ) → (book_fault b ≡ 0) ↔ ((layout_fault b ≡ 0) × ((j : ℕ) → 1 ≤ j → j ≤ raters b → read_fault b j ≡ 0))
unfolding book_fault
whole_read b = (
  λ e. let f = held_first _ _ e in
      (f.0, λ j from to. sym (rows_decide b j f.0 from to) ∙ faults_at b 1 (raters b) f.1 j from (omega arith)),
  λ h. sym (go h.0 (at_faults b 1 (raters b) (λ j from to. rows_decide b j h.0 from (omega arith) ∙ h.1 j from (omega arith)))),
)

-- The first fault is that of the layout, or that of the first rater with one.

table_told : (b : List ℕ) (i k j : ℕ) → i ≤ j → j < i + k → ((m : ℕ) → i ≤ m → m < j → table_fault_lem (table_of_rater b m) ≡ 0)
    → (table_fault_lem (table_of_rater b j) ≡ 0 → ⊥) → table_faults (tables_in b i k) ≡ table_fault_lem (table_of_rater b j)
unfolding tables_in table_faults
table_told b i zero j from to earlier some = absurd (omega arith)
table_told b i (suc k) j from to earlier some =
    elim (dec_le j i) [
      | yes le ↦ let e : i ≡ j = omega arith in rw e (first_some _ _ some)
      | no gt ↦ first_none _ _ (earlier i (omega arith) (omega arith))
          ∙ table_told b (suc i) k j (omega arith) (omega arith) (λ m p q. earlier m (omega arith) q) some
    ]

pub first_told : (b : List ℕ)
    → ((layout_fault b ≡ 0 → ⊥) → book_fault b ≡ layout_fault b)
    × ((j : ℕ) → layout_fault b ≡ 0 → 1 ≤ j → j ≤ raters b
    → ((i : ℕ) → 1 ≤ i → i < j → read_fault b i ≡ 0) → (read_fault b j ≡ 0 → ⊥) → book_fault b ≡ read_fault b j)
unfolding book_fault
first_told b = (
  λ k. first_some _ _ k,
  λ j e from to earlier some.
      let same = rows_decide b j e from to in
      first_none _ _ e
      ∙ table_told b 1 (raters b) j from (omega arith) (λ m p q. rows_decide b m e p (omega arith) ∙ earlier m p q) (λ z. some (sym same ∙ z))
      ∙ same,
)

pub tables_sound : (b : List ℕ) → book_fault b ≡ 0 → Every Sound (all_tables b)
unfolding tables_in
tables_sound b e = upto 1 (raters b) (omega arith) (omega arith)
  where
    upto : (j k : ℕ) → 1 ≤ j → j + k ≤ suc (raters b) → Every Sound (tables_in b j k)
    upto j zero from to = tt
    upto j (suc k) from to = (sound_read b j (((whole_read b).0 e).1 j from (omega arith)), upto (suc j) k (omega arith) (omega arith))
