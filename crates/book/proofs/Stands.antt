-- Where the table of a rater stands in a book whose layout has no fault.
use Prim.Native.Nat.{ℕ, zero, suc, ◌+◌, ◌-◌, ◌*◌, ◌≤◌, ◌<◌}
use mathlib.Core.Path.{◌≡◌}
use mathlib.Core.List.{List}
use native.Mathlib.Nat.{add-zero}
use native.Mathlib.Omega.{arith}
use lib.ListN.{length}
use Rattle.book.specs.Checks.{fault}
use Rattle.book.specs.Layout.{raters, start_of, grades_at, end_of, first_start, head_checks, table_checks, tables_fault_from, tables_fault_lem}
use Rattle.book.proofs.Checks.{Holds, held, held_first}

starts : (b : List ℕ) (j at : ℕ) → Holds (table_checks b j at) → start_of b j ≡ at
unfolding table_checks
starts b j at h = h.0

-- the checks of each table hold where its offset says that it starts
tables_hold : (b : List ℕ) (k j at m : ℕ) → tables_fault_from b k j at ≡ 0 → m < k → Holds (table_checks b (j + m) (start_of b (j + m)))
unfolding tables_fault_from
tables_hold b zero j at m e h = absurd (omega arith)
tables_hold b (suc k) j at zero e h =
    let s = held (table_checks b j at) (held_first _ _ e).0 in
    rw (add-zero, starts b j at s) s
tables_hold b (suc k) j at (suc m) e h =
    let n : j + suc m ≡ suc j + m = omega arith in
    rw n (tables_hold b k (suc j) (end_of b at) m (held_first _ _ e).1 (omega arith))

pub record Stands (b : List ℕ) (j : ℕ) : Type 0 where
  pub from : 1 ≤ j
  pub head : 4 + 2 * j ≤ length b
  pub some : 1 ≤ grades_at b (start_of b j)
  pub few : grades_at b (start_of b j) ≤ 40
  pub inside : end_of b (start_of b j) ≤ length b

pub stands : (b : List ℕ) (j : ℕ) → fault (head_checks b) ≡ 0 → 1 ≤ j → j ≤ raters b → tables_fault_lem b ≡ 0 → Stands b j
unfolding head_checks table_checks
stands b j e from to f =
    let h = held (head_checks b) e in
    let n : 1 + (j - 1) ≡ j = omega arith in
    let t = rw n at (tables_hold b (raters b) 1 (first_start b) (j - 1) f (omega arith)) in
    record { from = from; head = omega arith; some = omega arith; few = omega arith; inside = omega arith }
