-- 9 is given for tables whose grades are all empty, and for no others.
use Prim.Native.Nat.{ℕ, ◌≤◌, ◌<◌}
use mathlib.Core.Path.{◌≡◌, refl, sym, ap, ◌∙◌}
use mathlib.Core.List.{List, [], ◌∷◌}
use native.Mathlib.Omega.{arith}
use lib.ListN.{length}
use Rattle.table.specs.Table.{Table, occupied}
use Rattle.book.specs.Layout.{raters, layout_fault}
use Rattle.book.specs.Rows.{table_of_rater, row_checks, later_checks, rows_fault, total_checks, table_fault_lem}
use Rattle.book.specs.Reading.{read_fault}
use Rattle.book.proofs.Checks.{Finds, found, none, pass, over, finds, go}
use Rattle.book.proofs.Accept.{rows_decide}
use Rattle.book.proofs.Numbers.{all_pass, is_other, rows_pass, past, past_layout}

pub empty_told : (b : List ℕ) (j : ℕ) → layout_fault b ≡ 0 → 1 ≤ j → j ≤ raters b
    → rows_fault (table_of_rater b j) ≡ 0 → occupied (table_of_rater b j) ≡ [] → read_fault b j ≡ 9
unfolding table_fault_lem total_checks
empty_told b j e some few rows none_here =
    let n : length (occupied (table_of_rater b j)) ≡ 0 = ap (λ (t : Table). length t) none_here in
    sym (rows_decide b j e some few) ∙ sym (go rows (found (over (omega arith))))

-- No other check has the number 9.

no_grade : (t : Table) → length t < 1 → t ≡ []
no_grade [] h = refl
no_grade (r ∷ t) h = absurd (omega arith)

total_means : (t : Table) (n : ℕ) → Finds (total_checks t) n → n ≡ 9 → occupied t ≡ []
unfolding total_checks
total_means t n (pass some (pass few none)) e = absurd (omega arith)
total_means t n (pass some (over many)) e = absurd (omega arith)
total_means t n (over few) e = no_grade (occupied t) few

pub nine_means : (b : List ℕ) (j : ℕ) → read_fault b j ≡ 9 → (rows_fault (table_of_rater b j) ≡ 0) × (occupied (table_of_rater b j) ≡ [])
unfolding table_fault_lem row_checks later_checks all_pass
nine_means b j e =
    let t = table_of_rater b j in
    let rows = past (is_other 9) _ _ 9 (rows_pass (is_other 9) tt (λ p g. tt) t) (λ h. h) (past_layout b j 9 (λ h. h) e).table in
    (rows.0, total_means t _ (finds (total_checks t)) rows.1)
