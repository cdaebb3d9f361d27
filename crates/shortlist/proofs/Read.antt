-- A table that is read without a fault is sound, and stands in the place that it was read into.
use Prim.Native.Nat.{ℕ, ◌+◌, ◌≤◌}
use mathlib.Core.Path.{◌≡◌, ap, ◌∙◌}
use mathlib.Core.List.{List}
use native.Mathlib.Omega.{arith}
use lib.ListN.{length}
use Rattle.table.specs.declared.Place.{Place}
use Rattle.table.specs.Table.{Table, Sound}
use Rattle.table.specs.Place.{table_of, place_of, holds}
use Rattle.table.specs.Words.{words_of, table_in, HoldsTable}
use Rattle.table.proofs.Placed.{table_placed, placed_loaded}
use Rattle.table.proofs.Words.{long_place, place_back, is-place, holds-table}
use Rattle.book.specs.Layout.{grades_at, kind_at}
use Rattle.book.specs.Rows.{table_from, table_fault_lem}
use Rattle.book.proofs.Rows.{length_rows}
use Rattle.book.proofs.Faultless.{faultless_sound}

pub record Stored (w : List ℕ) (t : Table) : Type 0 where
  pub holds : HoldsTable w
  pub table : table_in w ≡ t

pub stored : (b : List ℕ) (start : ℕ) {w : List ℕ} → 1 ≤ grades_at b start → grades_at b start ≤ 40 → table_fault_lem (table_from b start) ≡ 0
    → w ≡ words_of (place_of (table_from b start)) → Stored w (table_from b start)
stored b start some few e words =
    let t = table_from b start in
    let l : length t ≡ grades_at b start = length_rows b (kind_at b start) (grades_at b start) (start + 4) in
    let sound : Sound t = faultless_sound t (omega arith) (omega arith) e in
    let back = place_back (place_of t) (long_place (holds t sound)) in
    rw words
    (record {
      holds = holds-table (is-place (holds t sound)) (ap (λ (p : Place). p.loaded) back ∙ placed_loaded t);
      table = ap table_of back ∙ table_placed t;
    })
