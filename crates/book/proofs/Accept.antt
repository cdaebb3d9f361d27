-- A reading without a fault: the place holds the rater's table, which is sound, and nothing behind it. Of a book that is laid out, every
-- sound table is read so.
use Prim.Native.Nat.{ℕ, ◌+◌, ◌≤◌}
use mathlib.Core.Path.{◌≡◌, refl, sym, ◌∙◌}
use mathlib.Core.List.{List}
use native.Mathlib.Omega.{arith}
use lib.ListN.{length}
use Rattle.table.specs.Table.{Sound}
use Rattle.table.specs.Place.{place_of}
use Rattle.table.proofs.Placed.{table_placed, placed_grades, placed_loaded, placed_past, sound_placed}
use Rattle.book.specs.Layout.{raters, start_of, grades_at, kind_at, rater_checks, layout_fault}
use Rattle.book.specs.Rows.{table_of_rater, table_fault_lem}
use Rattle.book.specs.Reading.{read_fault}
use Rattle.book.specs.Claims.{Accepted}
use Rattle.book.proofs.Checks.{found, none, pass, held, held_first, go}
use Rattle.book.proofs.Rows.{length_rows}
use Rattle.book.proofs.Stands.{stands, Stands}
use Rattle.book.proofs.Faultless.{faultless_sound, sound_faultless}

-- what no fault of any check means
record Checked (b : List ℕ) (j : ℕ) : Type 0 where
  pub standing : Stands b j
  pub table : table_fault_lem (table_of_rater b j) ≡ 0

checked : (b : List ℕ) (j : ℕ) → read_fault b j ≡ 0 → Checked b j
unfolding read_fault rater_checks
checked b j e =
    let h = held_first _ _ e in
    let r = held_first _ _ h.1 in
    let t = held_first _ _ r.1 in
    let c = held (rater_checks b j) r.0 in
    record { standing = stands b j h.0 c.0 c.1.0 t.0; table = t.1 }

-- A table that is read without a fault is sound.
pub sound_read : (b : List ℕ) (j : ℕ) → read_fault b j ≡ 0 → Sound (table_of_rater b j)
sound_read b j e =
    let c = checked b j e in
    let s = c.standing in
    let at = start_of b j in
    let l : length (table_of_rater b j) ≡ grades_at b at = length_rows b (kind_at b at) (grades_at b at) (at + 4) in
    faultless_sound (table_of_rater b j) (omega arith) (omega arith) c.table

pub accepted : (b : List ℕ) (j : ℕ) → read_fault b j ≡ 0 → Accepted b j (place_of (table_of_rater b j))
accepted b j e =
    let t = table_of_rater b j in
    record {
      table = table_placed t;
      sound = sound_placed t (sound_read b j e);
      loaded = placed_loaded t;
      unused = λ i h. placed_past t i (omega (arith, placed_grades t));
    }

-- Of a book that is laid out, each rater's rows and total decide.
pub rows_decide : (b : List ℕ) (j : ℕ) → layout_fault b ≡ 0 → 1 ≤ j → j ≤ raters b → table_fault_lem (table_of_rater b j) ≡ read_fault b j
unfolding layout_fault read_fault rater_checks
rows_decide b j e some few =
    let laid = held_first _ _ e in
    go laid.0 (go (sym (found (pass some (pass few none)))) (go laid.1 refl))

pub sound_accepted : (b : List ℕ) (j : ℕ) → layout_fault b ≡ 0 → 1 ≤ j → j ≤ raters b → Sound (table_of_rater b j) → read_fault b j ≡ 0
sound_accepted b j e some few sound = sym (rows_decide b j e some few) ∙ sound_faultless (table_of_rater b j) sound
