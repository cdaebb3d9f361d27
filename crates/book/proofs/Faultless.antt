-- A table of 1 to 40 grades has no fault exactly if it is sound.
use Prim.Native.Nat.{ℕ, ◌≤◌}
use mathlib.Core.Path.{◌≡◌, refl, sym}
use mathlib.Core.List.{[], ◌∷◌}
use lib.ListN.{length}
use Rattle.table.specs.Table.{Table, Grade, Every, Counted, Rated, InOrder, Sound}
use Rattle.book.specs.Checks.{fault}
use Rattle.book.specs.Rows.{row_checks, later_checks, later_fault, rows_fault, total_checks, table_fault_lem}
use Rattle.book.proofs.Checks.{found, none, pass, held, held_first, go}

-- every row passes the checks
record Passed (t : Table) : Type 0 where
  pub counted : Every Counted t
  pub rated : Every Rated t
  pub in_order : InOrder t

-- the rows from g on, which passes 8 and 10
passed_from : (g : Grade) (t : Table) → Counted g → Rated g → later_fault g.announced t ≡ 0 → Passed (g ∷ t)
unfolding later_fault row_checks later_checks InOrder
passed_from g [] c r e = record { counted = (c, tt); rated = (r, tt); in_order = tt }
passed_from g (h ∷ t) c r e =
    let f = held_first _ _ e in
    let k = held (later_checks g.announced h) f.0 in
    let p = passed_from h t k.0 k.1.0 f.1 in
    record { counted = (c, p.counted); rated = (r, p.rated); in_order = (k.1.1.0, p.in_order) }

passed : (t : Table) → rows_fault t ≡ 0 → Passed t
unfolding rows_fault row_checks InOrder
passed [] e = record { counted = tt; rated = tt; in_order = tt }
passed (g ∷ t) e =
    let f = held_first _ _ e in
    let k = held (row_checks g) f.0 in
    passed_from g t k.0 k.1.0 f.1

pub faultless_sound : (t : Table) → 1 ≤ length t → length t ≤ 40 → table_fault_lem t ≡ 0 → Sound t
unfolding table_fault_lem total_checks
faultless_sound t some few e =
    let f = held_first _ _ e in
    let p = passed t f.0 in
    let h = held (total_checks t) f.1 in
    record {
      some = some;
      few = few;
      some_occupied = h.0;
      counted = p.counted;
      rated = p.rated;
      in_order = p.in_order;
      total = h.1.0;
    }

pub row_faultless : (before : ℕ) (g : Grade) → Counted g → Rated g → before ≤ g.announced → fault (later_checks before g) ≡ 0
unfolding row_checks later_checks
row_faultless before g c r o = sym (found (pass c (pass r (pass o none))))

later_faultless : (g : Grade) (t : Table) → Every Counted t → Every Rated t → InOrder (g ∷ t) → 0 ≡ later_fault g.announced t
unfolding later_fault InOrder
later_faultless g [] c r o = refl
later_faultless g (h ∷ t) c r o = go (row_faultless g.announced h c.0 r.0 o.0) (later_faultless h t c.1 r.1 o.1)

rows_faultless : (t : Table) → Every Counted t → Every Rated t → InOrder t → 0 ≡ rows_fault t
unfolding rows_fault row_checks
rows_faultless [] c r o = refl
rows_faultless (g ∷ t) c r o = go (sym (found (pass c.0 (pass r.0 none)))) (later_faultless g t c.1 r.1 o)

pub sound_faultless : (t : Table) → Sound t → table_fault_lem t ≡ 0
unfolding table_fault_lem total_checks
sound_faultless t s =
    sym (go (sym (rows_faultless t s.counted s.rated s.in_order)) (found (pass s.some_occupied (pass s.total none))))
