-- 34 is given for tables whose announced rates fall, and for no others.
use Prim.Native.Nat.{ℕ, zero, suc, ◌≤◌, ◌<◌}
use mathlib.Core.Path.{◌≡◌, sym, ◌∙◌}
use mathlib.Core.List.{List, [], ◌∷◌}
use native.Mathlib.Omega.{arith}
use lib.ListN.{get_or}
use Rattle.table.specs.Table.{Table, Grade, Counted, Rated, InOrder}
use Rattle.table.specs.Place.{blank}
use Rattle.book.specs.Checks.{first_fault}
use Rattle.book.specs.Layout.{raters, layout_fault}
use Rattle.book.specs.Rows.{table_of_rater, row_checks, later_checks, later_fault, total_checks, table_fault_lem}
use Rattle.book.specs.Fall.{FallsAfter}
use Rattle.book.specs.Reading.{read_fault}
use Rattle.book.proofs.Checks.{Finds, found, none, pass, over, finds, stop, go, first_some}
use Rattle.book.proofs.Rows.{rows_later}
use Rattle.book.proofs.Numbers.{all_pass, is_other, fault_passes, earlier, past_layout}
use Rattle.book.proofs.Faultless.{row_faultless}
use Rattle.book.proofs.Accept.{rows_decide}

-- What falls is told, also behind a row that announced p, where the first row does not fall from it.
told : (p k : ℕ) (t : Table) → p ≤ (get_or t 0 blank).announced → FallsAfter t k → 34 ≡ later_fault p t
unfolding later_fault row_checks later_checks InOrder
told p k [] h f = absurd (omega (arith, f.inside))
told p k (g ∷ []) h f = absurd (omega (arith, f.inside))
told p zero (g ∷ r ∷ t) h f =
    go (row_faultless p g f.counted.0 f.rated.0 h)
    (stop _ (found (pass f.counted.1.0 (pass f.rated.1.0 (over f.below)))) (λ z. omega arith))
told p (suc k) (g ∷ r ∷ t) h f =
    go (row_faultless p g f.counted.0 f.rated.0 h)
    (told g.announced k (r ∷ t) f.in_order.0
    record {
      inside = omega (arith, f.inside);
      counted = f.counted.1;
      rated = f.rated.1;
      in_order = f.in_order.1;
      below = f.below;
    })

-- What is told falls. Behind a row that announced p: the first row falls from it, or does not and a later one falls.
data Meant (p : ℕ) : Table → Type 0 where
  here : {g : Grade} {t : Table} → Counted g → Rated g → g.announced < p → Meant p (g ∷ t)
  further : {g : Grade} {t : Table} (k : ℕ) → p ≤ g.announced → FallsAfter (g ∷ t) k → Meant p (g ∷ t)

-- with that row before it
one_more : {g : Grade} {t : Table} → Counted g → Rated g → Meant g.announced t → (k : ℕ) × FallsAfter (g ∷ t) k
unfolding InOrder
one_more c r (here d s below) =
    (0, record { inside = omega arith; counted = (c, (d, tt)); rated = (r, (s, tt)); in_order = tt; below = below })
one_more c r (further k up f) = (
  suc k,
  record {
    inside = omega (arith, f.inside);
    counted = (c, f.counted);
    rated = (r, f.rated);
    in_order = (up, f.in_order);
    below = f.below;
  },
)

meant_row : {p n : ℕ} {g : Grade} {t : Table} (rest : ℕ) → Finds (later_checks p g) n → first_fault n rest ≡ 34
    → (rest ≡ 34 → Meant g.announced t) → Meant p (g ∷ t)
unfolding first_fault row_checks later_checks
meant_row rest (over many) e then = absurd (omega (arith, first_some 8 rest (λ z. omega arith)))
meant_row rest (pass c (over high)) e then = absurd (omega (arith, first_some 10 rest (λ z. omega arith)))
meant_row rest (pass c (pass r (over below))) e then = here c r below
meant_row rest (pass c (pass r (pass up none))) e then = let m = one_more c r (then e) in further m.0 up m.1

meant : (p : ℕ) (t : Table) → later_fault p t ≡ 34 → Meant p t
unfolding later_fault
meant p [] e = absurd (omega arith)
meant p (g ∷ t) e = meant_row _ (finds (later_checks p g)) e (meant g.announced t)

no_rate_before : {t : Table} → Meant 0 t → (k : ℕ) × FallsAfter t k
no_rate_before (here c r below) = absurd (omega arith)
no_rate_before (further k up f) = (k, f)

pub fall_told : (b : List ℕ) (j k : ℕ) → layout_fault b ≡ 0 → 1 ≤ j → j ≤ raters b → FallsAfter (table_of_rater b j) k → read_fault b j ≡ 34
unfolding table_fault_lem
fall_told b j k e some few f =
    let t = table_of_rater b j in
    sym (rows_decide b j e some few) ∙ sym (stop _ (told 0 k t (omega arith) f ∙ sym (rows_later t)) (λ z. omega arith))

pub fall_meant : (b : List ℕ) (j : ℕ) → read_fault b j ≡ 34
    → (layout_fault b ≡ 0) × (1 ≤ j) × (j ≤ raters b) × ((k : ℕ) × FallsAfter (table_of_rater b j) k)
unfolding table_fault_lem total_checks all_pass
fall_meant b j e =
    let t = table_of_rater b j in
    let p = past_layout b j 34 (λ h. h) e in
    let rows = earlier (is_other 34) _ _ 34 (fault_passes (is_other 34) (total_checks t) tt) (λ h. h) p.table in
    (p.laid, p.some, p.few, no_rate_before (meant 0 t (sym (rows_later t) ∙ rows)))
