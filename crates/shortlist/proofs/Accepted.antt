-- A book whose shortlist is not refused: every table is sound, has defaults and survivors, and the D and S of the first.
use Prim.Native.Nat.{ℕ, suc, ◌≤◌}
use mathlib.Core.Path.{◌≡◌, refl, sym}
use mathlib.Core.List.{List, [], ◌∷◌, ◌++◌}
use Rattle.table.specs.Table.{Table, Every, Sound, defaults_in, survivors_in}
use Rattle.book.specs.Checks.{Check, fault}
use Rattle.book.specs.Reading.{all_tables, book_fault}
use Rattle.book.proofs.Checks.{Holds, held, held_first}
use Rattle.book.proofs.Whole.{tables_sound}
use Rattle.shortlist.specs.Checks.{some_checks, equal_checks, same_checks, totals_fault_lem}
use Rattle.shortlist.proofs.Listed.{Totalled}

module _ (count : Table → ℕ) where
  -- Checks that hold, of each table.

  all_some : (n : ℕ) (ts : List Table) → fault (some_checks count (suc n) ts) ≡ 0 → Every (λ t. 1 ≤ count t) ts
  unfolding some_checks
  all_some n ts e = each ts (held (some_checks count (suc n) ts) e)
    where
      each : (ts : List Table) → Holds (some_checks count (suc n) ts) → Every (λ t. 1 ≤ count t) ts
      each [] h = tt
      each (t ∷ ts) h = (h.0, each ts h.1)

  all_equal : (n : ℕ) (ts : List Table) (more : List Check) → Holds (equal_checks count n ts ++ more) → Every (λ t. count t ≡ n) ts
  unfolding equal_checks
  all_equal n [] more h = tt
  all_equal n (t ∷ ts) more h = (sym h.0, all_equal n ts more h.1)

  all_same : (t : Table) (ts : List Table) → fault (same_checks count (t ∷ ts)) ≡ 0 → Every (λ u. count u ≡ count t) (t ∷ ts)
  unfolding same_checks
  all_same t ts e =
      (refl, all_equal (count t) ts (same_checks count ts) (held (equal_checks count (count t) ts ++ same_checks count ts) e))

-- What is known of the tables of a book that is not refused: D and S are those of the first.
pub record Accepted (b : List ℕ) : Type 0 where
  pub whole : book_fault b ≡ 0
  pub sound : Every Sound (all_tables b)
  pub some_defaults : Every (λ t. 1 ≤ defaults_in t) (all_tables b)
  pub some_survivors : Every (λ t. 1 ≤ survivors_in t) (all_tables b)
  pub defaults : ℕ
  pub survivors : ℕ
  pub totalled : Every (Totalled defaults survivors) (all_tables b)

same_totals : (ts : List Table) → Every Sound ts → fault (same_checks defaults_in ts) ≡ 0 → fault (same_checks survivors_in ts) ≡ 0
    → (d s : ℕ) × Every (Totalled d s) ts
same_totals [] sound e f = (0, 0, tt)
same_totals (t ∷ ts) sound e f = (
  defaults_in t,
  survivors_in t,
  every_three (t ∷ ts) sound (all_same defaults_in t ts e) (all_same survivors_in t ts f),
)
  where
    every_three : (us : List Table) → Every Sound us → Every (λ u. defaults_in u ≡ defaults_in t) us → Every (λ u. survivors_in u ≡ survivors_in t) us
        → Every (Totalled (defaults_in t) (survivors_in t)) us
    every_three [] s p q = tt
    every_three (u ∷ us) s p q = (record { counted = s.0.counted; defaults = p.0; survivors = q.0 }, every_three us s.1 p.1 q.1)

pub accepted : (b : List ℕ) → book_fault b ≡ 0 → totals_fault_lem (all_tables b) ≡ 0 → Accepted b
accepted b whole e =
    let sound = tables_sound b whole in
    let d = held_first _ _ e in
    let s = held_first _ _ d.1 in
    let same = held_first _ _ s.1 in
    let totals = same_totals (all_tables b) sound same.0 same.1 in
    record {
      whole = whole;
      sound = sound;
      some_defaults = all_some defaults_in 22 (all_tables b) d.0;
      some_survivors = all_some survivors_in 23 (all_tables b) s.0;
      defaults = totals.0;
      survivors = totals.1;
      totalled = totals.2;
    }
