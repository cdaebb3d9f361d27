-- The scales of a book's raters, read one after the other.
use Prim.Native.Nat.{ℕ, suc, ◌+◌, ◌-◌, ◌<◌}
use mathlib.Core.Path.{◌≡◌, refl, sym, ◌∙◌}
use mathlib.Core.List.{List}
use native.Mathlib.Decide.{dec_le}
use native.Mathlib.Omega.{arith}
use lib.ListN.{length, get_or, set, length-set}
use lib.Seq.{get_or-set_same, get_or-set_other}
use Rattle.book.specs.Checks.{first_fault}
use Rattle.book.specs.Layout.{raters}
use Rattle.book.specs.Rows.{table_of_rater, tables_in, table_fault_lem}
use Rattle.book.specs.Reading.{all_tables, table_faults}
use Rattle.book.proofs.Checks.{first_none, first_some}
use Rattle.book.proofs.Whole.{Laid}
use Rattle.shortlist.specs.Private.{Holds, HoldsAll}
use Rattle.shortlist.specs.declared.scales.Scale.{Scale}
use Rattle.shortlist.proofs.Held.{at_held}

-- The first r raters are read: their scales are held, and the tables from the next one on have the fault that all have.
pub record Reading (b : List ℕ) (held : List Scale) (r : ℕ) : Type 0 where
  pub laid : Laid b
  pub long : length held ≡ raters b
  pub faults : table_faults (tables_in b (suc r) (raters b - r)) ≡ table_faults (all_tables b)
  pub scales : (q : ℕ) → q < r → (s : Scale) → Holds (get_or held q s) (table_of_rater b (suc q))

pub none_read : (b : List ℕ) (held : List Scale) → Laid b → length held ≡ raters b → Reading b held 0
none_read b held l e =
    let z : raters b - 0 ≡ raters b = omega arith in record { laid = l; long = e; faults = rw z refl; scales = λ q h s. absurd (omega arith) }

module _ (b : List ℕ) (held : List Scale) (r : ℕ) (k : Reading b held r) (more : r < raters b) where
  next : first_fault (table_fault_lem (table_of_rater b (suc r))) (table_faults (tables_in b (suc (suc r)) (raters b - suc r))) ≡ table_faults (all_tables b)
  unfolding tables_in table_faults
  next = let e : raters b - r ≡ suc (raters b - suc r) = omega arith in rw e at k.faults

  -- The next rater has a fault.
  pub ends : (n : ℕ) → n ≡ table_fault_lem (table_of_rater b (suc r)) → (n ≡ 0 → ⊥) → n ≡ table_faults (all_tables b)
  ends n e some = sym (first_some n _ some) ∙ rw (← e) at next

  -- It has none, and its scale is held.
  pub goes : (new : Scale) → table_fault_lem (table_of_rater b (suc r)) ≡ 0 → Holds new (table_of_rater b (suc r)) → Reading b (set held r new) (suc r)
  goes new e h =
      let inside : r < length held = omega (arith, k.long) in
      record {
        laid = k.laid;
        long = rw length-set k.long;
        faults = sym (first_none _ _ e) ∙ next;
        scales = λ q l s.
            elim (dec_le r q) [
              | yes ge ↦ let i : q ≡ r = omega arith in rw (i, get_or-set_same held r new s inside) h
              | no lt ↦ rw (get_or-set_other held r q new s (λ i. omega arith)) (k.scales q (omega arith) s)
            ];
      }

-- All are read.
pub all_read : (b : List ℕ) (held : List Scale) → Reading b held (raters b) → (0 ≡ table_faults (all_tables b)) × HoldsAll held (all_tables b)
unfolding tables_in table_faults
all_read b held k =
    let z : raters b - raters b ≡ 0 = omega arith in
    (rw z at k.faults, at_held b held 1 (raters b) k.long (λ q l s. let e : 1 + q ≡ suc q = omega arith in rw e (k.scales q l s)))
