-- What holds of 0 and of the number of every check holds of the number that is found, where it can be computed.
use Prim.Native.Nat.{ℕ, zero, suc, ◌≤◌}
use mathlib.Core.Path.{◌≡◌, refl, sym}
use mathlib.Core.Bool.{Bool, true, false, not, ◌&&◌, ◌||◌}
use mathlib.Core.List.{List, [], ◌∷◌}
use lib.Dec.{T, eqb, leb, ltb}
use lib.ListN.{length}
use Rattle.table.specs.Table.{Table, Grade}
use Rattle.table.proofs.Test.{by-test}
use Rattle.book.specs.Checks.{Check, at_most, equal, fault, first_fault}
use Rattle.book.specs.Layout.{raters, first_start, end_of, leftover_fault, head_checks, rater_checks, table_checks, tables_fault_from, layout_fault}
use Rattle.book.specs.Rows.{table_of_rater, later_checks, later_fault, rows_fault, table_fault_lem}
use Rattle.book.specs.Reading.{read_fault}
use Rattle.book.proofs.Checks.{held, go}
use Rattle.book.proofs.Rows.{rows_later}

both : (x y : Bool) → T (x && y) → T x × T y
both true y h = (tt, h)
both false y h = absurd h

module _ (test : ℕ → Bool) where
  abbrev Passes : ℕ → Type 0
  Passes n = T (test n)

  unfoldable pub all_pass : List Check → Bool
  all_pass [] = test 0
  all_pass (at_most a b n ∷ l) = test n && all_pass l
  all_pass (equal a b n ∷ l) = test n && all_pass l

  pub fault_passes : (l : List Check) → T (all_pass l) → T (test (fault l))
  unfolding fault all_pass
  fault_passes [] h = h
  fault_passes (at_most a b n ∷ l) h =
      let k = both (test n) (all_pass l) h in
      by-test Passes (leb a b) (λ _. fault_passes l k.1) (λ _. k.0)
  fault_passes (equal a b n ∷ l) h =
      let k = both (test n) (all_pass l) h in
      by-test Passes (eqb a b) (λ _. fault_passes l k.1) (λ _. k.0)

  pub first_passes : (n m : ℕ) → T (test n) → T (test m) → T (test (first_fault n m))
  unfolding first_fault
  first_passes zero m h k = k
  first_passes (suc n) m h k = h

  later_pass : T (test 0) → ((p : ℕ) (g : Grade) → T (all_pass (later_checks p g))) → (p : ℕ) (t : Table) → T (test (later_fault p t))
  unfolding later_fault
  later_pass none each p [] = none
  later_pass none each p (g ∷ t) = first_passes _ _ (fault_passes (later_checks p g) (each p g)) (later_pass none each g.announced t)

  pub rows_pass : T (test 0) → ((p : ℕ) (g : Grade) → T (all_pass (later_checks p g))) → (t : Table) → T (test (rows_fault t))
  rows_pass none each t = rw (rows_later t) (later_pass none each 0 t)

  pub tables_pass : (b : List ℕ) → ((j at : ℕ) → T (all_pass (table_checks b j at))) → T (test leftover_fault && test 0) → (k j at : ℕ)
      → T (test (tables_fault_from b k j at))
  unfolding tables_fault_from all_pass
  tables_pass b each last zero j at = fault_passes (equal at (length b) leftover_fault ∷ []) last
  tables_pass b each last (suc k) j at = first_passes _ _ (fault_passes (table_checks b j at) (each j at)) (tables_pass b each last k (suc j) (end_of b at))

  -- Of two faults, the first one passes and the one that is found does not: it is the second.
  pub past : (n m r : ℕ) → T (test n) → (T (test r) → ⊥) → first_fault n m ≡ r → (n ≡ 0) × (m ≡ r)
  unfolding first_fault
  past zero m r h k e = (refl, e)
  past (suc n) m r h k e = absurd (k (rw e at h))

  -- The second one passes and the one that is found does not: it is the first.
  pub earlier : (n m r : ℕ) → T (test m) → (T (test r) → ⊥) → first_fault n m ≡ r → n ≡ r
  unfolding first_fault
  earlier zero m r h k e = absurd (k (rw e at h))
  earlier (suc n) m r h k e = e

-- any number but m
abbrev pub is_other : ℕ → ℕ → Bool
is_other m n = not (eqb n m)

-- the numbers of a wrong cut
abbrev pub is_cut : ℕ → Bool
is_cut n = leb 31 n && leb n 33

-- The numbers of the layout and of the rater: any other is that of the rater's table, and the book is laid out.
abbrev is_of_layout : ℕ → Bool
is_of_layout n = ltb n 8 || is_cut n

pub record PastLayout (b : List ℕ) (j n : ℕ) : Type 0 where
  pub laid : layout_fault b ≡ 0
  pub some : 1 ≤ j
  pub few : j ≤ raters b
  pub table : table_fault_lem (table_of_rater b j) ≡ n

pub past_layout : (b : List ℕ) (j n : ℕ) → (T (is_of_layout n) → ⊥) → read_fault b j ≡ n → PastLayout b j n
unfolding layout_fault read_fault head_checks rater_checks table_checks all_pass
past_layout b j n k e =
    let head = past is_of_layout _ _ n (fault_passes is_of_layout (head_checks b) tt) k e in
    let rater = past is_of_layout _ _ n (fault_passes is_of_layout (rater_checks b j) tt) k head.1 in
    let tables = past is_of_layout _ _ n (tables_pass is_of_layout b (λ j at. tt) tt (raters b) 1 (first_start b)) k rater.1 in
    let asked = held (rater_checks b j) rater.0 in
    record { laid = sym (go head.0 (sym tables.0)); some = asked.0; few = asked.1.0; table = tables.1 }
