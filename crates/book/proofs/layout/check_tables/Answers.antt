-- `check_tables` meets its contract. The invariant: the tables from here on have the fault that all have.
use Prim.Native.Nat.{ℕ, suc, ◌+◌, ◌-◌, ◌*◌, ◌≤◌, ◌<◌}
use mathlib.Core.Path.{◌≡◌, sym, ◌∙◌}
use mathlib.Core.List.{List, [], ◌∷◌}
use native.Mathlib.Nat.{sub-zero}
use native.Mathlib.Numerals.{add-one}
use native.Mathlib.Omega.{arith}
use lib.ListN.{length}
use Rattle.refusals.proofs.Refused.{number_positive, passed_on}
use Rattle.book.specs.Checks.{equal, fault, first_fault}
use Rattle.book.specs.Layout.{raters, end_of, leftover_fault, head_checks, table_checks, tables_fault_from, tables_fault_lem}
use Rattle.book.proofs.Checks.{Holds, held, found, none, same, other, first_none, stop}
use Rattle.book.proofs.layout.check_tables.Invariants.{Walked}
use Rattle.book.proofs.layout.check_tables.Goals as goal

rest_at : (b : List ℕ) (at j : ℕ) → Walked b at j → j < raters b → first_fault (fault (table_checks b (j + 1) at)) (tables_fault_from b (raters b - (j + 1)) (j + 1 + 1) (end_of b at)) ≡ tables_fault_lem b
unfolding tables_fault_from
rest_at b at j inv h = let s : raters b - j ≡ suc (raters b - (j + 1)) = omega arith in rw (s, ← add-one (j + 1)) at inv.rest

stops : (b : List ℕ) (at j n : ℕ) → Walked b at j → j < raters b → 0 < n → n ≡ fault (table_checks b (j + 1) at) → n ≡ tables_fault_lem b
stops b at j n inv h p e = stop _ e (λ z. omega arith) ∙ rest_at b at j inv h

record Turn (b : List ℕ) (at j : ℕ) : Type 0 where
  pub here : Holds (table_checks b (j + 1) at)
  pub rest : tables_fault_from b (raters b - (j + 1)) (j + 1 + 1) (end_of b at) ≡ tables_fault_lem b

goes : (b : List ℕ) (at j : ℕ) → Walked b at j → j < raters b → 0 ≡ fault (table_checks b (j + 1) at) → Turn b at j
goes b at j inv h e = record { here = held _ (sym e); rest = sym (first_none _ _ (sym e)) ∙ rest_at b at j inv h }

ends : (b : List ℕ) (at j : ℕ) → Walked b at j → raters b ≤ j → fault (equal at (length b) leftover_fault ∷ []) ≡ tables_fault_lem b
unfolding tables_fault_from
ends b at j inv h = let e : raters b - j ≡ 0 = omega arith in rw e at inv.rest

pub raters_of-raters-requires : goal.raters_of-raters-requires
unfolding head_checks
raters_of-raters-requires c = let h = held _ c.requires in omega arith

pub loop-j-init : goal.loop-j-init
unfolding head_checks
loop-j-init c =
    let h = held _ c.requires in
    let e = c.raters_of-raters.ensures.0 in
    record { to = omega arith; room = omega arith; rest = rw (sub-zero, e) }

pub check_table-requires : goal.check_table-requires
unfolding head_checks
check_table-requires c = let h = held _ c.requires in omega arith

pub returns-in_err-check_table : goal.returns-in_err-check_table
returns-in_err-check_table c =
    passed_on _ _ c.from_residual.ensures.1
    ∙ stops _ _ _ _ c.loop-j.invariant (omega arith) (number_positive _) c.in_err-check_table.ensures

pub byte_at-requires : goal.byte_at-requires
unfolding table_checks
byte_at-requires c = let t = goes _ _ _ c.loop-j.invariant (omega arith) c.in_ok-check_table.ensures in omega (arith, t.here)

pub loop-j-preserved : goal.loop-j-preserved
unfolding table_checks
loop-j-preserved c =
    let t = goes _ _ _ c.loop-j.invariant (omega arith) c.in_ok-check_table.ensures in
    let h = t.here in
    let e : c.loop-j.at + (4 + 12 * c.byte_at.result) ≡ end_of c.args.b.now c.loop-j.at = omega arith in
    record { to = omega arith; room = omega arith; rest = rw e t.rest }

pub returns-then-at-b : goal.returns-then-at-b
returns-then-at-b c = found (same (omega arith) none) ∙ ends _ _ _ c.loop-j.invariant (omega arith)

pub returns-else-at-b : goal.returns-else-at-b
returns-else-at-b c = found (other (λ e. omega arith)) ∙ ends _ _ _ c.loop-j.invariant (omega arith)
