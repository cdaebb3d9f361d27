-- `read` meets its contract.
use Prim.Native.Nat.{ℕ, ◌≤◌, ◌<◌}
use mathlib.Core.Path.{◌≡◌, sym, ◌∙◌}
use mathlib.Core.List.{List}
use native.Mathlib.Omega.{arith}
use Rattle.refusals.proofs.Refused.{number_positive, passed_on}
use Rattle.book.specs.Checks.{fault}
use Rattle.book.specs.Layout.{raters, head_checks, rater_checks, tables_fault_lem}
use Rattle.book.specs.Rows.{table_of_rater, table_fault_lem}
use Rattle.book.specs.Reading.{read_fault}
use Rattle.book.proofs.Checks.{held, found, none, pass, over, over_or, stop, go}
use Rattle.book.proofs.Stands.{stands, Stands}
use Rattle.book.proofs.reader.read.Goals as goal

-- What is read of rater j, stage by stage.
module _ (b : List ℕ) (j : ℕ) where
  headless : (n : ℕ) → 0 < n → n ≡ fault (head_checks b) → n ≡ read_fault b j
  unfolding read_fault
  headless n p e = stop _ e (λ z. omega arith)

  unknown : 0 ≡ fault (head_checks b) → (1 ≤ j → raters b < j) → 4 ≡ read_fault b j
  unfolding read_fault rater_checks
  unknown head f = go (sym head) (stop _ (found (over_or (λ h. over (f h)))) (λ z. omega arith))

  module _ (head : 0 ≡ fault (head_checks b)) (some : 1 ≤ j) (few : j ≤ raters b) where
    asked : fault (rater_checks b j) ≡ 0
    unfolding rater_checks
    asked = sym (found (pass some (pass few none)))

    cut : (n : ℕ) → 0 < n → n ≡ tables_fault_lem b → n ≡ read_fault b j
    unfolding read_fault
    cut n p e = go (sym head) (go asked (stop _ e (λ z. omega arith)))

    module _ (laid : 0 ≡ tables_fault_lem b) where
      standing : Stands b j
      standing = stands _ _ (sym head) some few (sym laid)

      rows : (n : ℕ) → n ≡ table_fault_lem (table_of_rater b j) → n ≡ read_fault b j
      unfolding read_fault
      rows n e = go (sym head) (go asked (go (sym laid) e))

pub returns-in_err-check_head-clause-value : goal.returns-in_err-check_head-clause-value
returns-in_err-check_head-clause-value c =
    passed_on _ _ c.from_residual.ensures.1 ∙ headless _ _ _ (number_positive _) c.in_err-check_head.ensures

pub returns-then-j-lt1-clause-value : goal.returns-then-j-lt1-clause-value
returns-then-j-lt1-clause-value c = unknown _ _ c.in_ok-check_head.ensures (λ h. omega arith)

pub raters_of-raters-requires : goal.raters_of-raters-requires
unfolding head_checks
raters_of-raters-requires c = let h = held _ (sym c.in_ok-check_head.ensures) in omega arith

pub returns-in_err-check_tables-clause-value : goal.returns-in_err-check_tables-clause-value
returns-in_err-check_tables-clause-value c =
    passed_on _ _ c.from_residual-in_err-check_tables.ensures.1
    ∙ cut _ _ c.in_ok-check_head.ensures (omega arith) (omega arith) _ (number_positive _) c.in_err-check_tables.ensures

pub start_of-requires : goal.start_of-requires
start_of-requires c =
    let s = standing c.args.book.now c.args.rater c.in_ok-check_head.ensures (omega arith) (omega arith) c.in_ok-check_tables.ensures in
    (s.from, s.head)

pub fill-requires-clause-inside : goal.fill-requires-clause-inside
fill-requires-clause-inside c =
    let s = standing c.args.book.now c.args.rater c.in_ok-check_head.ensures (omega arith) (omega arith) c.in_ok-check_tables.ensures in
    rw c.start_of.ensures (s.inside, s.few)

pub returns-clause-value : goal.returns-clause-value
returns-clause-value c =
    rows _ _ c.in_ok-check_head.ensures (omega arith) (omega arith) c.in_ok-check_tables.ensures _ (c.fill.ensures.value ∙ rw c.start_of.ensures)
