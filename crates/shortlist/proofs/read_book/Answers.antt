-- `read_book` meets its contract: each way out has the number of the check that ends there.
use Prim.Native.Nat.{ℕ}
use mathlib.Core.Path.{◌≡◌, sym, ◌∙◌}
use mathlib.Core.List.{List, ◌++◌}
use native.Mathlib.Omega.{arith}
use lib.ListN.{length, take}
use lib.Seq.{take_at}
use Rattle.std.specs.Prelude.{Result, Ok, Err, OnOk}
use Rattle.refusals.specs.declared.Refusal.{Refusal}
use Rattle.refusals.specs.Numbers.{number_of}
use Rattle.refusals.proofs.Refused.{number_positive, passed_on}
use Rattle.book.specs.Checks.{fault}
use Rattle.book.specs.Layout.{raters, head_checks, tables_fault_lem, layout_fault}
use Rattle.book.specs.Reading.{all_tables, book_fault}
use Rattle.book.proofs.Checks.{stop, go}
use Rattle.book.proofs.Whole.{laid, count_tables}
use Rattle.shortlist.specs.Private.{HoldsAll}
use Rattle.shortlist.specs.declared.scales.Scale.{Scale}
use Rattle.shortlist.proofs.Held.{same_length}
use Rattle.shortlist.proofs.read_book.Goals as goal

none : (b : List ℕ) → 0 ≡ fault (head_checks b) → 0 ≡ tables_fault_lem b → layout_fault b ≡ 0
unfolding layout_fault
none b h t = sym (go (sym h) t)

pub returns-in_err-check_head-clause-value : goal.returns-in_err-check_head-clause-value
unfolding book_fault layout_fault
returns-in_err-check_head-clause-value c =
    let e = c.in_err-check_head in
    let some : (number_of e.field-0.0 ≡ 0 → ⊥) = λ z. let p = number_positive e.field-0.0 in omega arith in
    passed_on _ _ c.from_residual.ensures.1 ∙ stop _ (stop _ e.ensures some) some

pub returns-in_err-check_tables-clause-value : goal.returns-in_err-check_tables-clause-value
unfolding book_fault layout_fault
returns-in_err-check_tables-clause-value c =
    let e = c.in_err-check_tables in
    let some : (number_of e.field-0.0 ≡ 0 → ⊥) = λ z. let p = number_positive e.field-0.0 in omega arith in
    passed_on _ _ c.from_residual-in_err-check_tables.ensures.1 ∙ stop _ (go (sym c.in_ok-check_head.ensures) e.ensures) some

pub raters_of-requires : goal.raters_of-requires
raters_of-requires c = let l = laid _ (none c.args.book.now c.in_ok-check_head.ensures c.in_ok-check_tables.ensures) in omega (arith, l.long)

pub slice_bounds-read_scales-end : goal.slice_bounds-read_scales-end
slice_bounds-read_scales-end c =
    let l = laid _ (none c.args.book.now c.in_ok-check_head.ensures c.in_ok-check_tables.ensures) in omega (arith, c.raters_of.ensures.0, l.few)

pub read_scales-requires-clause-laid : goal.read_scales-requires-clause-laid
read_scales-requires-clause-laid c = none c.args.book.now c.in_ok-check_head.ensures c.in_ok-check_tables.ensures

-- The scales of the raters stand first in the room.
first : (r : Result (Unit {0}) Refusal) (b : List ℕ) (held rest : List Scale) → OnOk r (HoldsAll held (all_tables b))
    → OnOk r (HoldsAll (take (raters b) (held ++ rest)) (all_tables b))
first (Ok x) b held rest h =
    let n : length held ≡ raters b = same_length held (all_tables b) h ∙ count_tables b 1 (raters b) in
    rw (take_at held rest (raters b) n) h
first (Err e) b held rest h = h

pub returns : goal.returns
unfolding book_fault
returns c =
    record {
      value = go (none c.args.book.now c.in_ok-check_head.ensures c.in_ok-check_tables.ensures) c.read_scales.ensures.value;
      scales = first c.read_scales.result c.args.book.now c.read_scales.new.held _ c.read_scales.ensures.scales;
    }
