-- `pool` meets its contract.
use Prim.Native.Nat.{ℕ, ◌*◌, ◌≤◌}
use mathlib.Core.Path.{◌≡◌, sym, ap, ◌∙◌}
use mathlib.Core.List.{List}
use native.Mathlib.Omega.{arith}
use lib.ListN.{length, take}
use lib.Seq.{length-take-le}
use Rattle.table.specs.Words.{table_in}
use Rattle.book.proofs.Checks.{none, pass, over, found, go, stop}
use Rattle.pooled_place.proofs.Words.{long_pooled, grades-in, held-length, length_list, held_list}
use Rattle.pooled_place.proofs.Lists.{list_copied_into}
use Rattle.calls.specs.Calls.{fill_fault}
use Rattle.calls.proofs.Asked.{ReadyPooled, empty_at, ready_pooled}
use Rattle.calls.proofs.pool.Goals as goal

pub is_loaded-requires : goal.is_loaded-requires
is_loaded-requires c = omega (arith, long_pooled c.requires)

pub returns-then-not-is_loaded-clause-value : goal.returns-then-not-is_loaded-clause-value
unfolding fill_fault
returns-then-not-is_loaded-clause-value c = stop _ (empty_at _ _ c.is_loaded.ensures c.if-not-is_loaded.true) (λ z. omega arith)

pub returns-then-out-numbers-clause-value : goal.returns-then-out-numbers-clause-value
unfolding fill_fault
returns-then-out-numbers-clause-value c =
    let at : ReadyPooled c.args.place.now = ready_pooled _ c.requires c.is_loaded.ensures c.if-not-is_loaded.false in
    go at.loaded (found (over (omega (arith, grades-in c.args.place.now c.grades_of-numbers.ensures))))

pub list_of-list-requires : goal.list_of-list-requires
list_of-list-requires c = long_pooled c.requires

pub slice_bounds-put_numbers-end : goal.slice_bounds-put_numbers-end
slice_bounds-put_numbers-end c =
    let at : ReadyPooled c.args.place.now = ready_pooled _ c.requires c.is_loaded.ensures c.if-not-is_loaded.false in
    let w : List ℕ = c.args.place.now in
    let count : c.grades_of-numbers.result ≡ length (table_in w) = grades-in w c.grades_of-numbers.ensures in
    let long : 3 * c.grades_of-numbers.result ≤ length c.list_of-list.result.now
    = omega (arith, count, at.holds.sound.few, ap length c.list_of-list.ensures, length_list w (held-length at.holds)) in
    sym (length-take-le _ _ long)

pub returns-clause-value : goal.returns-clause-value
unfolding fill_fault
returns-clause-value c =
    let at : ReadyPooled c.args.place.now = ready_pooled _ c.requires c.is_loaded.ensures c.if-not-is_loaded.false in
    go at.loaded (found (pass (omega (arith, grades-in c.args.place.now c.grades_of-numbers.ensures)) none))

pub returns-clause-out_after : goal.returns-clause-out_after
returns-clause-out_after c =
    let at : ReadyPooled c.args.place.now = ready_pooled _ c.requires c.is_loaded.ensures c.if-not-is_loaded.false in
    let w : List ℕ = c.args.place.now in
    let count : c.grades_of-numbers.result ≡ length (table_in w) = grades-in w c.grades_of-numbers.ensures in
    c.put_numbers.ensures
    ∙ list_copied_into (table_in w) _ _ (3 * c.grades_of-numbers.result) (ap (λ (m : ℕ). 3 * m) count)
    (ap (λ (x : List ℕ). take (3 * c.grades_of-numbers.result) x) (c.list_of-list.ensures ∙ held_list at.holds))
