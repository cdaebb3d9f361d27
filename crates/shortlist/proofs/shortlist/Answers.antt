-- `shortlist` meets its contract: each way out has the number of the check that ends there, or the list.
use mathlib.Core.Path.{◌≡◌, sym, ◌∙◌}
use native.Mathlib.Omega.{arith}
use Rattle.book.specs.Reading.{all_tables}
use Rattle.shortlist.specs.Checks.{totals_fault_lem}
use Rattle.shortlist.proofs.Loaded.{whole_laid, loaded, some_held, totals_as_read, searchable, listed_as_read}
use Rattle.shortlist.proofs.Ended as ended
use Rattle.shortlist.proofs.shortlist.Goals as goal

pub returns-in_err-read_book : goal.returns-in_err-read_book
returns-in_err-read_book c =
    let a = ended.in_book c.args.book.now c.args.out.now _ _ c.from_residual.ensures.1 c.in_err-read_book.ensures.value in
    record { value = a.value; out_after = a.out_after }

pub raters_of-requires : goal.raters_of-requires
raters_of-requires c = let l = whole_laid c.args.book.now (sym c.in_ok-read_book.ensures.value) in omega (arith, l.long)

pub slice_bounds-room-end : goal.slice_bounds-room-end
slice_bounds-room-end c =
    let l = whole_laid c.args.book.now (sym c.in_ok-read_book.ensures.value) in omega (arith, l.few, c.raters_of.ensures.0)

pub slice_bounds-held-end : goal.slice_bounds-held-end
slice_bounds-held-end c =
    let k = loaded c.args.book.now _ c.raters_of.ensures.0 c.in_ok-read_book.ensures.value c.read_book.array_long c.in_ok-read_book.ensures.scales in
    c.raters_of.ensures.0 ∙ sym k.long

pub check_totals-requires : goal.check_totals-requires
check_totals-requires c =
    some_held (loaded c.args.book.now _ c.raters_of.ensures.0 c.in_ok-read_book.ensures.value c.read_book.array_long c.in_ok-read_book.ensures.scales)

pub returns-in_err-check_totals : goal.returns-in_err-check_totals
returns-in_err-check_totals c =
    let k = loaded c.args.book.now _ c.raters_of.ensures.0 c.in_ok-read_book.ensures.value c.read_book.array_long c.in_ok-read_book.ensures.scales in
    let a = ended.in_totals c.args.book.now c.args.out.now k.whole _ _ c.from_residual-in_err-check_totals.ensures.1
    (c.in_err-check_totals.ensures ∙ totals_as_read k) in
    record { value = a.value; out_after = a.out_after }

pub returns-then-out-held : goal.returns-then-out-held
returns-then-out-held c =
    let k = loaded c.args.book.now _ c.raters_of.ensures.0 c.in_ok-read_book.ensures.value c.read_book.array_long c.in_ok-read_book.ensures.scales in
    let totals : totals_fault_lem (all_tables c.args.book.now) ≡ 0 = sym (c.in_ok-check_totals.ensures ∙ totals_as_read k) in
    let a = ended.too_short c.args.book.now c.args.out.now k.whole totals (omega (arith, k.long, c.if-out-held.true)) in
    record { value = a.value; out_after = a.out_after }

pub list_unbeaten-requires : goal.list_unbeaten-requires
list_unbeaten-requires c =
    let k = loaded c.args.book.now _ c.raters_of.ensures.0 c.in_ok-read_book.ensures.value c.read_book.array_long c.in_ok-read_book.ensures.scales in
    let totals : totals_fault_lem (all_tables c.args.book.now) ≡ 0 = sym (c.in_ok-check_totals.ensures ∙ totals_as_read k) in
    record { scales = searchable k totals; room = c.if-out-held.false }

pub returns : goal.returns
returns c =
    let k = loaded c.args.book.now _ c.raters_of.ensures.0 c.in_ok-read_book.ensures.value c.read_book.array_long c.in_ok-read_book.ensures.scales in
    let totals : totals_fault_lem (all_tables c.args.book.now) ≡ 0 = sym (c.in_ok-check_totals.ensures ∙ totals_as_read k) in
    let a = ended.taken c.args.book.now c.args.out.now k.whole totals (omega (arith, k.long, c.if-out-held.false)) (listed_as_read k totals)
    c.list_unbeaten.ensures.value c.list_unbeaten.ensures.out_after in
    record { value = a.value; out_after = a.out_after }
