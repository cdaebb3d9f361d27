-- What a call knows of the scales that it holds once the book is read: they are as many as its raters, their totals have the fault of the tables', and
-- where that is none they can be compared and the unbeaten ones are those that are to be listed.
use Prim.Native.Nat.{ℕ, ◌≤◌}
use mathlib.Core.Path.{◌≡◌, sym}
use mathlib.Core.List.{List}
use native.Mathlib.Omega.{arith}
use lib.ListN.{length, take}
use lib.Seq.{length-take-le}
use Rattle.book.specs.Layout.{raters}
use Rattle.book.specs.Reading.{all_tables, book_fault}
use Rattle.book.proofs.Checks.{held_first}
use Rattle.book.proofs.Whole.{Laid, laid, count_tables}
use Rattle.shortlist.specs.Shortlist.{listed}
use Rattle.shortlist.specs.Checks.{totals_fault_lem}
use Rattle.shortlist.specs.Private.{HoldsAll, held_totals_fault, Searchable, unbeaten_in}
use Rattle.shortlist.specs.declared.scales.Scale.{Scale}
use Rattle.shortlist.proofs.Accepted.{accepted}
use Rattle.shortlist.proofs.Totals.{held_fault}
use Rattle.shortlist.proofs.Searched.{book_searchable}
use Rattle.shortlist.proofs.Answered.{book_listed}

pub whole_laid : (b : List ℕ) → book_fault b ≡ 0 → Laid b
unfolding book_fault
whole_laid b whole = laid b (held_first _ _ whole).0

-- The scales of the first n stand in room for 16.
pub record Loaded (b : List ℕ) (held : List Scale) : Type 0 where
  pub whole : book_fault b ≡ 0
  pub holds : HoldsAll held (all_tables b)
  pub long : length held ≡ raters b

pub loaded : (b : List ℕ) (room : List Scale) {n : ℕ} → n ≡ raters b → 0 ≡ book_fault b → length room ≡ 16 → HoldsAll (take (raters b) room) (all_tables b)
    → Loaded b (take n room)
loaded b room {n} is whole long holds =
    let l = whole_laid b (sym whole) in
    rw is (record { whole = sym whole; holds = holds; long = length-take-le (raters b) room (omega (arith, l.few)) })

module _ {b : List ℕ} {held : List Scale} (k : Loaded b held) where
  head : Laid b
  head = whole_laid b k.whole

  count : length (all_tables b) ≡ raters b
  count = count_tables b 1 (raters b)

  pub some_held : 1 ≤ length held
  some_held = omega (arith, head.some, k.long)

  pub totals_as_read : held_totals_fault held ≡ totals_fault_lem (all_tables b)
  totals_as_read = held_fault held (all_tables b) k.holds (omega (arith, count, head.some))

  module _ (totals : totals_fault_lem (all_tables b) ≡ 0) where
    few : length held ≤ 16
    few = omega (arith, head.few, k.long)

    pub searchable : Searchable held
    searchable = book_searchable b held k.holds (accepted b k.whole totals) few

    pub listed_as_read : unbeaten_in held ≡ listed (all_tables b)
    listed_as_read = book_listed b held k.holds (accepted b k.whole totals) few
