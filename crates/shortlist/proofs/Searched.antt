-- The scales of the raters of a book that is not refused can be compared.
use Prim.Native.Nat.{ℕ, ◌≤◌, ◌<◌}
use mathlib.Core.Path.{◌≡◌, sym, ap, ◌∙◌}
use mathlib.Core.List.{List, []}
use native.Mathlib.Omega.{arith}
use lib.ListN.{length, get_or}
use Rattle.table.specs.Table.{Table, Sound, defaults_in, survivors_in}
use Rattle.table.proofs.Every.{every_at}
use Rattle.pooling.specs.Private.{listed}
use Rattle.pooling.proofs.Joined.{pooled_totals}
use Rattle.book.specs.Reading.{all_tables}
use Rattle.cutoff.specs.Sweep.{Sweepable}
use Rattle.cutoff.proofs.Pooled.{pool_alike}
use Rattle.cutoff.proofs.Judged.{sweepable}
use Rattle.shortlist.specs.declared.scales.Scale.{Scale}
use Rattle.shortlist.specs.Private.{Holds, HoldsAll, table_held, Searchable}
use Rattle.shortlist.proofs.Held.{same_length, held_at, scale_is}
use Rattle.shortlist.proofs.Listed.{Totalled}
use Rattle.shortlist.proofs.Accepted.{Accepted}

module _ (b : List ℕ) (held : List Scale) (holds : HoldsAll held (all_tables b)) (a : Accepted b) (few : length held ≤ 16) where
  count : length held ≡ length (all_tables b)
  count = same_length held (all_tables b) holds

  -- the scale of rater r, and its table
  module _ (r : ℕ) (h : r < length held) (s : Scale) where
    abbrev here : Scale
    here = get_or held r s

    abbrev table : Table
    table = get_or (all_tables b) r []

    total : Totalled a.defaults a.survivors table
    total = every_at (Totalled a.defaults a.survivors) [] (all_tables b) a.totalled r (omega (arith, count))

    known : Holds here table
    known = held_at held (all_tables b) holds r (omega (arith, count)) s []

    scale_defaults : defaults_in (table_held here) ≡ a.defaults
    scale_defaults = ap defaults_in (scale_is here table known) ∙ (pooled_totals table total.counted).1 ∙ total.defaults

    scale_survivors : survivors_in (table_held here) ≡ a.survivors
    scale_survivors = ap survivors_in (scale_is here table known) ∙ (pool_alike table total.counted).same_survivors ∙ total.survivors

    scale_sweepable : Sweepable (listed here.blocks)
    scale_sweepable = sweepable table (listed here.blocks) known.blocks (every_at Sound [] (all_tables b) a.sound r (omega (arith, count)))

  pub book_searchable : Searchable held
  book_searchable =
      record {
        few = few;
        comparable = λ i j s t h k. record {
          sweepable = (scale_sweepable i h s, scale_sweepable j k t);
          same_defaults = scale_defaults i h s ∙ sym (scale_defaults j k t);
          same_survivors = scale_survivors i h s ∙ sym (scale_survivors j k t);
        };
      }
