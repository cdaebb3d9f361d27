-- `totals_of` meets its contract. The invariant: each sum, and that of the grades from grade i on, are all.
use Prim.Native.Nat.{◌+◌}
use mathlib.Core.Path.{◌≡◌}
use Rattle.table.specs.Table.{defaults_in, obligors_in}
use Rattle.table.specs.Words.{place_in, table_in}
use Rattle.table.proofs.Suffix.{suffix}
use Rattle.table.proofs.totals_of.Given as goal

abbrev pub invariant-loop-i : goal.invariant-loop-i
invariant-loop-i l =
    record {
      defaults : l.sum + defaults_in (suffix (place_in l.place) l.i) ≡ defaults_in (table_in l.place);
      obligors : l.all.0 + obligors_in (suffix (place_in l.place) l.i) ≡ obligors_in (table_in l.place);
    }
