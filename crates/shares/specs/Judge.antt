-- Serves contracts of functions inside the library only: what is promised does not rest on it.
-- What the comparison on shares requires of a table, and the weights in which it compares.
use Rattle.std.specs.Prelude.{◌≤◌}
use Rattle.table.specs.Table.{Table, Sound, Mixed, obligors_in}
use Rattle.table.specs.declared.Totals.{Totals}
use Rattle.cutoff.specs.declared.Weights.{Weights}

-- "It takes tables of at most 100,000 obligors and tests 22, 23 and 24 as the first does": a table with a default and a survivor.
pub record Shareable (t : Table) : Type 0 where
  pub sound : Sound t
  pub mixed : Mixed t
  pub few : obligors_in t ≤ 100_000

-- a table's totals, as the weights of the other
abbrev pub total_weights : Totals → Weights
total_weights t = record { defaults = t.defaults; survivors = t.survivors }
