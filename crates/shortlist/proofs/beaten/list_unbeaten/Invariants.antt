-- `list_unbeaten` meets its contract. The invariant: each of the first j raters is compared with those before it.
use mathlib.Core.Path.{◌≡◌}
use Rattle.shortlist.specs.Private.{beats, all_compared}
use Rattle.shortlist.proofs.beaten.list_unbeaten.Given as goal

abbrev pub invariant-loop-j : goal.invariant-loop-j
invariant-loop-j l = l.beaten ≡ all_compared (beats l.held) l.j
