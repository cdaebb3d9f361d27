-- `compare_with` meets its contract. The invariant: comparing with those from i on gives what comparing with all gives.
use Prim.Native.Nat.{◌-◌}
use mathlib.Core.Path.{◌≡◌}
use Rattle.shortlist.specs.Private.{beats, compared}
use Rattle.shortlist.proofs.beaten.compare_with.Given as goal

abbrev pub invariant-loop-i : goal.invariant-loop-i
invariant-loop-i l = compared (beats l.held) l.j (l.j - l.i) l.i l.beaten ≡ compared (beats l.held) l.j l.j 0 l.initial.beaten
