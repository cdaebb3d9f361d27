-- `write_ends` meets its contract. The invariant: the ends before `at` are written.
use Prim.Native.Nat.{ℕ, ◌-◌, ◌<◌}
use mathlib.Core.Path.{◌≡◌}
use mathlib.Core.List.{List, ◌++◌}
use lib.ListN.{length, take, drop}
use Rattle.shorter.specs.Private.{ends_in, Leads}
use Rattle.shorter.proofs.write_ends.Given as goal

-- The ends before `at` are written, and the choices lead on from grade i.
pub record Written (c : List (List ℕ)) (m k : ℕ) (out₀ : List ℕ) (i at : ℕ) (out : List ℕ) : Type 0 where
  pub some : at < m
  pub leads : Leads c (m - 1 - at) i
  pub long : length out ≡ length out₀
  pub ends : take at out ++ ends_in c k (m - 1 - at) i ≡ ends_in c k (m - 1) 0
  pub rest : drop m out ≡ drop m out₀

abbrev pub invariant-loop-at : goal.invariant-loop-at
invariant-loop-at l = Written l.choices l.size.runs l.size.grades l.initial.out l.i l.at l.out
