-- Every pair of a defaulted and a surviving obligor is concordant, discordant or tied, so a table has few of each.
use Prim.Native.Nat.{◌+◌, ◌≤◌}
use mathlib.Core.Path.{◌≡◌, refl}
use mathlib.Core.List.{[], ◌∷◌}
use native.Mathlib.Omega.{arith}
use Rattle.table.specs.Table.{Table, defaults_in, survivors_in}
use Rattle.table.proofs.Arithmetic.{counts_le}
use Rattle.table.proofs.Suffix.{Small, few_counts}
use Rattle.measures.specs.Pairs.{concordant, discordant, tied}
use Rattle.measures.specs.Measures.{pairs}

pub every_pair : (t : Table) → concordant t + discordant t + tied t ≡ pairs t
unfolding concordant discordant tied defaults_in survivors_in
every_pair [] = refl
every_pair (r ∷ t) = omega (arith, every_pair t)

pub few_pairs : {t : Table} → Small t → concordant t + discordant t ≤ 1_000_000_000_000
few_pairs {t} h = omega (arith, every_pair t, counts_le (few_counts h).0 (few_counts h).1)
