-- The finest cut: its coarse scale is the table without its announced rates, and has its pairs.
use Prim.Native.Nat.{ℕ, suc, ◌+◌, ◌-◌}
use mathlib.Core.Path.{◌≡◌, refl}
use mathlib.Core.List.{List, [], ◌∷◌, map}
use native.Mathlib.Nat.{add-zero}
use native.Mathlib.Omega.{arith}
use lib.ListN.{length, drop, drop_of_length-le}
use lib.Seq.{drop-cons}
use Rattle.table.specs.Table.{Table, defaults_in, survivors_in, obligors_in}
use Rattle.table.specs.Place.{blank}
use Rattle.measures.specs.Pairs.{concordant, discordant}
use Rattle.shorter.specs.Cut.{Covers, coarse_from}
use Rattle.shorter.specs.Claims.{unannounced, FinestCutIsTheTable}
use Rattle.shorter.proofs.Worth.{ends_room}

-- Runs of one grade each, behind grade a.
single : (t : Table) (ends : List ℕ) (a : ℕ) → Covers a (length t) ends → a + length ends ≡ length t → coarse_from t a ends ≡ map unannounced (drop a t)
unfolding coarse_from defaults_in obligors_in
single t [] a h e = rw (drop_of_length-le t {i = a} (omega arith))
single t (e ∷ ends) a h n =
    let room = ends_room ends e (length t) h.1 in
    let next : e ≡ suc a = omega (arith, h.0) in
    let rest = single t ends e h.1 (omega (arith, next)) in
    let one : suc a - a ≡ 1 = omega arith in
    rw (next, one, drop-cons t a blank (omega arith)) (simp add-zero (rw (rw next at rest)))

-- Announced rates play no part.
record Same (t u : Table) : Type 0 where
  pub survived : survivors_in u ≡ survivors_in t
  pub defaulted : defaults_in u ≡ defaults_in t
  pub right : concordant u ≡ concordant t
  pub wrong : discordant u ≡ discordant t

same : (t : Table) → Same t (map unannounced t)
unfolding survivors_in defaults_in concordant discordant
same [] = record { survived = refl; defaulted = refl; right = refl; wrong = refl }
same (r ∷ t) =
    let s = same t in
    record {
      survived = rw s.survived;
      defaulted = rw s.defaulted;
      right = rw (s.defaulted, s.right);
      wrong = rw (s.survived, s.wrong);
    }

pub finest : FinestCutIsTheTable
finest t ends cut =
    let e = single t ends 0 cut.cover (omega (arith, cut.runs)) in
    let s = same t in
    (e, rw (e, s.right, s.wrong))
