-- What the search finds is a best cut, and how a best cut compares with others.
use Prim.Native.Nat.{ℕ, suc, ◌+◌, ◌*◌, ◌≤◌}
use mathlib.Core.Path.{◌≡◌}
use mathlib.Core.List.{List}
use native.Mathlib.Omega.{arith}
use lib.IntN.{sub_ℕ}
use lib.ListN.{length}
use Rattle.table.specs.Table.{Table, Every, Counted, defaults_in, survivors_in}
use Rattle.measures.specs.Pairs.{concordant, discordant}
use Rattle.shorter.specs.Cut.{IsCut, coarse, coarse_difference, IsBestCut}
use Rattle.shorter.specs.Private.{most}
use Rattle.shorter.proofs.Signed.{sub_eq, le_sub, sub_le}
use Rattle.shorter.proofs.Worth.{Gains, worth}
use Rattle.shorter.proofs.Search.{ends_of, at_most, reached}

module _ (t : Table) (counted : Every Counted t) (g : ℕ → ℕ → ℕ) (gains : Gains t g) (j : ℕ) (h : suc j ≤ length t) where
  pub best_cut : IsBestCut t (suc j) (ends_of g (length t) j 0)
  best_cut =
      let r = reached g (length t) j 0 (omega arith) in
      let ends = ends_of g (length t) j 0 in
      record {
        cut = record { runs = r.runs; cover = r.cover };
        best = λ others cut.
            le_sub (concordant (coarse t others)) (discordant (coarse t others)) (concordant (coarse t ends)) (discordant (coarse t ends))
            (omega (
              arith,
              worth t counted g gains others 0 cut.cover,
              worth t counted g gains ends 0 r.cover,
              at_most g (length t) j 0 others cut.runs cut.cover,
              r.adds,
            ));
      }

  pub best-value : coarse_difference t (ends_of g (length t) j 0) ≡ sub_ℕ (most g (length t) j 0) (defaults_in t * survivors_in t)
  best-value =
      let r = reached g (length t) j 0 (omega arith) in
      let ends = ends_of g (length t) j 0 in
      sub_eq (concordant (coarse t ends)) (discordant (coarse t ends)) (most g (length t) j 0) (defaults_in t * survivors_in t)
      (omega (arith, worth t counted g gains ends 0 r.cover, r.adds))

-- The best cut against another.
pub against : {t : Table} {m : ℕ} {ends : List ℕ} → IsBestCut t m ends → (others : List ℕ) → IsCut t m others
    → concordant (coarse t others) + discordant (coarse t ends) ≤ concordant (coarse t ends) + discordant (coarse t others)
against {t} {m} {ends} b others cut =
    sub_le (concordant (coarse t others)) (discordant (coarse t others)) (concordant (coarse t ends)) (discordant (coarse t ends)) (b.best others cut)

-- All best cuts have the same C − X.
pub one_value : {t : Table} {m : ℕ} {ends others : List ℕ} → IsBestCut t m ends → IsBestCut t m others
    → coarse_difference t others ≡ coarse_difference t ends
one_value {t} {m} {ends} {others} b b' =
    sub_eq (concordant (coarse t others)) (discordant (coarse t others)) (concordant (coarse t ends)) (discordant (coarse t ends))
    (omega (arith, against b others b'.cut, against b' ends b.cut))
