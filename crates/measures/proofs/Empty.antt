-- An empty grade has no obligor, so it is in no pair and adds nothing to a score.
use mathlib.Core.Path.{◌≡◌, refl}
use mathlib.Core.List.{[], ◌∷◌}
use native.Mathlib.Omega.{arith}
use Rattle.table.specs.Table.{Table, Every, Counted, occupied}
use Rattle.table.proofs.Occupied.{by-grade, same_counts}
use Rattle.measures.specs.Pairs.{concordant, discordant, tied}
use Rattle.measures.specs.Brier.{brier_sum, brier_of}

record SameSums (t u : Table) : Type 0 where
  pub concordant-pairs : concordant t ≡ concordant u
  pub discordant-pairs : discordant t ≡ discordant u
  pub tied-pairs : tied t ≡ tied u
  pub scores : brier_sum t ≡ brier_sum u

same_sums : (t : Table) → Every Counted t → SameSums (occupied t) t
unfolding occupied concordant discordant tied brier_sum
same_sums [] h = record { concordant-pairs = refl; discordant-pairs = refl; tied-pairs = refl; scores = refl }
same_sums (r ∷ t) h =
    let rest = same_sums t h.1 in
    let same = same_counts t h.1 in
    by-grade (λ (u : Table). SameSums u (r ∷ t)) r
    (λ _. record {
      concordant-pairs = rw (same.defaults, rest.concordant-pairs);
      discordant-pairs = rw (same.survivors, rest.discordant-pairs);
      tied-pairs = rw rest.tied-pairs;
      scores = rw rest.scores;
    })
    (λ none.
    let d : r.defaults ≡ 0 = omega (arith, h.0) in
    record {
      concordant-pairs = rw (none, d) (omega (arith, rest.concordant-pairs));
      discordant-pairs = rw d (omega (arith, rest.discordant-pairs));
      tied-pairs = rw (none, d) (omega (arith, rest.tied-pairs));
      scores = rw (none, d) (omega (arith, rest.scores));
    })

pub no_pairs : (t : Table) → Every Counted t
    → (concordant (occupied t) ≡ concordant t) × (discordant (occupied t) ≡ discordant t) × (tied (occupied t) ≡ tied t)
no_pairs t h = let sums = same_sums t h in (sums.concordant-pairs, sums.discordant-pairs, sums.tied-pairs)

pub no_score : (t : Table) → Every Counted t → brier_of (occupied t) ≡ brier_of t
unfolding brier_of
no_score t h = rw ((same_sums t h).scores, (same_counts t h).obligors) refl
