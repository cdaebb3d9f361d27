-- `count_pairs` meets its contract. The invariant: the counts are those of the grades from grade i on.
use Prim.Native.Nat.{ℕ, ◌+◌, ◌-◌}
use mathlib.Core.Path.{◌≡◌}
use mathlib.Core.List.{◌∷◌}
use native.Mathlib.Omega.{arith}
use lib.ListN.{get_or}
use Rattle.table.specs.declared.Place.{Place}
use Rattle.table.specs.Table.{survivors, defaults_in, survivors_in, obligors_in}
use Rattle.table.specs.Place.{grade_at, table_of}
use Rattle.table.specs.Words.{place_in}
use Rattle.table.proofs.Arithmetic.{times_eq}
use Rattle.table.proofs.Suffix.{suffix, suffix_all, suffix_end}
use Rattle.table.proofs.Words.{turn}
use Rattle.measures.specs.declared.PairCounts.{PairCounts}
use Rattle.measures.specs.Pairs.{concordant, discordant}
use Rattle.measures.specs.Private.{pair_counts_of}
use Rattle.measures.proofs.Pairs.{few_pairs}
use Rattle.measures.proofs.count_pairs.Invariants.{Passed}
use Rattle.measures.proofs.count_pairs.Goals.{After-pairs_of-concordant, After-pairs_of-discordant}
use Rattle.measures.proofs.count_pairs.Goals as goal

counts_are : (p : Place) (i : ℕ) (r : PairCounts) → i ≡ 0 → Passed p i r.defaults r.concordant r.discordant r.survivors
    → r ≡ pair_counts_of (table_of p)
unfolding pair_counts_of
counts_are p i r e h = rw (← suffix_all p i e, ← h.all-defaults, ← h.all-survivors, ← h.all-concordant, ← h.all-discordant)

pub loop-i-init : goal.loop-i-init
unfolding defaults_in survivors_in concordant discordant
loop-i-init c =
    let none = suffix_end (place_in c.args.place.now) c.grades_of-i.result (omega (arith, c.grades_of-i.ensures)) in
    record {
      inside = omega (arith, c.grades_of-i.ensures);
      all-defaults = rw none;
      all-survivors = rw none;
      all-concordant = rw none;
      all-discordant = rw none;
    }

-- The pairs that the turn adds are those of its grade with the worse ones.

more_concordant : (c : After-pairs_of-concordant) → let p = place_in c.args.place.now in
    c.loop-i.concordant + c.pairs_of-concordant.result ≡ concordant (grade_at p (c.loop-i.i - 1) ∷ suffix p c.loop-i.i)
unfolding concordant
more_concordant c =
    let p = place_in c.args.place.now in
    let f = turn _ _ c.requires c.loop-i-test.true c.loop-i.invariant.inside in
    let of-s : c.survivors-s.result.0 ≡ survivors (grade_at p (c.loop-i.i - 1)) = omega (arith, c.survivors-s.ensures, c.obligors_at.ensures) in
    let d = times_eq c.survivors-s.result.0 c.loop-i.invariant.all-defaults in
    let s = times_eq (defaults_in (suffix p c.loop-i.i)) of-s in
    omega (arith, c.pairs_of-concordant.ensures)

more_discordant : (c : After-pairs_of-discordant) → let p = place_in c.args.place.now in
    c.loop-i.discordant + c.pairs_of-discordant.result ≡ discordant (grade_at p (c.loop-i.i - 1) ∷ suffix p c.loop-i.i)
unfolding discordant
more_discordant c =
    let w = c.args.place.now in
    let f = turn _ _ c.requires c.loop-i-test.true c.loop-i.invariant.inside in
    let d = times_eq (survivors_in (suffix (place_in w) c.loop-i.i)) f.defaults in
    let s = times_eq (get_or w (40 + (c.loop-i.i - 1)) 0) c.loop-i.invariant.all-survivors in
    omega (arith, c.pairs_of-discordant.ensures)

pub overflow_add-concordant : goal.overflow_add-concordant
overflow_add-concordant c =
    let f = turn _ _ c.requires c.loop-i-test.true c.loop-i.invariant.inside in
    omega (arith, more_concordant (goal.at.overflow_add-concordant c).After-pairs_of-concordant, few_pairs f.here)

pub overflow_add-discordant : goal.overflow_add-discordant
overflow_add-discordant c =
    let f = turn _ _ c.requires c.loop-i-test.true c.loop-i.invariant.inside in
    omega (arith, more_discordant (goal.at.overflow_add-discordant c).After-pairs_of-discordant, few_pairs f.here)

pub overflow_add-defaulted : goal.overflow_add-defaulted
unfolding defaults_in obligors_in
overflow_add-defaulted c = let f = turn _ _ c.requires c.loop-i-test.true c.loop-i.invariant.inside in omega arith

pub plus-survivors-requires : goal.plus-survivors-requires
unfolding survivors_in obligors_in
plus-survivors-requires c =
    let f = turn _ _ c.requires c.loop-i-test.true c.loop-i.invariant.inside in
    omega (arith, c.survivors-s.ensures, c.obligors_at.ensures)

pub loop-i-preserved : goal.loop-i-preserved
unfolding defaults_in survivors_in
loop-i-preserved c =
    let f = turn _ _ c.requires c.loop-i-test.true c.loop-i.invariant.inside in
    let at = goal.at.loop-i-preserved c in
    record {
      inside = omega (arith, c.loop-i.invariant.inside);
      all-defaults = rw f.down (omega arith);
      all-survivors = rw f.down (omega (arith, c.plus-survivors.ensures, c.survivors-s.ensures, c.obligors_at.ensures));
      all-concordant = rw f.down (more_concordant at.After-pairs_of-concordant);
      all-discordant = rw f.down (more_discordant at.After-pairs_of-discordant);
    }

pub returns : goal.returns
returns c = counts_are _ _ _ (omega arith) c.loop-i.invariant
