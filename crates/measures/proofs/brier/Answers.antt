-- `brier` meets its contract. The invariant: the sums are those of the grades from grade i on, at most 10^12 for each obligor.
use Prim.Native.Nat.{ℕ, ◌+◌, ◌-◌, ◌*◌}
use mathlib.Core.Path.{◌≡◌}
use native.Mathlib.Omega.{arith}
use lib.ListN.{get_or}
use Rattle.table.specs.declared.Place.{Place}
use Rattle.table.specs.declared.Obligors.{Obligors}
use Rattle.table.specs.Table.{obligors_in}
use Rattle.table.specs.Place.{grade_at, table_of}
use Rattle.table.specs.Words.{place_in}
use Rattle.table.proofs.Arithmetic.{times_eq}
use Rattle.table.proofs.Suffix.{suffix_all, suffix_end}
use Rattle.table.proofs.Words.{turn}
use Rattle.measures.specs.Brier.{brier_at, brier_sum, brier_of}
use Rattle.measures.proofs.Sizes.{brier_at_le}
use Rattle.measures.proofs.brier.Invariants.{Summed}
use Rattle.measures.proofs.brier.Goals.{After-squares-sum}
use Rattle.measures.proofs.brier.Goals as goal

score_is : (p : Place) (i : ℕ) (n : Obligors) (sum : ℕ) → i ≡ 0 → Summed p i n sum
    → record { numerator = sum; denominator = n.0 * 1_000_000_000_000 } ≡ brier_of (table_of p)
unfolding brier_of
score_is p i n sum e h = rw (← suffix_all p i e, ← h.all_obligors, ← h.all_squares)

pub loop-i-init : goal.loop-i-init
unfolding obligors_in brier_sum
loop-i-init c =
    let none = suffix_end (place_in c.args.place.now) c.grades_of-i.result (omega (arith, c.grades_of-i.ensures)) in
    record { inside = omega (arith, c.grades_of-i.ensures); all_obligors = rw none; all_squares = rw none; bounded = omega arith }

pub squares-sum-requires : goal.squares-sum-requires
unfolding obligors_in
squares-sum-requires c =
    let f = turn _ _ c.requires c.loop-i-test.true c.loop-i.invariant.inside in
    (omega (arith, c.survivors-s.ensures, c.obligors_at-n.ensures), omega arith)

-- What the turn adds is the score of its grade.
added : (c : After-squares-sum) → c.squares-sum.result ≡ brier_at (grade_at (place_in c.args.place.now) (c.loop-i.i - 1))
added c =
    let f = turn _ _ c.requires c.loop-i-test.true c.loop-i.invariant.inside in
    let p = get_or c.args.place.now (80 + (c.loop-i.i - 1)) 0 in
    let n = c.obligors_at-n.ensures in
    let s = times_eq (p * p) (rw n at c.survivors-s.ensures) in
    rw (← f.obligors, ← f.defaults, ← f.announced) (omega (arith, c.squares-sum.ensures))

pub overflow_add-sum : goal.overflow_add-sum
unfolding obligors_in
overflow_add-sum c =
    let f = turn _ _ c.requires c.loop-i-test.true c.loop-i.invariant.inside in
    omega (arith, added (goal.at.overflow_add-sum c).After-squares-sum, brier_at_le _ f.counted f.rated)

pub plus-all-requires : goal.plus-all-requires
unfolding obligors_in
plus-all-requires c =
    let f = turn _ _ c.requires c.loop-i-test.true c.loop-i.invariant.inside in
    omega (arith, c.obligors_at-n.ensures)

pub loop-i-preserved : goal.loop-i-preserved
unfolding obligors_in brier_sum
loop-i-preserved c =
    let f = turn _ _ c.requires c.loop-i-test.true c.loop-i.invariant.inside in
    let e = added (goal.at.loop-i-preserved c).After-squares-sum in
    let l = brier_at_le _ f.counted f.rated in
    record {
      inside = omega (arith, c.loop-i.invariant.inside);
      all_obligors = rw f.down (omega (arith, c.plus-all.ensures, c.obligors_at-n.ensures));
      all_squares = rw f.down (omega arith);
      bounded = rw f.down (omega arith);
    }

pub returns : goal.returns
returns c = score_is _ _ _ _ (omega arith) c.loop-i.invariant
