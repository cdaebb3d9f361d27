-- `farthest` meets its contract. The invariant: at grade i the cutoffs that turn away no better grade have been tried.
use Prim.Native.Nat.{ℕ, ◌+◌, ◌-◌}
use mathlib.Core.Path.{◌≡◌, sym, ap, ◌∙◌}
use native.Mathlib.Nat.{sub_self, zero-mul}
use native.Mathlib.Omega.{arith}
use lib.ListN.{length}
use lib.IntN.{ℤ, pos, nat_abs}
use Rattle.table.specs.declared.Place.{Place}
use Rattle.table.specs.Table.{Table, defaults_in, survivors_in}
use Rattle.table.specs.Place.{table_of}
use Rattle.table.specs.Words.{place_in}
use Rattle.table.proofs.Signed.{size-of}
use Rattle.table.proofs.Suffix.{suffix_end, length_grades}
use Rattle.table.proofs.Words.{turn}
use Rattle.cutoff.specs.Best.{best}
use Rattle.measures.specs.Measures.{height}
use Rattle.measures.specs.Private.{farthest_of}
use Rattle.measures.proofs.Cutoffs.{turned_none}
use Rattle.measures.proofs.farthest.Invariants.{Tried, p, more_curve, more_diagonal, few_curve, Next, next, taken, left}
use Rattle.measures.proofs.farthest.Goals.{After-pairs_of-diagonal}
use Rattle.measures.proofs.farthest.Goals as goal

none : (t : Table) → pos 0 ≡ height t 0
unfolding defaults_in survivors_in
none t = rw (turned_none t, zero-mul (survivors_in t), zero-mul (defaults_in t))

farthest_is : (p : Place) (i a b g : ℕ) (h : ℤ) (far : ℕ) → i ≡ 0 → Tried p i a b g h far
    → record { cutoff = g; height = h } ≡ farthest_of (table_of p)
unfolding farthest_of
farthest_is p i a b g h far e t =
    let all : length (table_of p) ≡ p.grades - i = omega (arith, length_grades p 0 p.grades) in
    rw (all, ← t.high, ← t.cutoff)

pub loop-i-init : goal.loop-i-init
unfolding defaults_in survivors_in best
loop-i-init c =
    let p = place_in c.args.place.now in
    let end = suffix_end p p.grades (omega arith) in
    rw c.grades_of-grades.ensures
    (record {
      inside = omega arith;
      curve = rw end (sym (zero-mul (survivors_in (table_of p))));
      diagonal = rw end (sym (zero-mul (defaults_in (table_of p))));
      cutoff = rw sub_self;
      high = rw sub_self (none (table_of p));
      distance = rw sub_self (ap nat_abs (none (table_of p)));
    })

pub overflow_add-curve : goal.overflow_add-curve
overflow_add-curve c =
    let pre = c.requires in
    let f = turn _ _ pre.holds_table c.loop-i-test.true c.loop-i.invariant.inside in
    let sound = pre.holds_table.sound in
    let is = more_curve sound f c.loop-i.invariant pre.all_survivors c.pairs_of-curve.ensures in
    omega (arith, few_curve sound f c.loop-i.invariant is)

-- The turn adds its grade to the curve and to the diagonal.
reached : (c : After-pairs_of-diagonal)
    → Next (place_in c.args.place.now) c.loop-i.i (c.loop-i.curve + c.pairs_of-curve.result) (c.loop-i.diagonal + c.pairs_of-diagonal.result)
reached c =
    let pre = c.requires in
    let f = turn _ _ pre.holds_table c.loop-i-test.true c.loop-i.invariant.inside in
    let sound = pre.holds_table.sound in
    next sound c.loop-i-test.true f c.loop-i.invariant (more_curve sound f c.loop-i.invariant pre.all_survivors c.pairs_of-curve.ensures)
    (more_diagonal sound f c.loop-i.invariant pre.all_defaults (omega (arith, c.survivors.ensures, c.obligors_at.ensures))
    c.pairs_of-diagonal.ensures)

pub overflow_add-diagonal : goal.overflow_add-diagonal
overflow_add-diagonal c = let n = reached (goal.at.overflow_add-diagonal c).After-pairs_of-diagonal in omega (arith, n.small_b)

pub difference-height-requires : goal.difference-height-requires
difference-height-requires c =
    let n = reached (goal.at.difference-height-requires c).After-pairs_of-diagonal in
    (omega (arith, n.small_a), omega (arith, n.small_b))

pub loop-i-preserved-then-distance-here : goal.loop-i-preserved-then-distance-here
loop-i-preserved-then-distance-here c =
    let n = reached (goal.at.loop-i-preserved-then-distance-here c).After-pairs_of-diagonal in
    let here = c.abs_diff-here.ensures ∙ sym (size-of _ _) in
    rw c.grades_of-grades.ensures (taken n c.loop-i.invariant here c.if-distance-here.true c.difference-height.result c.difference-height.ensures)

pub loop-i-preserved : goal.loop-i-preserved
loop-i-preserved c =
    let n = reached (goal.at.loop-i-preserved c).After-pairs_of-diagonal in
    left n c.loop-i.invariant (c.abs_diff-here.ensures ∙ sym (size-of _ _)) c.if-distance-here.false

pub returns : goal.returns
returns c = farthest_is _ _ _ _ _ _ _ (omega arith) c.loop-i.invariant
