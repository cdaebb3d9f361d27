-- `cheapest` meets its contract. The invariant: what the loop keeps is the cheapest cutoff of the grades from grade i on.
use Prim.Native.Nat.{ℕ, ◌+◌, ◌-◌, ◌*◌, ◌≤◌, ◌<◌}
use mathlib.Core.Path.{◌≡◌, sym}
use mathlib.Core.List.{List, ◌∷◌}
use native.Mathlib.Omega.{arith}
use borrow.Author.Rules.{rules}
use lib.ListN.{length, get_or}
use Rattle.table.specs.declared.Place.{Place}
use Rattle.table.specs.declared.Survivors.{Survivors}
use Rattle.table.specs.Table.{survivors, defaults_in, survivors_in, obligors_in}
use Rattle.table.specs.Place.{grade_at}
use Rattle.table.specs.Words.{place_in}
use Rattle.table.proofs.Arithmetic.{counts_le}
use Rattle.table.proofs.Suffix.{suffix, suffix_all, suffix_end, length_grades}
use Rattle.table.proofs.Words.{Turn, turn}
use Rattle.cutoff.specs.Cutoff.{cheapest_of}
use Rattle.cutoff.proofs.Cost.{cost_le_all, cheapest_cost, cheapest_none, cheapest_away, cheapest_accepts}
use Rattle.cutoff.proofs.cheapest.Invariants.{Swept}
use Rattle.cutoff.proofs.cheapest.Goals.{After-plus-passed}
use Rattle.cutoff.proofs.cheapest.Goals as goal

-- What a turn knows: with this grade, of d defaults, s survivors are passed. The table has k grades.
record Choice (u v : ℕ) (p : Place) (k i s d cutoff cost : ℕ) : Type 0 where
  pub passed : s ≡ survivors_in (suffix p i)
  pub few : s ≤ 1_000_000
  pub few_defaults : d ≤ 1_000_000
  pub away_small : v * s ≤ 1_000_000_000_000
  pub missed_small : u * d ≤ 1_000_000_000_000
  pub cost_small : cost ≤ 1_000_000_000_000
  pub away : v * s < u * d + cost → record { cutoff = k - i; cost = v * s } ≡ cheapest_of (suffix p i) u v
  pub accepted : u * d + cost ≤ v * s → record { cutoff = cutoff; cost = u * d + cost } ≡ cheapest_of (suffix p i) u v

choice : (u v : ℕ) (w : List ℕ) (i : ℕ) (passed : Survivors) (cutoff cost s : ℕ) →
    let p = place_in w in
    (u ≤ 1_000_000) × (v ≤ 1_000_000) → 0 < i → Turn w i → Swept u v p i passed cutoff cost
    → s ≡ passed.0 + survivors (grade_at p (i - 1))
    → Choice u v p p.grades (i - 1) s (grade_at p (i - 1)).defaults cutoff cost
unfolding defaults_in survivors_in obligors_in
choice u v w i passed cutoff cost s prices pos f kept e =
    let p = place_in w in
    let r = grade_at p (i - 1) in
    let t = suffix p i in
    let total : survivors_in (r ∷ t) ≡ s = omega arith in
    let few : s ≤ 1_000_000 = omega arith in
    let few_defaults : r.defaults ≤ 1_000_000 = omega arith in
    let before : passed.0 ≤ 1_000_000 = omega arith in
    let long : length (r ∷ t) ≡ p.grades - (i - 1) = omega (arith, length_grades p i (p.grades - i)) in
    let same : cheapest_of t u v ≡ record { cutoff = cutoff; cost = cost } = sym kept.cheapest in
    let cheap : cost ≤ v * passed.0 = rw kept.all_passed (rw (same, cheapest_cost) at (cost_le_all t u v)) in
    record {
      passed = rw f.down (omega arith);
      few = few;
      few_defaults = few_defaults;
      away_small = counts_le prices.1 few;
      missed_small = counts_le prices.0 few_defaults;
      cost_small = omega (arith, counts_le prices.1 before);
      away = λ h. rw f.down (sym (rw (total, long) at (cheapest_away r t u v (rw (total, same, cheapest_cost) h))));
      accepted = λ h. rw f.down (sym (rw (same, cheapest_cost) at (cheapest_accepts r t u v (rw (total, same, cheapest_cost) h))));
    }

pub loop-i-init : goal.loop-i-init
unfolding survivors_in
loop-i-init c =
    let p = place_in c.args.place.now in
    let none = suffix_end p c.grades_of-grades.result (omega (arith, c.grades_of-grades.ensures)) in
    record { inside = omega (arith, c.grades_of-grades.ensures); all_passed = rw none; cheapest = rw (none, cheapest_none) }

pub plus-passed-requires : goal.plus-passed-requires
unfolding survivors_in obligors_in
plus-passed-requires c =
    let f = turn _ _ c.requires.holds_table c.loop-i-test.true c.loop-i.invariant.inside in
    omega (arith, c.obligors_at.ensures, c.survivors.ensures)

-- A turn, once it has read its grade: its survivors are passed.
reached : (c : After-plus-passed)
    → Choice c.args.u c.args.v (place_in c.args.place.now) c.grades_of-grades.result (c.loop-i.i - 1) c.plus-passed.result.0
    (get_or c.args.place.now (40 + (c.loop-i.i - 1)) 0) c.loop-i.cutoff c.loop-i.cost
reached c =
    let t = turn _ _ c.requires.holds_table c.loop-i-test.true c.loop-i.invariant.inside in
    rw (c.grades_of-grades.ensures, t.defaults)
    (choice c.args.u c.args.v c.args.place.now c.loop-i.i c.loop-i.passed c.loop-i.cutoff c.loop-i.cost c.plus-passed.result.0 c.requires.prices
    c.loop-i-test.true t c.loop-i.invariant (omega (arith, c.plus-passed.ensures, c.survivors.ensures, c.obligors_at.ensures)))

pub overflow_cast-away-in-loop-i : goal.overflow_cast-away-in-loop-i
overflow_cast-away-in-loop-i c = let f = reached (goal.at.overflow_cast-away-in-loop-i c).After-plus-passed in omega arith

pub overflow_mul-away : goal.overflow_mul-away
overflow_mul-away c = let f = reached (goal.at.overflow_mul-away c).After-plus-passed in omega arith

pub overflow_cast-accepted-in-loop-i : goal.overflow_cast-accepted-in-loop-i
overflow_cast-accepted-in-loop-i c = let f = reached (goal.at.overflow_cast-accepted-in-loop-i c).After-plus-passed in omega arith

pub overflow_mul-accepted : goal.overflow_mul-accepted
overflow_mul-accepted c = let f = reached (goal.at.overflow_mul-accepted c).After-plus-passed in omega arith

pub overflow_add-accepted : goal.overflow_add-accepted
overflow_add-accepted c = let f = reached (goal.at.overflow_add-accepted c).After-plus-passed in omega arith

pub loop-i-preserved-then-away-accepted : goal.loop-i-preserved-then-away-accepted
loop-i-preserved-then-away-accepted c =
    let f = reached (goal.at.loop-i-preserved-then-away-accepted c).After-plus-passed in
    record { inside = search rules; all_passed = f.passed; cheapest = f.away c.if-away-accepted.true }

pub loop-i-preserved : goal.loop-i-preserved
loop-i-preserved c =
    let f = reached (goal.at.loop-i-preserved c).After-plus-passed in
    record { inside = search rules; all_passed = f.passed; cheapest = f.accepted c.if-away-accepted.false }

pub returns : goal.returns
returns c =
    let e : c.loop-i.i ≡ 0 = omega arith in
    rw suffix_all at c.loop-i.invariant.cheapest
