-- `add_up` meets its contract. The invariant: the sums stand from grade i on.
use Prim.Native.Nat.{ℕ, ◌+◌, ◌-◌, ◌≤◌, ◌<◌}
use mathlib.Core.Path.{◌≡◌, ap, ◌∙◌}
use mathlib.Core.List.{List}
use native.Mathlib.Decide.{dec_le}
use native.Mathlib.Omega.{arith}
use lib.ListN.{length, get_or, set, drop, length-set}
use lib.Seq.{get_or-set_same, get_or-set_other}
use Rattle.table.specs.declared.Place.{Place}
use Rattle.table.specs.declared.Survivors.{Survivors}
use Rattle.table.specs.Table.{defaults_in, survivors_in, obligors_in}
use Rattle.table.specs.Place.{table_of}
use Rattle.table.specs.Words.{place_in}
use Rattle.table.proofs.Suffix.{suffix, suffix_end, length_grades}
use Rattle.table.proofs.Words.{Turn, turn, few_in}
use Rattle.cutoff.specs.Cutoff.{turned_away}
use Rattle.measures.proofs.Cutoffs.{turned_suffix}
use Rattle.shorter.specs.declared.Sums.{Sums}
use Rattle.shorter.specs.Private.{nobody, SumsOf}
use Rattle.shorter.proofs.add_up.Invariants.{sums_of, Summed}
use Rattle.shorter.proofs.add_up.Goals.{After-survivors}
use Rattle.shorter.proofs.add_up.Goals as goal

-- w becomes w': x is stored at a.
record Stored (w w' : List Sums) (a : ℕ) (x : Sums) : Type 0 where
  pub long : length w' ≡ 41
  pub here : get_or w' a nobody ≡ x
  pub else : (h : ℕ) → (h ≡ a → ⊥) → get_or w' h nobody ≡ get_or w h nobody

stored : (w : List Sums) (a : ℕ) (x : Sums) → length w ≡ 41 → a ≤ 40 → Stored w (set w a x) a x
stored w a x long few =
    record {
      long = rw length-set long;
      here = get_or-set_same w a x nobody (omega (arith, long));
      else = λ h other. get_or-set_other w a h x nobody other;
    }

module _ {place : List ℕ} {i : ℕ} {s : Survivors} {d : ℕ} {w : List Sums} (m : Summed (place_in place) i s d w) (t : Turn place i) (up : 0 < i) {y : ℕ} (e : y ≡ get_or place (i - 1) 0 - get_or place (40 + (i - 1)) 0) where
  -- Grade i - 1 more, with y survivors.
  abbrev x : ℕ
  x = get_or place (40 + (i - 1)) 0

  enough : (s.0 + y ≤ 1_000_000) × (d + x ≤ 1_000_000)
  unfolding survivors_in defaults_in obligors_in
  enough = omega (arith, m.survived, m.defaulted, t.obligors, t.defaults, t.here.obligors, t.here.split)

  more : {s' : Survivors} → s'.0 ≡ s.0 + y
      → Summed (place_in place) (i - 1) s' (d + x) (set w (i - 1) (record { survivors = s'.0; defaults = d + x }))
  unfolding survivors_in defaults_in
  more {s'} sum =
      let p = place_in place in
      let survived : s'.0 ≡ survivors_in (suffix p (i - 1)) = rw t.down (omega (arith, m.survived, t.obligors, t.defaults)) in
      let defaulted : d + x ≡ defaults_in (suffix p (i - 1)) = rw t.down (omega (arith, m.defaulted, t.defaults)) in
      let new = stored w (i - 1) (record { survivors = s'.0; defaults = d + x }) m.long (omega (arith, m.inside, t.few)) in
      record {
        inside = omega (arith, m.inside);
        survived = survived;
        defaulted = defaulted;
        long = new.long;
        at = λ h l k. elim (dec_le i h) [
          | yes le ↦ new.else h (λ z. omega arith) ∙ m.at h le k
          | no gt ↦ let z : h ≡ i - 1 = omega arith in rw z (new.here ∙ rw (survived, defaulted))
        ];
      }

-- Behind the last grade there is nobody.
none : (p : Place) (i : ℕ) (w : List Sums) → i ≡ p.grades → i ≤ 40 → length w ≡ 41 → Summed p i (record { 0 = 0 }) 0 (set w i nobody)
unfolding survivors_in defaults_in
none p i w e few long =
    let end = suffix_end p i (omega arith) in
    let new = stored w i nobody long few in
    record {
      inside = omega arith;
      survived = rw end;
      defaulted = rw end;
      long = new.long;
      at = λ h a b. let z : h ≡ i = omega arith in rw (z, end) new.here;
    }

suffix_drop : (p : Place) (i : ℕ) → i ≤ p.grades → drop i (table_of p) ≡ suffix p i
unfolding turned_away
suffix_drop p i h = let e : length (table_of p) - (p.grades - i) ≡ i = omega (arith, length_grades p 0 p.grades) in
    rw e at (turned_suffix p i h)

all : {p : Place} {i : ℕ} {s : Survivors} {d : ℕ} {w : List Sums} → Summed p i s d w → i ≡ 0 → SumsOf (table_of p) w
all {p} {i} {s} {d} {w} m e =
    let n = length_grades p 0 p.grades in
    let at : (h : ℕ) → h ≤ length (table_of p) → get_or w h nobody ≡ sums_of (drop h (table_of p)) =
    λ h l. rw (suffix_drop p h (omega arith)) (m.at h (omega arith) (omega arith)) in
    record { survived = λ h l. ap (λ x. x.survivors) (at h l); defaulted = λ h l. ap (λ x. x.defaults) (at h l) }

pub loop-i-init : goal.loop-i-init
loop-i-init c =
    none _ _ c.args.sums.now c.grades_of-grades.ensures (omega (arith, c.grades_of-grades.ensures, few_in c.requires)) c.told-sums

here : (c : After-survivors) → Turn c.args.place.now c.loop-i.i
here c = turn _ _ c.requires c.loop-i-test.true c.loop-i.invariant.inside

left : (c : After-survivors) → let w = c.args.place.now in
    c.survivors.result.0 ≡ get_or w (c.loop-i.i - 1) 0 - get_or w (40 + (c.loop-i.i - 1)) 0
left c = rw (← c.obligors_at.ensures) c.survivors.ensures

room : (c : After-survivors)
    → (c.loop-i.survivors.0 + c.survivors.result.0 ≤ 1_000_000)
    × (c.loop-i.defaults + get_or c.args.place.now (40 + (c.loop-i.i - 1)) 0 ≤ 1_000_000)
room c = enough c.loop-i.invariant (here c) c.loop-i-test.true (left c)

pub plus-survivors-requires : goal.plus-survivors-requires
plus-survivors-requires c = omega (arith, room (goal.at.plus-survivors-requires c).After-survivors)

pub overflow_add-defaults : goal.overflow_add-defaults
overflow_add-defaults c = omega (arith, room (goal.at.overflow_add-defaults c).After-survivors)

pub loop-i-preserved : goal.loop-i-preserved
loop-i-preserved c =
    let at = (goal.at.loop-i-preserved c).After-survivors in
    more c.loop-i.invariant (here at) c.loop-i-test.true (left at) c.plus-survivors.ensures

pub returns : goal.returns
returns c = all c.loop-i.invariant (omega arith)
