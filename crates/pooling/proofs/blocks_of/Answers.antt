-- `blocks_of` meets its contract.
use Prim.Native.Nat.{ℕ, ◌+◌, ◌-◌, ◌≤◌, ◌<◌}
use mathlib.Core.Path.{◌≡◌, refl, ap, ◌∙◌}
use mathlib.Core.List.{List}
use native.Mathlib.Omega.{arith}
use lib.ListN.{length, get_or}
use Rattle.table.specs.Table.{Table, Counted, defaults_in, obligors_in}
use Rattle.table.specs.Place.{grade_at}
use Rattle.table.specs.Words.{place_in, table_in, HoldsTable}
use Rattle.table.specs.declared.Place.{Place}
use Rattle.table.proofs.Occupied.{is-occupied, is_empty}
use Rattle.table.proofs.Suffix.{suffix, suffix_all, suffix_end, every_suffix, small}
use Rattle.table.proofs.Words.{Turn, turn, few_in}
use Rattle.pooling.specs.Pool.{Block, join, front}
use Rattle.pooling.specs.Private.{block, waiting, behind_waiting, lengthened, Fitting, sum_of}
use Rattle.pooling.proofs.Scale.{front_length}
use Rattle.pooling.proofs.Spanning.{Sums, behind_sums, behind_some}
use Rattle.pooling.proofs.blocks_of.Invariants.{Climbed}
use Rattle.pooling.proofs.blocks_of.Goals as goal

-- What the grades passed hold.
module _ {w : List ℕ} {i grades : ℕ} {stored : List Block} (holds : HoldsTable w) (inv : Climbed (place_in w) i grades stored) where
  abbrev p : Place
  p = place_in w

  sums : Sums (suffix p i) (waiting (suffix p i)) (behind_waiting (suffix p i))
  sums = behind_sums (suffix p i) (every_suffix Counted p i inv.inside holds.sound.counted)

  few_wait : grades ≤ 41
  few_wait = omega (arith, inv.waits, sums.grades, (small p i holds.sound inv.inside).grades)

  -- The next grade, and its obligors.
  module _ (pos : 0 < i) (n : ℕ) (its : n ≡ get_or w (i - 1) 0) where
    here : Turn w i
    here = turn w i holds pos inv.inside

    -- It is empty, and waits.
    empty : n ≡ 0 → Climbed p (i - 1) (grades + 1) stored
    unfolding waiting behind_waiting
    empty e =
        let none = is_empty (grade_at p (i - 1)) (omega (arith, here.obligors)) in
        record {
          inside = omega (arith, inv.inside);
          room = omega (arith, inv.room);
          waits = rw (here.down, none) (omega (arith, inv.waits));
          same = rw (here.down, none) inv.same;
        }

    -- It is occupied, and its block is put before the others.
    module _ (some : 1 ≤ n) where
      abbrev next : Block
      next = block grades n (get_or w (40 + (i - 1)) 0)

      fits : Fitting (join next (sum_of stored))
      unfolding obligors_in defaults_in
      fits =
          let s = sums in
          let t = here.here in
          let k = (small p i holds.sound inv.inside).grades in
          rw inv.same (omega (arith, inv.waits), omega (arith, here.obligors), omega (arith, here.defaults))

      occupied : {new : List Block} → new ≡ front next stored → Climbed p (i - 1) 1 new
      unfolding waiting behind_waiting
      occupied e =
          let is = is-occupied (grade_at p (i - 1)) (omega (arith, here.obligors)) in
          let same : next ≡ block (waiting (suffix p i) + 1) (grade_at p (i - 1)).obligors (grade_at p (i - 1)).defaults =
          rw (inv.waits, its, here.obligors, here.defaults) refl in
          record {
            inside = omega (arith, inv.inside);
            room = omega (arith, inv.room, front_length next stored, ap length e);
            waits = rw (here.down, is) refl;
            same = rw (here.down, is) (e ∙ rw (same, inv.same));
          }

-- After the best grade: those that still wait belong to the first block.
module _ {w : List ℕ} {i grades : ℕ} {stored : List Block} (holds : HoldsTable w) (inv : Climbed (place_in w) i grades stored) (done : i ≡ 0) where
  abbrev t : Table
  t = table_in w

  all : stored ≡ behind_waiting t
  all = rw (suffix_all (place_in w) i done) at inv.same

  wait : grades - 1 ≡ waiting t
  wait = omega (arith, rw (suffix_all (place_in w) i done) at inv.waits)

  -- There is one, and together they have no more grades than the table.
  some_stored : 0 < length stored
  some_stored = rw all (behind_some t holds.sound.some_occupied)

  few_stored : grades - 1 + (sum_of stored).grades ≤ 40
  few_stored = rw all (omega (arith, wait, (behind_sums t holds.sound.counted).grades, holds.sound.few))

pub loop-i-init : goal.loop-i-init
unfolding waiting behind_waiting
loop-i-init c =
    let p = place_in c.args.place.now in
    let none = suffix_end p c.grades_of-i.result (omega (arith, c.grades_of-i.ensures)) in
    record {
      inside = omega (arith, c.grades_of-i.ensures);
      room = omega (arith, c.grades_of-i.ensures, few_in c.requires, ap length c.clear.ensures);
      waits = rw none refl;
      same = rw none c.clear.ensures;
    }

pub overflow_add-grades : goal.overflow_add-grades
overflow_add-grades c = let w = few_wait c.requires c.loop-i.invariant in omega arith

pub loop-i-preserved-then-obligors-eq0 : goal.loop-i-preserved-then-obligors-eq0
loop-i-preserved-then-obligors-eq0 c = empty c.requires c.loop-i.invariant (omega arith) _ c.obligors_at-obligors.ensures c.if-obligors-eq0.true

pub put_before-requires-clause-fitting : goal.put_before-requires-clause-fitting
put_before-requires-clause-fitting c = fits c.requires c.loop-i.invariant (omega arith) _ c.obligors_at-obligors.ensures (omega arith)

pub loop-i-preserved : goal.loop-i-preserved
loop-i-preserved c =
    occupied c.requires c.loop-i.invariant (omega arith) _ c.obligors_at-obligors.ensures (omega arith) c.put_before.ensures

pub lengthen-requires : goal.lengthen-requires
lengthen-requires c =
    record {
      some = some_stored c.requires c.loop-i.invariant (omega arith);
      few = omega (arith, few_stored c.requires c.loop-i.invariant (omega arith));
    }

pub returns : goal.returns
returns c =
    let inv = c.loop-i.invariant in
    c.lengthen.ensures
    ∙ ap (λ (l : List Block). lengthened (c.loop-i.grades - 1) l) (all c.requires inv (omega arith))
    ∙ ap (λ (k : ℕ). lengthened k (behind_waiting (t c.requires inv (omega arith)))) (wait c.requires inv (omega arith))
