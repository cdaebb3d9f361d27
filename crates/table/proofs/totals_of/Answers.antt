-- `totals_of` meets its contract. The invariant: each sum, and that of the grades from grade i on, are all.
use mathlib.Core.Path.{◌≡◌}
use native.Mathlib.Omega.{arith}
use Rattle.table.specs.declared.Totals.{Totals}
use Rattle.table.specs.Table.{Table, defaults_in, survivors_in, obligors_in}
use Rattle.table.specs.Words.{place_in}
use Rattle.table.specs.Counts.{totals_of_lem}
use Rattle.table.proofs.Suffix.{sound_small}
use Rattle.table.proofs.Words.{onward, ended}
use Rattle.table.proofs.totals_of.Goals as goal

totals_are : (t : Table) (r : Totals) → r.defaults ≡ defaults_in t → r.survivors.0 ≡ survivors_in t → r.obligors.0 ≡ obligors_in t → r ≡ totals_of_lem t
unfolding totals_of_lem
totals_are t r d s n = rw (← d, ← s, ← n)

pub bounds-place-i : goal.bounds-place-i
bounds-place-i c = omega (arith, onward _ c.loop-i.i c.requires (omega arith))

pub overflow_add-sum-in-loop-i : goal.overflow_add-sum-in-loop-i
overflow_add-sum-in-loop-i c = omega (arith, onward _ c.loop-i.i c.requires (omega arith))

pub obligors_at-requires : goal.obligors_at-requires
obligors_at-requires c = omega (arith, onward _ c.loop-i.i c.requires (omega arith))

pub plus-all-requires : goal.plus-all-requires
plus-all-requires c = omega (arith, onward _ c.loop-i.i c.requires (omega arith))

pub loop-i-preserved : goal.loop-i-preserved
loop-i-preserved c =
    let f = onward _ c.loop-i.i c.requires (omega arith) in
    record { defaults = omega (arith, f); obligors = omega (arith, f) }

pub survivors-requires : goal.survivors-requires
survivors-requires c = omega (arith, ended (place_in c.args.place.now) c.loop-i.i (omega arith), sound_small c.requires.sound)

pub returns : goal.returns
returns c =
    let none = ended (place_in c.args.place.now) c.loop-i.i (omega arith) in
    totals_are _ _ (omega (arith, none)) (omega (arith, none, sound_small c.requires.sound, c.survivors.ensures)) (omega (arith, none))
