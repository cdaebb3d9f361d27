-- `obligors_of` meets its contract. The invariant: the sum, and that of the grades from grade i on, are all.
use native.Mathlib.Omega.{arith}
use Rattle.table.specs.Words.{place_in}
use Rattle.table.proofs.Words.{onward, ended}
use Rattle.table.proofs.obligors_of.Goals as goal

pub obligors_at-requires : goal.obligors_at-requires
obligors_at-requires c = omega (arith, onward _ c.loop-i.i c.requires (omega arith))

pub plus-all-requires : goal.plus-all-requires
plus-all-requires c = omega (arith, onward _ c.loop-i.i c.requires (omega arith))

pub loop-i-preserved : goal.loop-i-preserved
loop-i-preserved c = omega (arith, onward _ c.loop-i.i c.requires (omega arith))

pub returns : goal.returns
returns c = omega (arith, ended (place_in c.args.place.now) c.loop-i.i (omega arith))
