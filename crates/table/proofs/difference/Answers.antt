-- `difference` meets its contract: both numbers, and so their difference, are far from the ends of 64 bits.
use mathlib.Core.Path.{◌≡◌, ◌∙◌}
use native.Mathlib.Omega.{arith}
use lib.IntN.{◌-ℤ◌, sub_ℕ}
use mir.Syntax.{w64}
use mir.Val.{SFits, to_z}
use mir.ValLaws.{to_z_pos, to_z-of_z}
use Rattle.table.proofs.Signed.{pos_pos, difference_fits}
use Rattle.table.proofs.difference.Goals as goal

pub overflow_sub-result : goal.overflow_sub-result
overflow_sub-result c =
    let is : to_z w64 c.args.a -ℤ to_z w64 c.args.b ≡ sub_ℕ c.args.a c.args.b = rw (to_z_pos w64 c.args.a (omega arith), to_z_pos w64 c.args.b (omega arith)) (pos_pos c.args.a c.args.b) in
    let fits : SFits w64 (to_z w64 c.args.a -ℤ to_z w64 c.args.b) = rw is (difference_fits c.requires.0 c.requires.1) in
    fits

pub returns : goal.returns
returns c =
    let is : to_z w64 c.args.a -ℤ to_z w64 c.args.b ≡ sub_ℕ c.args.a c.args.b = rw (to_z_pos w64 c.args.a (omega arith), to_z_pos w64 c.args.b (omega arith)) (pos_pos c.args.a c.args.b) in
    let fits : SFits w64 (to_z w64 c.args.a -ℤ to_z w64 c.args.b) = rw is (difference_fits c.requires.0 c.requires.1) in
    to_z-of_z w64 _ (fits) ∙ is
