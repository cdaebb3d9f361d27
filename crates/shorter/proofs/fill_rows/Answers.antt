-- `fill_rows` meets its contract. The invariant: row j stands, and the choices of the rows before it.
use Prim.Native.Nat.{◌-◌}
use mathlib.Core.Path.{◌≡◌}
use native.Mathlib.Numerals.{add-one}
use native.Mathlib.Omega.{arith}
use Rattle.shorter.proofs.fill_rows.Goals as goal

pub loop-j-init : goal.loop-j-init
loop-j-init c =
    record {
      within = omega arith;
      values = c.last_runs.ensures;
      choices = record { long = c.told-choices; wide = c.requires.wide; at = λ h i l need. absurd (omega arith) };
    }

pub next_row-requires : goal.next_row-requires
next_row-requires c =
    let w = c.loop-j.invariant in
    let pre = c.requires in record {
      row = omega arith;
      sums = pre.sums;
      rows = (w.values, w.choices);
    }

pub loop-j-preserved : goal.loop-j-preserved
loop-j-preserved c = record { within = omega arith; values = rw add-one c.next_row.ensures.values; choices = rw add-one c.next_row.ensures.choices }

pub returns : goal.returns
returns c =
    let w = c.loop-j.invariant in
    let e : c.args.size.runs - 1 ≡ c.loop-j.j = omega arith in record {
      values = rw e w.values;
      choices = rw e w.choices;
    }
