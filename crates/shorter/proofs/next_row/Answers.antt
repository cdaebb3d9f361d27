-- `next_row` meets its contract. The invariant: the row is filled before grade i.
use Prim.Native.Nat.{◌-◌}
use native.Mathlib.Omega.{arith}
use Rattle.shorter.proofs.Rows.{priced, Next, next, filled, all_values, all_choices}
use Rattle.shorter.proofs.next_row.Goals as goal

pub loop-i-init : goal.loop-i-init
loop-i-init c =
    let i = c.args.size.runs - 2 - c.args.j in
    let last = c.row_end-i-end.ensures in
    record {
      more = omega arith;
      few = last.few;
      from = omega arith;
      to = omega (arith, last.all i (record { before = omega arith; behind = omega arith; first = λ x. omega arith }));
      points = c.requires.rows.0.long;
      old = λ e l need. c.requires.rows.0.at e need;
      done = λ h p l. absurd (omega arith);
      chosen = λ h p l. absurd (omega arith);
      before = c.requires.rows.1;
    }

pub best_end-best-requires : goal.best_end-best-requires
best_end-best-requires c =
    let f = c.loop-i.invariant in record {
      within = (omega arith, omega arith);
      priced = priced c.requires.sums f c.loop-i-test.true;
    }

pub overflow_cast-choices : goal.overflow_cast-choices
overflow_cast-choices c =
    let found : Next c.requires.sums c.loop-i.invariant c.loop-i-test.true c.best_end-best.result = next c.requires.sums c.loop-i.invariant
    c.loop-i-test.true c.best_end-best.result c.best_end-best.ensures in
    let f = c.loop-i.invariant in omega (arith, found.few)

pub loop-i-preserved : goal.loop-i-preserved
loop-i-preserved c =
    let found : Next c.requires.sums c.loop-i.invariant c.loop-i-test.true c.best_end-best.result = next c.requires.sums c.loop-i.invariant
    c.loop-i-test.true c.best_end-best.result c.best_end-best.ensures in
    filled _ _ _ found

pub returns : goal.returns
returns c =
    let f = c.loop-i.invariant in
    let last = c.row_end-i-end.ensures in record {
      values = all_values last f c.loop-i-test.false;
      choices = all_choices last f c.loop-i-test.false;
    }
