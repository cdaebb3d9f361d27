-- `write_list` meets its contract. The invariant is `Listing`.
use Rattle.shortlist.proofs.Writing.{passed_over, put_down, all_listed}
use Rattle.shortlist.proofs.beaten.write_list.Goals.{then-not-beaten, else-not-beaten}
use Rattle.shortlist.proofs.beaten.write_list.Goals as goal

pub loop-i-preserved : goal.loop-i-preserved
loop-i-preserved c =
    let l = c.loop-i in
    elim c.if-not-beaten.branch [
      | then-not-beaten w ↦
          rw (w.out-is, w.count-is) (put_down c.args.beaten.now _ _ _ _ l.invariant c.requires.1 c.loop-i-test.true w.if-not-beaten.true)
      | else-not-beaten w ↦
          rw (w.out-is, w.count-is) (passed_over c.args.beaten.now _ _ _ _ l.invariant c.requires.1 c.loop-i-test.true w.if-not-beaten.false)
    ]

pub returns : goal.returns
returns c =
    let a = all_listed _ _ _ _ _ c.loop-i.invariant c.requires.1 c.loop-i-test.false in
    record { value = a.0; out_after = a.1 }
