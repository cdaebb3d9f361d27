-- `compare_with` meets its contract. The invariant: comparing with those from i on gives what comparing with all gives.
use Prim.Native.Nat.{◌-◌}
use mathlib.Core.Path.{◌≡◌, sym, ◌∙◌}
use native.Mathlib.Omega.{arith}
use Rattle.shortlist.specs.Private.{beats, compared}
use Rattle.shortlist.specs.declared.beaten.Winner.TheVariants.{First, Second, Neither}
use Rattle.shortlist.proofs.Compared.{skipped, turned, comparable}
use Rattle.shortlist.proofs.beaten.compare_with.Goals.{in-Second, in-Neither}
use Rattle.shortlist.proofs.beaten.compare_with.Goals as goal

pub loop-i-preserved-then-beaten-i : goal.loop-i-preserved-then-beaten-i
loop-i-preserved-then-beaten-i c =
    let l = c.loop-i in
    skipped (beats c.args.held.now) c.args.j l.i l.beaten c.loop-i-test.true c.if-beaten-i.true ∙ l.invariant

pub better_of-requires : goal.better_of-requires
better_of-requires c = comparable c.requires.0 _ _ (omega arith) c.requires.1 c.index-held-i.is c.index-held-j.is

pub returns-in-First : goal.returns-in-First
returns-in-First c =
    let l = c.loop-i in
    turned c.args.held.now c.args.j l.i l.beaten c.loop-i-test.true c.requires.1 c.index-held-i.is c.index-held-j.is c.if-beaten-i.false First
    (sym c.in-First.is ∙ c.better_of.ensures)
    ∙ l.invariant

pub loop-i-preserved : goal.loop-i-preserved
loop-i-preserved c =
    let l = c.loop-i in
    elim c.match-better_of.branch [
      | in-Second w ↦
          rw w.beaten-is
          (turned c.args.held.now c.args.j l.i l.beaten c.loop-i-test.true c.requires.1 c.index-held-i.is c.index-held-j.is c.if-beaten-i.false Second
          (sym w.in-Second.is ∙ c.better_of.ensures)
          ∙ l.invariant)
      | in-Neither w ↦
          rw w.beaten-is
          (turned c.args.held.now c.args.j l.i l.beaten c.loop-i-test.true c.requires.1 c.index-held-i.is c.index-held-j.is c.if-beaten-i.false Neither
          (sym w.in-Neither.is ∙ c.better_of.ensures)
          ∙ l.invariant)
    ]

pub returns : goal.returns
unfolding compared
returns c =
    let l = c.loop-i in
    let e : c.args.j - l.i ≡ 0 = omega arith in
    rw e at l.invariant
