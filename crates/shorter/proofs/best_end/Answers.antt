-- `best_end` meets its contract. The invariant: the ends before e have been tried.
use Prim.Native.Nat.{ℕ, suc, ◌+◌, ◌-◌, ◌≤◌, ◌<◌}
use mathlib.Core.Path.{◌≡◌, sym, ◌∙◌}
use native.Mathlib.Omega.{arith}
use Rattle.shorter.specs.Private.{top_from, best_end_lem}
use Rattle.shorter.proofs.Search.{top_one, top_taken, top_left}
use Rattle.shorter.proofs.best_end.Invariants.{Tried}
use Rattle.shorter.proofs.best_end.Goals.{then-value-here, else-value-here}
use Rattle.shorter.proofs.best_end.Goals as goal

-- The first end alone.
tried_one : {f : ℕ → ℕ} {i last e value : ℕ} → e ≡ suc i → i < last → value ≡ f e → Tried f i last e e value
tried_one {f} {i} e l h = record { after = omega arith; inside = omega arith; found = rw (e, top_one f (suc i)); worth = h }

-- The end e is the best so far, or the one kept is.
module _ {f : ℕ → ℕ} {i last e end value : ℕ} (t : Tried f i last (e - 1) end value) (s : suc i < e) (l : e ≤ last) {here : ℕ} (h : here ≡ f e) where
  now : e - 1 + 1 ≡ e
  now = omega arith

  taken : value < here → Tried f i last e e here
  taken x =
      let more : f (top_from f (suc i) (e - 1)) < f (e - 1 + 1) = rw (now, ← h, ← t.found, ← t.worth) x in
      record { after = omega arith; inside = l; found = sym (rw now at (top_taken f (suc i) (e - 1) t.after more)); worth = h }

  left : here ≤ value → Tried f i last e end value
  left x =
      let less : f (e - 1 + 1) ≤ f (top_from f (suc i) (e - 1)) = rw (now, ← h, ← t.found, ← t.worth) x in
      record { after = omega arith; inside = l; found = t.found ∙ sym (rw now at (top_left f (suc i) (e - 1) t.after less)); worth = t.worth }

-- The last end has been tried.
best : {f : ℕ → ℕ} {i last e end value : ℕ} → Tried f i last e end value → e ≡ last → record { value = value; end = end } ≡ best_end_lem f i last
unfolding best_end_lem
best t e = rw (← e, ← t.found, ← t.worth)

pub added-value-requires : goal.added-value-requires
added-value-requires c = (omega arith, omega arith, c.requires.priced _ (omega arith) (omega arith))

pub loop-e-init : goal.loop-e-init
loop-e-init c =
    let e : c.args.i + 1 + 1 - 1 ≡ c.args.i + 1 = omega arith in
    rw e (tried_one (omega arith) (omega arith) c.added-value.ensures)

pub added-here-requires : goal.added-here-requires
added-here-requires c =
    let t = c.loop-e.invariant in
    (omega arith, omega arith, c.requires.priced _ (omega arith) (omega arith))

pub loop-e-preserved : goal.loop-e-preserved
loop-e-preserved c =
    let e : c.loop-e.e + 1 - 1 ≡ c.loop-e.e = omega arith in
    let t = c.loop-e.invariant in
    elim c.if-value-here.branch [
      | then-value-here w ↦ rw (e, w.end-is, w.value-is) (taken t (omega arith) (omega arith) c.added-here.ensures w.if-value-here.true)
      | else-value-here w ↦ rw (e, w.end-is, w.value-is) (left t (omega arith) (omega arith) c.added-here.ensures w.if-value-here.false)
    ]

pub returns : goal.returns
returns c = best c.loop-e.invariant (omega arith)
