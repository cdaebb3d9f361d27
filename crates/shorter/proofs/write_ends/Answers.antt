-- `write_ends` meets its contract. The invariant: the ends before `at` are written.
use Prim.Native.Nat.{ℕ, suc, ◌+◌, ◌-◌, ◌≤◌, ◌<◌}
use mathlib.Core.Path.{◌≡◌, refl, ◌∙◌}
use mathlib.Core.List.{List, ◌++◌, append_assoc}
use native.Mathlib.Numerals.{add-one}
use native.Mathlib.Omega.{arith}
use lib.ListN.{length, take, drop, set, length-set, take-append-drop}
use lib.Seq.{take-suc-set, drop-set-lt}
use Rattle.shorter.specs.Private.{choice, ends_in, Leads}
use Rattle.shorter.proofs.write_ends.Invariants.{Written}
use Rattle.shorter.proofs.write_ends.Goals as goal

module _ {c : List (List ℕ)} {m k : ℕ} {out₀ : List ℕ} {i at : ℕ} {out : List ℕ} (w : Written c m k out₀ i at out) where
  -- the row of the next choice
  row : at + 1 < m → m - 1 - at ≡ suc (m - 1 - 1 - at)
  row h = omega arith

  next : at + 1 < m → Leads c (suc (m - 1 - 1 - at)) i
  next h = rw (row h) at w.leads

  more : at + 1 < m → m ≤ length out₀
      → Written c m k out₀ (choice c (m - 1 - 1 - at) i) (at + 1) (set out at (choice c (m - 1 - 1 - at) i))
  unfolding ends_in
  more h l = let e = choice c (m - 1 - 1 - at) i in
      let r : m - 1 - (at + 1) ≡ m - 1 - 1 - at = omega arith in
      record {
        some = h;
        leads = rw r (next h).3;
        long = rw length-set w.long;
        ends = rw (r, add-one, take-suc-set out at e (omega (arith, w.long)), append_assoc) (rw (row h) at w.ends);
        rest = drop-set-lt m out at e (omega arith) ∙ w.rest;
      }

  last : m ≤ at + 1 → m ≤ length out₀ → set out at k ≡ ends_in c k (m - 1) 0 ++ drop m out₀
  unfolding ends_in
  last h l = let r : m - 1 - at ≡ 0 = omega (arith, w.some) in
      let n : m ≡ suc at = omega (arith, w.some) in
      let front : take m (set out at k) ≡ ends_in c k (m - 1) 0 = rw n (take-suc-set out at k (omega (arith, w.some, w.long))) ∙ rw r at w.ends in
      let back : drop m (set out at k) ≡ drop m out₀ = drop-set-lt m out at k w.some ∙ w.rest in
      rw (← front, ← back, take-append-drop)

pub loop-at-init : goal.loop-at-init
loop-at-init c =
    let z : c.args.size.runs - 1 - 0 ≡ c.args.size.runs - 1 = omega arith in
    record { some = omega arith; leads = rw z c.requires.choices; long = refl; ends = rw z; rest = refl }

pub overflow_cast-out : goal.overflow_cast-out
overflow_cast-out c = omega (arith, (next c.loop-at.invariant (omega arith)).2)

pub overflow_cast-i : goal.overflow_cast-i
overflow_cast-i c = omega (arith, (next c.loop-at.invariant (omega arith)).2)

pub loop-at-preserved : goal.loop-at-preserved
loop-at-preserved c = more c.loop-at.invariant (omega arith) c.requires.room

pub shape_of-out : goal.shape_of-out
shape_of-out c = rw length-set c.loop-at.invariant.long

pub returns : goal.returns
returns c =
    let e : c.loop-at.at ≡ c.args.size.runs - 1 = omega (arith, c.loop-at.invariant.some) in
    rw e at (last c.loop-at.invariant (omega arith) c.requires.room)
