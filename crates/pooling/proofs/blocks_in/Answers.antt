-- `blocks_in` meets its contract.
use Prim.Native.Nat.{ℕ, suc, ◌+◌, ◌-◌, ◌*◌, ◌≤◌, ◌<◌}
use mathlib.Core.Path.{◌≡◌, sym, ap, ◌∙◌}
use mathlib.Core.Bool.{true, false}
use mathlib.Core.List.{List, [], ◌∷◌}
use native.Mathlib.Omega.{arith}
use lib.ListN.{length, get_or, drop}
use Rattle.pooling.specs.Pool.{Block}
use Rattle.pooling.specs.Private.{block, shows, grown, runs_in}
use Rattle.pooling.proofs.Reading.{runs_from}
use Rattle.pooling.proofs.blocks_in.Invariants.{Passed}
use Rattle.pooling.proofs.blocks_in.Goals as goal

-- The worst grade.
begin : (numbers : List ℕ) (grades n : ℕ) {none : List Block} → none ≡ [] → n ≡ get_or numbers (3 * (grades - 1) + 1) 0 → 1 ≤ grades → grades ≤ 40
    → Passed numbers grades (grades - 1) (block 1 n (get_or numbers (3 * (grades - 1)) 0)) none
unfolding runs_in grown
begin numbers grades n {none} e of some few =
    let one : grades - (grades - 1) ≡ 1 = omega arith in
    record {
      inside = omega arith;
      runs = rw (e, of, one) (runs_from numbers (grades - 1) 0);
      high = omega (arith, ap length e);
      few = omega arith;
    }

-- The next better grade, with n obligors.
module _ {numbers : List ℕ} {grades i : ℕ} {x : Block} {stored : List Block} (p : Passed numbers grades i x stored) (some : 0 < i) (n : ℕ)
    (of : n ≡ get_or numbers (3 * (i - 1) + 1) 0) where
  abbrev d : ℕ
  d = get_or numbers (3 * (i - 1)) 0

  -- It is of the block in hand, or of a new one.
  next : runs_in (grades - (i - 1)) (drop (3 * (i - 1)) numbers) ≡ grown d n (x ∷ stored)
  next =
      let up : i - 1 + 1 ≡ i = omega (arith, some) in
      let m : grades - (i - 1) ≡ suc (grades - i) = omega (arith, p.inside, some) in
      rw (of, m, ← p.runs) (rw up at (runs_from numbers (i - 1) (grades - i)))

  taken : shows x d n ≡ true → Passed numbers grades (i - 1) (block (x.grades + 1) x.obligors.0 x.defaults) stored
  unfolding grown
  taken e = record {
    inside = omega (arith, p.inside);
    runs = rw e at next;
    high = omega (arith, p.high);
    few = omega (arith, p.few, p.inside, some);
  }

  begun : shows x d n ≡ false → {more : List Block} → more ≡ x ∷ stored → Passed numbers grades (i - 1) (block 1 n d) more
  unfolding grown
  begun e {more} f = record {
    inside = omega (arith, p.inside);
    runs = rw f (rw e at next);
    high = omega (arith, p.high, ap length f, some);
    few = omega (arith, p.inside, some);
  }

pub loop-i-init : goal.loop-i-init
loop-i-init c =
    let r = c.requires in
    begin c.args.numbers.now c.args.grades _ c.clear.ensures c.obligors_at.ensures r.0 r.1

pub loop-i-preserved-then-shows : goal.loop-i-preserved-then-shows
loop-i-preserved-then-shows c =
    taken c.loop-i.invariant (omega arith) _ c.obligors_at-obligors.ensures (sym c.shows.ensures ∙ c.if-shows.true)

pub loop-i-preserved : goal.loop-i-preserved
loop-i-preserved c =
    begun c.loop-i.invariant (omega arith) _ c.obligors_at-obligors.ensures (sym c.shows.ensures ∙ c.if-shows.false) c.push.ensures
