-- `write_blocks` meets its contract.
use Prim.Native.Nat.{ℕ, ◌-◌, ◌*◌, ◌≤◌}
use mathlib.Core.Path.{◌≡◌, refl, sym, ap, ◌∙◌}
use mathlib.Core.List.{List, [], ◌∷◌, ◌++◌, append-nil}
use native.Mathlib.Omega.{arith}
use lib.ListN.{length, take, drop, take-append-drop}
use lib.Seq.{append_snoc}
use Rattle.pooling.specs.Pool.{Block, Rising}
use Rattle.pooling.specs.Private.{sum_of}
use Rattle.pooling.specs.Band.{band_of}
use Rattle.pooling.specs.Limits.{listed_limits}
use Rattle.pooling.specs.Numbers.{grades_of_lem, numbers_of_lem}
use Rattle.pooling.proofs.Front.{rising_at}
use Rattle.pooling.proofs.Bands.{band_right, bands_rise}
use Rattle.pooling.proofs.Joined.{grades_behind}
use Rattle.pooling.proofs.Backwards.{put_more}
use Rattle.pooling.proofs.write_blocks.Invariants.{Written}
use Rattle.pooling.proofs.write_blocks.Goals as goal

-- What a turn knows: the last block x of those that are left comes before those that were passed.
module _ {bs left : List Block} {out₀ out : List ℕ} {end₀ end band : ℕ} (inv : Written bs left out₀ out end₀ end band)
    (others : List Block) (x : Block) (next : left ≡ others ++ x ∷ []) where
  all : bs ≡ others ++ x ∷ inv.passed
  all = inv.all ∙ ap (λ (l : List Block). l ++ inv.passed) next ∙ append_snoc others x inv.passed

  -- It has no more grades than are left.
  fewer : 3 * (sum_of bs).grades ≡ end₀ → 3 * x.grades ≤ end
  unfolding sum_of
  fewer e = omega (arith, inv.count, ap (λ (l : List Block). (sum_of l).grades) all, grades_behind others (x ∷ inv.passed))

  -- What stands once it is written.
  written : Rising bs → 3 * (sum_of bs).grades ≡ end₀ → end₀ ≤ length out₀ → (new : List ℕ) → length new ≡ length out
      → new ≡ take (end - 3 * x.grades) out ++ grades_of_lem x x.grades (drop end out)
      → Written bs others out₀ new end₀ (end - 3 * x.grades) (band_of x)
  unfolding numbers_of_lem sum_of
  written rising e room new long put =
      record {
        passed = x ∷ inv.passed;
        all = all;
        few = (band_right x).within;
        most = λ before y f.
            bands_rise y x (rising_at before y x inv.passed (rw (all, f, append_snoc before y (x ∷ inv.passed)) at rising));
        long = long ∙ inv.long;
        count = omega (arith, inv.count, fewer e);
        same =
            put
            ∙ put_more out₀ _ out end (end - 3 * x.grades) (grades_of_lem x x.grades) inv.same (omega arith) (omega (arith, inv.count));
      }

pub loop-x-init : goal.loop-x-init
unfolding numbers_of_lem sum_of
loop-x-init c =
    let left : c.into_iter-x-iterator.result.iter.rest.now ≡ c.args.blocks.now = cc in (
      tt,
      tt,
      record {
        passed = [];
        all = rw left (sym (append-nil c.args.blocks.now));
        few = omega arith;
        most = λ _ x _. (band_right x).within;
        long = refl;
        count = omega arith;
        same = rw take-append-drop;
      },
    )

-- The constant has the listed limits.
pub band-band-requires-clause-limits : goal.band-band-requires-clause-limits
unfolding listed_limits
band-band-requires-clause-limits c = refl

pub write_block-requires-clause-room : goal.write_block-requires-clause-room
write_block-requires-clause-room c =
    let inv = c.loop-x.invariant.2 in
    let room = c.requires.room in
    (fewer inv _ _ c.in-Some.ensures.steps (omega arith), omega (arith, inv.count, inv.long))

pub overflow_sub-end : goal.overflow_sub-end
overflow_sub-end c = let room = c.requires.room in fewer c.loop-x.invariant.2 _ _ c.in-Some.ensures.steps (omega arith)

pub loop-x-preserved : goal.loop-x-preserved
loop-x-preserved c =
    let room = c.requires.room in (
      tt,
      tt,
      rw c.band-band.ensures
          (written c.loop-x.invariant.2 _ _ c.in-Some.ensures.steps c.requires.rising (omega arith) (omega arith) _ c.write_block.auto.out c.write_block.ensures),
    )
