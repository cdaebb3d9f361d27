-- The lead of a cutoff of one scale over a cutoff of another: what it is once one of them turns a block more away, how leads compare at
-- prices, and that all of this fits in 64 bits.
use Prim.Native.Nat.{ℕ, ◌+◌, ◌-◌, ◌*◌, ◌≤◌}
use mathlib.Core.Path.{◌≡◌}
use native.Mathlib.Nat.{mul-le-mul_left}
use native.Mathlib.Omega.{arith}
use lib.Dec.{ltb}
use lib.IntN.{ℤ, pos, sub_ℕ, ◌+ℤ◌, ◌-ℤ◌, ◌*ℤ◌}
use lib.Signed.{lt_z}
use mir.Syntax.{w64}
use mir.Val.{SFits, to_z, of_z}
use mir.ValLaws.{to_z-of_z}
use Rattle.table.specs.Table.{Table, survivors, defaults_in, survivors_in}
use Rattle.table.proofs.Signed.{count_back, size-of, size_fits, plus_pos, minus_pos, times_sub, sub_order}
use Rattle.cutoff.specs.declared.Counts.{Counts}
use Rattle.cutoff.specs.declared.Lead.{Lead}
use Rattle.cutoff.specs.declared.Weights.{Weights}
use Rattle.cutoff.specs.Sweep.{most_pairs, counts_in, Few, FitsSigned, ahead, behind, caught_after, lost_after, Leads, SmallIn}
use Rattle.cutoff.proofs.Cost.{drop_le}
use Rattle.cutoff.proofs.Held.{grade_before, Next}

-- Numbers that fit, as the machine holds them.

pub fits_as : {y z : ℤ} → y ≡ z → FitsSigned z → SFits w64 y
fits_as {y} {z} e h = rw e (size_fits z (omega arith))

pub fitting_back : (z : ℤ) → FitsSigned z → to_z w64 (of_z w64 z) ≡ z
fitting_back z h = to_z-of_z w64 z (size_fits z (omega arith))

-- A number of a lead and a count, as the machine computes with them.
module _ (z : ℤ) (n : ℕ) (fits : SFits w64 z) (few : n ≤ 100_000_000_000) where
  pub sum_back : to_z w64 (of_z w64 z) +ℤ to_z w64 n ≡ z +ℤ pos n
  sum_back = rw (to_z-of_z w64 z fits, count_back n (omega arith))

  pub difference_back : to_z w64 (of_z w64 z) -ℤ to_z w64 n ≡ z -ℤ pos n
  difference_back = rw (to_z-of_z w64 z fits, count_back n (omega arith))

  pub product_back : to_z w64 n *ℤ to_z w64 (of_z w64 z) ≡ pos n *ℤ z
  product_back = rw (to_z-of_z w64 z fits, count_back n (omega arith))

sub_fits : (a b : ℕ) → a ≤ most_pairs → b ≤ most_pairs → FitsSigned (sub_ℕ a b)
sub_fits a b h k = omega (arith, size-of a b)

-- All that a scale counts is few.
abbrev pub FewIn : Weights → Table → Type 0
FewIn w t = (w.defaults * defaults_in t ≤ 100_000_000_000) × (w.survivors.0 * survivors_in t ≤ 100_000_000_000)

-- So is what its worst blocks count.
pub few_worst : (w : Weights) (t : Table) (k : ℕ) → FewIn w t
    → (caught_after w t k ≤ 100_000_000_000) × (lost_after w t k ≤ 100_000_000_000)
few_worst w t k few =
    let l = drop_le t k in
    (omega (arith, few, mul-le-mul_left w.defaults l.0), omega (arith, few, mul-le-mul_left w.survivors.0 l.1))

-- The next better block, and what the worst blocks count with it.
module _ (w : Weights) {t : Table} {k : ℕ} (n : Next t k) where
  pub with_next : (caught_after w t (k - 1) ≡ caught_after w t k + w.defaults * (grade_before t k).defaults)
      × (lost_after w t (k - 1) ≡ lost_after w t k + w.survivors.0 * survivors (grade_before t k))
  unfolding defaults_in survivors_in
  with_next = rw n.down (omega arith, omega arith)

  pub few_next : FewIn w t → Few (counts_in w (grade_before t k))
  few_next few = let l = few_worst w t (k - 1) few in (omega (arith, l, with_next), omega (arith, l, with_next))

module _ {w : Weights} {t : Table} {k y x : ℕ} {l : Lead} (is : Leads w t k y x l) where
  -- One more block of t is turned away,
  module _ (n : Next t k) where
    ahead_defaults : l.defaults +ℤ pos (w.defaults * (grade_before t k).defaults) ≡ sub_ℕ (caught_after w t (k - 1)) y
    ahead_defaults = rw (is.defaults, (with_next w n).0) (plus_pos (caught_after w t k) y (w.defaults * (grade_before t k).defaults))

    ahead-survivors : l.survivors +ℤ pos (w.survivors.0 * survivors (grade_before t k)) ≡ sub_ℕ (lost_after w t (k - 1)) x
    ahead-survivors = rw (is.survivors, (with_next w n).1) (plus_pos (lost_after w t k) x (w.survivors.0 * survivors (grade_before t k)))

    pub goes_ahead : {r : Lead} → r ≡ ahead l (counts_in w (grade_before t k)) → Leads w t (k - 1) y x r
    goes_ahead e = rw e record { accepted = omega (arith, is.accepted); defaults = ahead_defaults; survivors = ahead-survivors }

    pub ahead_fits : FewIn w t → y ≤ 100_000_000_000 → x ≤ 100_000_000_000
        → FitsSigned (l.defaults +ℤ pos (w.defaults * (grade_before t k).defaults))
        × FitsSigned (l.survivors +ℤ pos (w.survivors.0 * survivors (grade_before t k)))
    ahead_fits few few-y few-x =
        let f = few_worst w t (k - 1) few in (
          rw ahead_defaults (sub_fits (caught_after w t (k - 1)) y (omega (arith, f)) (omega arith)),
          rw ahead-survivors (sub_fits (lost_after w t (k - 1)) x (omega (arith, f)) (omega arith)),
        )

  -- or of the other scale.
  module _ (c : Counts) where
    behind_defaults : l.defaults -ℤ pos c.defaults ≡ sub_ℕ (caught_after w t k) (y + c.defaults)
    behind_defaults = rw is.defaults (minus_pos (caught_after w t k) y c.defaults)

    behind-survivors : l.survivors -ℤ pos c.survivors ≡ sub_ℕ (lost_after w t k) (x + c.survivors)
    behind-survivors = rw is.survivors (minus_pos (lost_after w t k) x c.survivors)

    pub falls_behind : {r : Lead} → r ≡ behind l c → Leads w t k (y + c.defaults) (x + c.survivors) r
    falls_behind e = rw e record { accepted = is.accepted; defaults = behind_defaults; survivors = behind-survivors }

    pub behind_fits : FewIn w t → y + c.defaults ≤ 100_000_000_000 → x + c.survivors ≤ 100_000_000_000
        → FitsSigned (l.defaults -ℤ pos c.defaults) × FitsSigned (l.survivors -ℤ pos c.survivors)
    behind_fits few few-y few-x =
        let f = few_worst w t k few in (
          rw behind_defaults (sub_fits (caught_after w t k) (y + c.defaults) (omega (arith, f)) (omega arith)),
          rw behind-survivors (sub_fits (lost_after w t k) (x + c.survivors) (omega (arith, f)) (omega arith)),
        )

    -- What it costs at the break-even prices of a block.

    cost-survivors : pos c.defaults *ℤ l.survivors ≡ sub_ℕ (c.defaults * lost_after w t k) (c.defaults * x)
    cost-survivors = rw is.survivors (times_sub c.defaults (lost_after w t k) x)

    cost_defaults : pos c.survivors *ℤ l.defaults ≡ sub_ℕ (c.survivors * caught_after w t k) (c.survivors * y)
    cost_defaults = rw is.defaults (times_sub c.survivors (caught_after w t k) y)

    pub costs_fit : SmallIn w t c → c.survivors * y ≤ most_pairs → c.defaults * x ≤ most_pairs
        → FitsSigned (pos c.defaults *ℤ l.survivors) × FitsSigned (pos c.survivors *ℤ l.defaults)
    costs_fit small few-y few-x =
        let f = drop_le t k in
        let s = mul-le-mul_left c.defaults (mul-le-mul_left w.survivors.0 f.1) in
        let d = mul-le-mul_left c.survivors (mul-le-mul_left w.defaults f.0) in (
          rw cost-survivors (sub_fits (c.defaults * lost_after w t k) (c.defaults * x) (omega (arith, small.0, s)) few-x),
          rw cost_defaults (sub_fits (c.survivors * caught_after w t k) (c.survivors * y) (omega (arith, small.1, d)) few-y),
        )

    pub costs_compare : lt_z (pos c.defaults *ℤ l.survivors) (pos c.survivors *ℤ l.defaults)
        ≡ ltb (c.defaults * lost_after w t k + c.survivors * y) (c.survivors * caught_after w t k + c.defaults * x)
    costs_compare =
        rw (cost-survivors, cost_defaults)
        (sub_order (c.defaults * lost_after w t k) (c.defaults * x) (c.survivors * caught_after w t k) (c.survivors * y))
