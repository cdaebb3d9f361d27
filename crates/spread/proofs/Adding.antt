-- Adding the quotients of the blocks in order: each block adds at most two units of 1 / 2^36 to the error, one of its quotient and one of
-- the sum.
use Prim.Native.Nat.{ℕ, suc, ◌+◌, ◌*◌, ◌^◌, ◌≤◌}
use mathlib.Core.Path.{◌≡◌, refl, sym, ◌∙◌}
use mathlib.Core.List.{List, [], ◌∷◌, ◌++◌, map, map-append, append-nil, append_assoc}
use native.Mathlib.Omega.{arith}
use lib.ListN.{length, length-map, length-append}
use lib.Ieee.{Float, binary64, add, of_bits}
use Rattle.table.specs.Table.{Grade, Every, Occupied, Counted, obligors_in}
use Rattle.table.proofs.Every.{every_split}
use Rattle.table.proofs.Sums.{obligors_append}
use Rattle.pooling.specs.declared.Block.{Block}
use Rattle.pooling.specs.Pool.{as_grade}
use Rattle.pooling.specs.Fraction.{Fraction, nought, ratio, sum}
use Rattle.spread.specs.Near.{Near, Within}
use Rattle.spread.specs.Spread.{residual_of, residual_sum}
use Rattle.spread.proofs.Exact.{IsScale, residual_next, residual_proper, part_at_most}
use Rattle.spread.proofs.Rounding.{value_near}
use Rattle.spread.proofs.Operations.{add_near, near_wider}

-- k units of 1 / 2^36
abbrev units : ℕ → Fraction
units k = ratio k (2 ^ 36)

-- t is the sum so far: the blocks of rest are still to be added.
pub record Added (blocks rest : List Block) (t : Float) : Type 0 where
  pub passed : List Block
  pub split : passed ++ rest ≡ blocks
  pub near : Near t (residual_sum passed) (units (2 * length passed))

-- The next block b, the blocks before it and those behind it.
module _ (passed : List Block) (b : Block) (rest : List Block) (scale : IsScale (passed ++ b ∷ rest)) where
  every_here : (P : Grade → Type 0) → Every P (map as_grade (passed ++ b ∷ rest)) → Every P (map as_grade passed) × P (as_grade b)
  every_here P h =
      let s = every_split P (map as_grade passed) (map as_grade (b ∷ rest)) (rw map-append at h) in
      (s.0, s.1.0)

  next_counts : Occupied (as_grade b) × Counted (as_grade b) × (b.obligors.0 ≤ 1_000_000)
  unfolding obligors_in
  next_counts = (
    (every_here Occupied scale.1).1,
    (every_here Counted scale.0.counted).1,
    omega (arith, rw (map-append, obligors_append) at scale.0.total),
  )

  next_near : (t q : Float) → Near t (residual_sum passed) (units (2 * length passed)) → Near q (residual_of b) (units 1)
      → Near (add binary64 t q) (residual_sum (passed ++ b ∷ [])) (units (2 * length (passed ++ b ∷ [])))
  unfolding ratio
  next_near t q near quotient =
      let p = residual_sum passed in
      let k = length passed in
      let few : k ≤ 40 = omega (arith, rw (length-map, length-append) at scale.0.few) in
      let P = residual_proper passed (every_here Occupied scale.1).0 in
      let B = (every_here Occupied scale.1).1 in
      let most = rw residual_next at (part_at_most (passed ++ b ∷ []) rest (rw append_assoc scale)) in
      let longer : length (passed ++ b ∷ []) ≡ suc k = rw length-append (omega arith) in
      let twice : 1 + (2 * k + 1) ≡ 2 * suc k = omega arith in
      rw (residual_next, longer, ← twice)
      (add_near binary64 18 36 refl 250_000 (2 * k) 1 t q p (residual_of b) near quotient P B most (omega arith) (omega arith))

module _ (blocks : List Block) (scale : IsScale blocks) where
  pub start : Added blocks blocks (of_bits binary64 0)
  unfolding residual_sum nought ratio sum of_bits
  start = record {
    passed = [];
    split = refl;
    near = value_near _ 0 1 (omega arith) (omega arith) (refl, refl) (record { over = omega arith; under = omega arith });
  }

  module _ (b : Block) (rest : List Block) (t : Float) (a : Added blocks (b ∷ rest) t) where
    pub counts : Occupied (as_grade b) × Counted (as_grade b) × (b.obligors.0 ≤ 1_000_000)
    counts = next_counts a.passed b rest (rw a.split scale)

    pub step : (q : Float) → Near q (residual_of b) (units 1) → Added blocks rest (add binary64 t q)
    step q near = record {
      passed = a.passed ++ b ∷ [];
      split = rw append_assoc a.split;
      near = next_near a.passed b rest (rw a.split scale) t q a.near near;
    }

  pub finish : (t : Float) → Added blocks [] t → Within t (residual_sum blocks) 29
  unfolding ratio
  finish t a =
      let all : a.passed ≡ blocks = sym (append-nil a.passed) ∙ a.split in
      let few : length blocks ≤ 40 = rw length-map at scale.0.few in
      near_wider t (ratio 1 (2 ^ 29)) (residual_proper blocks scale.1) (omega arith) (omega arith) (rw all at a.near)
