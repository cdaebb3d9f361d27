-- The band of a block is the smallest that holds its rate, and 14 where none does. Of two rates the lower has no higher band.
use Prim.Native.Nat.{ℕ, zero, suc, ◌+◌, ◌*◌, ◌≤◌, ◌<◌}
use mathlib.Core.Path.{◌≡◌}
use native.Mathlib.Nat.{not-le_of_lt, mul-le-mul_left, mul-le-mul_right, le_of_mul-le-mul_left, pow-le-pow_right}
use native.Mathlib.Decide.{dec_le}
use native.Mathlib.Omega.{arith}
use lib.Dec.{leb, leb→le, nleb→lt}
use Rattle.table.proofs.Arithmetic.{factor_pos}
use Rattle.table.proofs.Test.{by-test}
use Rattle.pooling.specs.Pool.{Block, RateBelow}
use Rattle.pooling.specs.Band.{band_limit, RateWithin, band_from, band_of, IsBand}

-- Band b holds the rate, or the search goes on.
band_cases : (P : ℕ → Type 0) (x : Block) (b k : ℕ)
    → (RateWithin x (band_limit b) → P b) → ((RateWithin x (band_limit b) → ⊥) → P (band_from x (suc b) k)) → P (band_from x b (suc k))
unfolding band_from
band_cases P x b k here on =
    by-test P (leb (x.defaults * 1_000_000) (band_limit b * x.obligors.0)) (λ y. here (leb→le _ _ y)) (λ n. on (not-le_of_lt (nleb→lt _ _ n)))

-- f is the first of the k bands from b on that holds the rate of x, or b + k where none does.
record IsFirst (x : Block) (b k f : ℕ) : Type 0 where
  within : f ≤ b + k
  holds : f < b + k → RateWithin x (band_limit f)
  smallest : (a : ℕ) → b ≤ a → a < f → RateWithin x (band_limit a) → ⊥

band_first : (x : Block) (b k : ℕ) → IsFirst x b k (band_from x b k)
unfolding band_from
band_first x b zero = record { within = omega arith; holds = λ l. absurd (omega arith); smallest = λ a g l h. omega arith }
band_first x b (suc k) =
    let next = band_first x (suc b) k in
    band_cases (IsFirst x b (suc k)) x b k
    (λ y. record { within = omega arith; holds = λ _. y; smallest = λ a g l h. omega arith })
    (λ n. record {
      within = omega (arith, next.within);
      holds = λ l. next.holds (omega arith);
      smallest = λ a g l h.
          elim (dec_le a b) [
            | yes e ↦ let same : a ≡ b = omega arith in n (rw same at h)
            | no e ↦ next.smallest a (omega arith) l h
          ];
    })

pub band_right : (x : Block) → IsBand x (band_of x)
band_right x = let f = band_first x 0 14 in record { within = f.within; holds = f.holds; smallest = λ a l h. f.smallest a (omega arith) l h }

module _ (x : Block) (b : ℕ) where
  -- The limit of b holds the rate.
  pub band_at_most : RateWithin x (band_limit b) → band_of x ≤ b
  band_at_most h = elim (dec_le (band_of x) b) [ yes l ↦ l | no l ↦ absurd ((band_right x).smallest b (omega arith) h) ]

  -- The limit of b is below the rate.
  pub band_above : b < 14 → band_limit b * x.obligors.0 < x.defaults * 1_000_000 → b < band_of x
  band_above l h =
      elim (dec_le (band_of x) b) [
        | yes k ↦
            let w = (band_right x).holds (omega arith) in
            absurd (omega (arith, mul-le-mul_right x.obligors.0 (mul-le-mul_left 100 (pow-le-pow_right {n = 2} (omega arith) k))))
        | no k ↦ omega arith
      ]

-- d of n below e of m, and e of m within a limit
within_below : (d n e m ppm : ℕ) → d * m < e * n → e * 1_000_000 ≤ ppm * m → d * 1_000_000 ≤ ppm * n
within_below d n e zero ppm b h = absurd (omega (arith, factor_pos 0 n e (omega arith)))
within_below d n e (suc m) ppm b h = le_of_mul-le-mul_left {k = suc m} (omega (arith, mul-le-mul_right n h)) (omega arith)

pub bands_rise : (x y : Block) → RateBelow x y → band_of x ≤ band_of y
bands_rise x y below =
    elim (dec_le 14 (band_of y)) [
      | yes h ↦ omega (arith, (band_right x).within)
      | no h ↦ band_at_most x (band_of y) (within_below x.defaults x.obligors.0 _ _ _ below ((band_right y).holds (omega arith)))
    ]
