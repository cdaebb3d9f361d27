-- The band of a default rate: the smallest b from 0 to 13 with a rate of at most 100 times 2^b ppm, or 14.
use Rattle.std.specs.Prelude.{ℕ, zero, suc, ◌*◌, ◌^◌, ◌≤◌, ◌<◌, cond, leb}
use Rattle.pooling.specs.Pool.{Block}

-- the limit of band b, in ppm
abbrev pub band_limit : ℕ → ℕ
band_limit b = 100 * 2 ^ b

-- The rate of a block is at most so many ppm: compared without rounding.
abbrev pub RateWithin : Block → ℕ → Type 0
RateWithin x ppm = x.defaults * 1_000_000 ≤ ppm * x.obligors.0

-- the first of the k bands from b on that holds the rate of x, or b + k
unfoldable pub band_from : Block → ℕ → ℕ → ℕ
band_from x b zero = b
band_from x b (suc k) = cond (leb (x.defaults * 1_000_000) (band_limit b * x.obligors.0)) b (band_from x (suc b) k)

abbrev pub band_of : Block → ℕ
band_of x = band_from x 0 14

-- What a band is.
pub record IsBand (x : Block) (b : ℕ) : Type 0 where
  pub within : b ≤ 14
  pub holds : b < 14 → RateWithin x (band_limit b)
  pub smallest : (a : ℕ) → a < b → RateWithin x (band_limit a) → ⊥
