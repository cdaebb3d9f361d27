-- Each listed limit is that of its band: one test, computed over the whole list.
use Prim.Native.Nat.{ℕ, zero, suc, ◌+◌, ◌<◌}
use mathlib.Core.Path.{◌≡◌, refl}
use mathlib.Core.Bool.{Bool, true, false, cond}
use mathlib.Core.List.{List, [], ◌∷◌}
use native.Mathlib.Nat.{add-zero, zero-add}
use native.Mathlib.Omega.{arith}
use lib.Dec.{T, eqb, eqb→eq}
use lib.ListN.{length, get_or}
use Rattle.table.proofs.Test.{by-test}
use Rattle.pooling.specs.Band.{band_limit}
use Rattle.pooling.specs.Limits.{listed_limits}
use Rattle.pooling.specs.Claims.{ListedLimitsAreRight}

-- The test: the numbers are the limits of the bands from b on.
unfoldable are_limits : ℕ → List ℕ → Bool
are_limits b [] = true
are_limits b (x ∷ xs) = cond (eqb x (band_limit b)) (are_limits (suc b) xs) false

-- What it says of the first of them, and of the others.
first_and_others : (b x : ℕ) (xs : List ℕ) → T (are_limits b (x ∷ xs)) → (x ≡ band_limit b) × T (are_limits (suc b) xs)
unfolding are_limits
first_and_others b x xs =
    by-test (λ y. T y → (x ≡ band_limit b) × T (are_limits (suc b) xs)) (eqb x (band_limit b))
    (λ same others. (eqb→eq _ _ same, others))
    (λ _ none. absurd none)

-- The entry k of numbers that pass.
limit_at : (b : ℕ) (xs : List ℕ) → T (are_limits b xs) → (k : ℕ) → k < length xs → get_or xs k 0 ≡ band_limit (b + k)
limit_at b [] h k l = absurd (omega arith)
limit_at b (x ∷ xs) h zero l = rw add-zero (first_and_others b x xs h).0
limit_at b (x ∷ xs) h (suc k) l =
    let same : suc b + k ≡ b + suc k = omega arith in
    rw same at (limit_at (suc b) xs (first_and_others b x xs h).1 k (omega arith))

pub limits_right : ListedLimitsAreRight
unfolding listed_limits are_limits
limits_right = (refl, λ b l. rw zero-add at (limit_at 0 listed_limits tt b l))
