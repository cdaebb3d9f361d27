-- The Brier score is the mean squared difference of outcome and announced rate, obligor by obligor.
use Prim.Native.Nat.{ℕ, zero, suc, ◌+◌, ◌-◌, ◌*◌, ◌≤◌}
use mathlib.Core.Path.{◌≡◌, refl}
use mathlib.Core.List.{List, [], ◌∷◌, ◌++◌}
use native.Mathlib.Omega.{arith}
use lib.ListN.{length, length-append, length-replicate, replicate}
use Rattle.table.specs.Table.{Table, Every, Counted, Rated, survivors, obligors_in}
use Rattle.pooling.specs.Fraction.{Equal, ratio}
use Rattle.pooling.proofs.Scaled.{Over, over-nought, over-sum, over-difference, over-square, over_same, equal, over_own, over-ratio, over-product}
use Rattle.measures.specs.Brier.{brier_sum, brier_of}
use Rattle.measures.specs.Published.{value, Outcome, outcomes, squared_difference, squared_differences, mean_squared_difference}

-- A difference of (a - b) / 1,000,000, where a or b is 0.
one : (o : Outcome) (a b : ℕ) → 1_000_000 * o.defaulted + b ≡ a + o.announced → b * a ≡ 0
    → Over 1_000_000_000_000 0 (squared_difference o) (a * a + b * b)
one o a b e z =
    let outcome : Over 1_000_000 0 (ratio o.defaulted 1) (1_000_000 * o.defaulted) = over-ratio o.defaulted 1 (omega arith) in
    let off = over_same (over-difference outcome (over_own o.announced 1_000_000)) b a (omega arith) in
    over_same (over-square off) 0 (a * a + b * b) (omega arith)

-- So many like outcomes, before others.
alike : (o : Outcome) (e : ℕ) → Over 1_000_000_000_000 0 (squared_difference o) e → (k : ℕ) (l : List Outcome) (a : ℕ)
    → Over 1_000_000_000_000 0 (squared_differences l) a → Over 1_000_000_000_000 0 (squared_differences (replicate k o ++ l)) (k * e + a)
unfolding squared_differences
alike o e h zero l a r = over_same r 0 (zero * e + a) (omega arith)
alike o e h (suc k) l a r = over_same (over-sum h (alike o e h k l a r)) 0 (suc k * e + a) (omega arith)

outcomes-over : (t : Table) → Every Rated t → Over 1_000_000_000_000 0 (squared_differences (outcomes t)) (brier_sum t)
unfolding outcomes squared_differences brier_sum
outcomes-over [] h = over-nought 1_000_000_000_000
outcomes-over (r ∷ t) h =
    let p = r.announced in
    let defaulted = one (record { defaulted = 1; announced = p }) (1_000_000 - p) 0 (omega (arith, h.0)) (omega arith) in
    let survived = one (record { defaulted = 0; announced = p }) 0 p (omega arith) (omega arith) in
    over_same (alike _ _ defaulted r.defaults _ _ (alike _ _ survived (survivors r) _ _ (outcomes-over t h.1))) 0 _ (omega arith)

-- Each obligor has one outcome.
pub length-outcomes : (t : Table) → Every Counted t → length (outcomes t) ≡ obligors_in t
unfolding outcomes obligors_in
length-outcomes [] h = refl
length-outcomes (r ∷ t) h = simp (length-append, length-replicate) (omega (arith, length-outcomes t h.1))

pub brier_is_mean : (t : Table) → Every Counted t → Every Rated t → 1 ≤ obligors_in t → Equal (value (brier_of t)) (mean_squared_difference (outcomes t))
unfolding brier_of
brier_is_mean t counted rated some =
    rw (length-outcomes t counted)
    (equal (over_own (brier_sum t) (obligors_in t * 1_000_000_000_000)) (over-product (over_own 1 (obligors_in t)) (outcomes-over t rated))
    (omega arith) (omega arith))
