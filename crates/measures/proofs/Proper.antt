-- The fractions that the measures are compared with are proper.
use Prim.Native.Nat.{ℕ, zero, suc, ◌≤◌}
use mathlib.Core.List.{List, [], ◌∷◌}
use native.Mathlib.Nat.{mul-pos}
use native.Mathlib.Omega.{arith}
use lib.IntN.{ℤ, pos, negsuc}
use Rattle.table.specs.Table.{Table, Every, Counted, Mixed, obligors_in}
use Rattle.table.proofs.Sums.{obligors_split}
use Rattle.pooling.specs.Fraction.{Fraction, Proper, nought, ratio, sum, difference, square, product}
use Rattle.measures.specs.Brier.{brier_of}
use Rattle.measures.specs.Measures.{pairs, measures_of}
use Rattle.measures.specs.Published.{value, over, absolute, area_under, Outcome, outcomes, squared_differences, mean_squared_difference}
use Rattle.measures.specs.Claims.{ProperMeasures}
use Rattle.measures.proofs.Counted.{pairs_are_counted}
use Rattle.measures.proofs.Outcomes.{length-outcomes}

signed_proper : (z : ℤ) {d : ℕ} → 1 ≤ d → Proper (over z d)
signed_proper (pos n) h = h
signed_proper (negsuc n) h = h

area_proper : (x y : ℕ → Fraction) → ((g : ℕ) → Proper (x g)) → ((g : ℕ) → Proper (y g)) → (k : ℕ) → Proper (area_under x y k)
unfolding area_under nought ratio sum difference product
area_proper x y X Y zero = omega arith
area_proper x y X Y (suc k) =
    mul-pos (area_proper x y X Y k) (mul-pos (mul-pos (X (suc k)) (X k)) (omega (arith, mul-pos (Y k) (Y (suc k)))))

pub measures_proper : (t : Table) → Mixed t → ProperMeasures t
unfolding measures_of ratio difference absolute
measures_proper t mixed =
    let d = mixed.defaulted in
    let s = mixed.survived in
    let n : 1 ≤ obligors_in t = omega (arith, obligors_split t mixed.counted) in
    let some : 1 ≤ pairs t = mul-pos d s in
    record {
      gini = signed_proper (measures_of t).gini.numerator some;
      roc = omega (arith, some);
      cap = omega (arith, mul-pos d n);
      pietra = signed_proper (measures_of t).pietra.numerator some;
      roc-area = area_proper _ _ (λ _. s) (λ _. d) _;
      cap-area = area_proper _ _ (λ _. n) (λ _. d) _;
      default_rate = n;
      probabilities = λ _. omega (arith, some, pairs_are_counted t);
      distances = λ _. some;
      pietra_size = signed_proper (measures_of t).pietra.numerator some;
      distance_sizes = λ _. some;
    }

squares_proper : (l : List Outcome) → Proper (squared_differences l)
unfolding squared_differences nought ratio sum difference square
squares_proper [] = omega arith
squares_proper (o ∷ l) = omega (arith, squares_proper l)

pub brier_proper : (t : Table) → Every Counted t → 1 ≤ obligors_in t → Proper (value (brier_of t)) × Proper (mean_squared_difference (outcomes t))
unfolding brier_of ratio product
brier_proper t counted some = (omega (arith, some), mul-pos (omega (arith, some, length-outcomes t counted)) (squares_proper (outcomes t)))
