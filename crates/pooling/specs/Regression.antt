-- Monotone regression (document 001, definition 6.1): default rates that never fall from a grade to the next worse one, and their
-- obligor-weighted squared error.
use Rattle.std.specs.Prelude.{◌≡◌, List, [], ◌∷◌, ◌++◌, length, replicate}
use Rattle.table.specs.Table.{Table, Every}
use Rattle.pooling.specs.Pool.{Block, pool}
use Rattle.pooling.specs.Fraction.{Fraction, Proper, AtMost, Equal, nought, ratio, sum, difference, square, times}

-- Each fraction is at most the next.
unfoldable pub NeverFall : List Fraction → Type 0
NeverFall [] = Unit {0}
NeverFall (x ∷ []) = Unit {0}
NeverFall (x ∷ y ∷ q) = AtMost x y × NeverFall (y ∷ q)

-- Two lists are equal by value, entry by entry.
unfoldable pub AllEqual : List Fraction → List Fraction → Type 0
AllEqual [] [] = Unit {0}
AllEqual [] (y ∷ q) = ⊥
AllEqual (x ∷ p) [] = ⊥
AllEqual (x ∷ p) (y ∷ q) = Equal x y × AllEqual p q

-- q is monotone over t: a rate for each grade, none below that of the grade before.
pub record Monotone (t : Table) (q : List Fraction) : Type 0 where
  pub sized : length q ≡ length t
  pub proper : Every Proper q
  pub climb : NeverFall q

-- The squared distance of two lists of rates, each grade weighted by its obligors: the sum of n (x - y)².
unfoldable pub distance : Table → List Fraction → List Fraction → Fraction
distance [] p q = nought
distance (r ∷ t) [] q = nought
distance (r ∷ t) (x ∷ p) [] = nought
distance (r ∷ t) (x ∷ p) (y ∷ q) = sum (times r.obligors (square (difference x y))) (distance t p q)

-- The observed rates: d / n of each grade.
unfoldable pub rates : Table → List Fraction
rates [] = []
rates (r ∷ t) = ratio r.defaults r.obligors ∷ rates t

-- The squared error of q: its distance from the observed rates.
abbrev pub error : Table → List Fraction → Fraction
error t q = distance t (rates t) q

-- p is the monotone regression of t: it is monotone, no monotone q has a smaller squared error, and none but p has as small a one.
pub record IsRegression (t : Table) (p : List Fraction) : Type 0 where
  pub monotone : Monotone t p
  pub least : (q : List Fraction) → Monotone t q → AtMost (error t p) (error t q)
  pub unique : (q : List Fraction) → Monotone t q → AtMost (error t q) (error t p) → AllEqual p q

-- the rate of a block
abbrev pub rate_of : Block → Fraction
rate_of b = ratio b.defaults b.obligors.0

-- Each grade of a block gets the block's rate.
unfoldable pub rates_in : List Block → List Fraction
rates_in [] = []
rates_in (b ∷ bs) = replicate b.grades (rate_of b) ++ rates_in bs

-- The pooled rates, one for each grade of t.
abbrev pub pooled_rates : Table → List Fraction
pooled_rates t = rates_in (pool t)
