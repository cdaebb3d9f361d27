-- The published definitions that the measures are held to, in fractions.
use Rattle.std.specs.Prelude.{ℕ, zero, suc, ◌+◌, Bool, List, [], ◌∷◌, ◌++◌, ℤ, pos, negsuc, nat_abs, length, replicate}
use Rattle.std.proofs.Math.IntN.{sub_ℕ}
use Rattle.table.specs.Table.{Table, survivors, defaults_in, survivors_in, obligors_in}
use Rattle.pooling.specs.Fraction.{Fraction, nought, ratio, sum, difference, square, product}
use Rattle.cutoff.specs.Cutoff.{caught, lost}
use Rattle.measures.specs.Pairs.{number, obligors_of_lem, Pair, pairs_among}
use Rattle.measures.specs.declared.Fraction.{Fraction as Measured}

-- The value of a fraction that the code returns.

abbrev pub value : Measured ℕ → Fraction
value x = ratio x.numerator x.denominator

abbrev pub over : ℤ → ℕ → Fraction
over (pos n) d = record { plus = n; minus = 0; over = d }
over (negsuc n) d = record { plus = 0; minus = suc n; over = d }

abbrev pub signed_value : Measured ℤ → Fraction
signed_value x = over x.numerator x.denominator

-- Curves (document 000, chapter 2): a point for each cutoff, from none to all grades turned away.

-- the shares of the defaults, of the survivors and of all obligors that cutoff g turns away
abbrev pub default_share : Table → ℕ → Fraction
default_share t g = ratio (caught t g) (defaults_in t)

abbrev pub survivor_share : Table → ℕ → Fraction
survivor_share t g = ratio (lost t g) (survivors_in t)

abbrev pub obligor_share : Table → ℕ → Fraction
obligor_share t g = ratio (caught t g + lost t g) (obligors_in t)

-- The area under the points (x 0, y 0), .., (x k, y k), by trapezoids between neighbours.
unfoldable pub area_under : (ℕ → Fraction) → (ℕ → Fraction) → ℕ → Fraction
area_under x y zero = nought
area_under x y (suc k) =
    sum (area_under x y k) (product (difference (x (suc k)) (x k)) (product (ratio 1 2) (sum (y k) (y (suc k)))))

-- the area under the receiver operating characteristic, and under the cumulative accuracy profile
abbrev pub roc_area : Table → Fraction
roc_area t = area_under (survivor_share t) (default_share t) (length t)

abbrev pub cap_area : Table → Fraction
cap_area t = area_under (obligor_share t) (default_share t) (length t)

-- Document 000, (2.6): the probability that a pair of a defaulted and a surviving obligor passes a test, each pair being as likely.
abbrev pub probability : (Pair → Bool) → Table → Fraction
probability test t = ratio (number test (pairs_among (obligors_of_lem t))) (length (pairs_among (obligors_of_lem t)))

-- Document 004: the vertical distance of the two shares at cutoff g.
abbrev pub vertical_distance : Table → ℕ → Fraction
vertical_distance t g = difference (default_share t g) (survivor_share t g)

-- The absolute size of a fraction. Document 000, definition 2.3.4: the Pietra index is the largest one that the difference of the shares has.
unfoldable pub absolute : Fraction → Fraction
absolute x = ratio (nat_abs (sub_ℕ x.plus x.minus)) x.over

-- The Brier score: each obligor's outcome, 1 for a default, against the rate announced for its grade.
pub record Outcome : Type 0 where
  pub defaulted : ℕ
  pub announced : ℕ

unfoldable pub outcomes : Table → List Outcome
outcomes [] = []
outcomes (r ∷ t) =
    replicate r.defaults (record { defaulted = 1; announced = r.announced })
    ++ (replicate (survivors r) (record { defaulted = 0; announced = r.announced }) ++ outcomes t)

-- the squared difference of an outcome and the rate announced for it
abbrev pub squared_difference : Outcome → Fraction
squared_difference o = square (difference (ratio o.defaulted 1) (ratio o.announced 1_000_000))

unfoldable pub squared_differences : List Outcome → Fraction
squared_differences [] = nought
squared_differences (o ∷ l) = sum (squared_difference o) (squared_differences l)

-- their mean: the sum over the number of obligors
abbrev pub mean_squared_difference : List Outcome → Fraction
mean_squared_difference l = product (ratio 1 (length l)) (squared_differences l)
