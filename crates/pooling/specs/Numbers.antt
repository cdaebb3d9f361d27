-- What pool writes: three numbers a grade, block defaults, block obligors and band; for an empty grade, those of an occupied one.
use Rattle.std.specs.Prelude.{ℕ, zero, suc, ◌*◌, cond, List, [], ◌∷◌, ◌++◌, length, get_or, drop}
use Rattle.table.specs.Table.{Table, is_occupied, occupied}
use Rattle.pooling.specs.Pool.{Block, blocks}
use Rattle.pooling.specs.Band.{band_of}
use Rattle.pooling.specs.Fraction.{Fraction, ratio}

-- the numbers of k grades of block x, and then rest
unfoldable pub grades_of_lem : Block → ℕ → List ℕ → List ℕ
grades_of_lem x zero rest = rest
grades_of_lem x (suc k) rest = x.defaults ∷ x.obligors.0 ∷ band_of x ∷ grades_of_lem x k rest

-- the numbers of each grade of each block, and then rest
unfoldable pub numbers_of_lem : List Block → List ℕ → List ℕ
numbers_of_lem [] rest = rest
numbers_of_lem (x ∷ bs) rest = grades_of_lem x x.grades (numbers_of_lem bs rest)

-- the first three of some numbers
abbrev pub three : List ℕ → List ℕ
three out = get_or out 0 0 ∷ get_or out 1 0 ∷ get_or out 2 0 ∷ []

-- the numbers of the occupied grades of t
abbrev pub own_numbers : Table → List ℕ
own_numbers t = numbers_of_lem (blocks t) []

-- "Pool repeats for [an empty grade] the three numbers of the next better occupied grade": each grade has the next three of `own`, where
-- it is occupied, and else those of the last grade that was, `better`.
unfoldable pub repeating : List ℕ → List ℕ → Table → List ℕ
repeating better own [] = []
repeating better own (r ∷ t) =
    cond (is_occupied r) (three own ++ repeating (three own) (drop 3 own) t) (better ++ repeating better own t)

-- "Or of the best occupied grade if none is better": its three stand first.
unfoldable pub pooled_numbers : Table → List ℕ
pooled_numbers t = repeating (three (own_numbers t)) (own_numbers t) t

-- A lent buffer after pooling t: 3 numbers a grade, and what stood behind them.
abbrev pub pooled_into : Table → List ℕ → List ℕ
pooled_into t out = pooled_numbers t ++ drop (3 * length t) out

-- the numbers that stand in a buffer for the occupied grades of t
unfoldable pub numbers_at_occupied : Table → List ℕ → List ℕ
numbers_at_occupied [] out = []
numbers_at_occupied (r ∷ t) out =
    cond (is_occupied r) (three out ++ numbers_at_occupied t (drop 3 out)) (numbers_at_occupied t (drop 3 out))

-- The rates of k grades as their numbers say: block defaults / block obligors.
unfoldable pub rates_written : ℕ → List ℕ → List Fraction
rates_written zero out = []
rates_written (suc k) out = ratio (get_or out 0 0) (get_or out 1 0) ∷ rates_written k (drop 3 out)

-- those of the occupied grades of t
abbrev pub rates_at_occupied : Table → List ℕ → List Fraction
rates_at_occupied t out = rates_written (length (occupied t)) (numbers_at_occupied t out)
