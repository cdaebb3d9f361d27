-- What pool writes: three numbers a grade, in which the pooled rates stand at the occupied ones, and behind them what stood there before.
use Prim.Native.Nat.{ℕ, zero, suc, ◌+◌, ◌*◌, ◌≤◌}
use mathlib.Core.Path.{◌≡◌, refl, sym, ap, ◌∙◌}
use mathlib.Core.List.{List, [], ◌∷◌, ◌++◌, append_assoc}
use native.Mathlib.Nat.{zero-add}
use native.Mathlib.Omega.{arith}
use lib.ListN.{length, drop, replicate, length-append, length-drop}
use lib.Seq.{drop_at}
use Rattle.table.specs.Table.{Table, Every, Occupied, occupied}
use Rattle.table.proofs.Occupied.{none_empty}
use Rattle.pooling.specs.Pool.{Block, pool, blocks}
use Rattle.pooling.specs.Regression.{rate_of, rates_in, pooled_rates}
use Rattle.pooling.specs.Numbers.{grades_of_lem, numbers_of_lem, own_numbers, pooled_numbers, pooled_into, numbers_at_occupied, rates_written, rates_at_occupied}
use Rattle.pooling.specs.Private.{spanning, sum_of}
use Rattle.pooling.proofs.Joined.{grades_count}
use Rattle.pooling.proofs.Spanning.{spanning-numbers}
use Rattle.pooling.proofs.Repeating.{length_pooled_numbers, numbers-at-occupied, all_own}

-- The rates.

rates_of : (x : Block) (k m : ℕ) (rest : List ℕ) → rates_written (k + m) (grades_of_lem x k rest) ≡ replicate k (rate_of x) ++ rates_written m rest
unfolding grades_of_lem rates_written
rates_of x zero m rest = rw zero-add
rates_of x (suc k) m rest = let e : suc k + m ≡ suc (k + m) = omega arith in rw (e, rates_of x k m rest)

rates-in : (bs : List Block) (rest : List ℕ) → rates_written (sum_of bs).grades (numbers_of_lem bs rest) ≡ rates_in bs
unfolding sum_of numbers_of_lem rates_in rates_written
rates-in [] rest = refl
rates-in (b ∷ bs) rest = rates_of b b.grades (sum_of bs).grades (numbers_of_lem bs rest) ∙ rw (rates-in bs rest)

-- The numbers.

grades_rest : (x : Block) (k : ℕ) (rest : List ℕ) → grades_of_lem x k rest ≡ grades_of_lem x k [] ++ rest
unfolding grades_of_lem
grades_rest x zero rest = refl
grades_rest x (suc k) rest = rw (grades_rest x k rest)

numbers_rest : (bs : List Block) (rest : List ℕ) → numbers_of_lem bs rest ≡ numbers_of_lem bs [] ++ rest
unfolding numbers_of_lem
numbers_rest [] rest = refl
numbers_rest (b ∷ bs) rest =
    grades_rest b b.grades (numbers_of_lem bs rest)
    ∙ rw (numbers_rest bs rest, grades_rest b b.grades (numbers_of_lem bs []), append_assoc)

-- Those of the blocks that the code makes, and then the further ones, are what pool writes.
pub spanning_written : (t : Table) → 1 ≤ length (occupied t) → (out : List ℕ) → numbers_of_lem (spanning t) (drop (3 * length t) out) ≡ pooled_into t out
spanning_written t some out =
    let rest = drop (3 * length t) out in
    numbers_rest (spanning t) rest ∙ ap (λ (l : List ℕ). l ++ rest) (spanning-numbers t some)

length_grades : (x : Block) (k : ℕ) (rest : List ℕ) → length (grades_of_lem x k rest) ≡ 3 * k + length rest
unfolding grades_of_lem
length_grades x zero rest = omega arith
length_grades x (suc k) rest = omega (arith, length_grades x k rest)

length-numbers : (bs : List Block) → length (numbers_of_lem bs []) ≡ 3 * (sum_of bs).grades
unfolding sum_of numbers_of_lem
length-numbers [] = refl
length-numbers (b ∷ bs) = omega (arith, length_grades b b.grades (numbers_of_lem bs []), length-numbers bs)

length_own : (t : Table) → length (own_numbers t) ≡ 3 * length (occupied t)
length_own t = rw (grades_count (occupied t)) at (length-numbers (blocks t))

-- At the occupied grades stand their own, and so their rates.

pub occupied_written : (t : Table) (out : List ℕ) → numbers_at_occupied t (pooled_into t out) ≡ own_numbers t
occupied_written t out = numbers-at-occupied t out (length_own t)

pub rates-written : (t : Table) (out : List ℕ) → rates_at_occupied t (pooled_into t out) ≡ pooled_rates (occupied t)
rates-written t out = rw (occupied_written t out) (rw (grades_count (occupied t)) at (rates-in (blocks t) []))

pub none_empty_written : (t : Table) (out : List ℕ) → Every Occupied t → pooled_into t out ≡ numbers_of_lem (pool t) (drop (3 * length t) out)
none_empty_written t out h =
    let e = none_empty t h in
    let n : length (own_numbers t) ≡ 3 * length t = length_own t ∙ ap (λ (u : Table). 3 * length u) e in
    rw (all_own t h n, e) (sym (numbers_rest (pool t) (drop (3 * length t) out)))

-- A buffer that is long enough stays as long, and is kept from 3 numbers a grade on.

pub length_pooled : (t : Table) (out : List ℕ) → 3 * length t ≤ length out → length (pooled_into t out) ≡ length out
length_pooled t out h = rw (length-append, length_pooled_numbers t, length-drop) (omega arith)

pub drop_pooled : (t : Table) (out : List ℕ) → drop (3 * length t) (pooled_into t out) ≡ drop (3 * length t) out
drop_pooled t out = drop_at (pooled_numbers t) _ (3 * length t) (length_pooled_numbers t)
