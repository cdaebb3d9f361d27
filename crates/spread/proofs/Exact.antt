-- The exact residual sum: it goes by the counts of the blocks, adds up over parts of the list, is not negative, and is at most a quarter of
-- the obligors.
use Prim.Native.Nat.{ℕ, ◌+◌, ◌-◌, ◌*◌, ◌≤◌}
use mathlib.Core.Path.{◌≡◌, refl, sym, ap, ◌∙◌}
use mathlib.Core.List.{List, [], ◌∷◌, ◌++◌, map}
use native.Mathlib.Nat.{mul-le-mul_right, mul-pos}
use native.Mathlib.Omega.{arith}
use Rattle.table.specs.Table.{Table, Every, Occupied, Counted, Sound, survivors, obligors_in}
use Rattle.pooling.specs.declared.Block.{Block}
use Rattle.pooling.specs.Pool.{as_grade}
use Rattle.pooling.specs.Fraction.{Fraction, Proper, AtMost, nought, ratio, sum}
use Rattle.spread.specs.Spread.{residual_of, residual_sum}
use Rattle.spread.proofs.Fractions.{sum_comm, sum_assoc, sum-nought, at_most_trans, at_most_more}
use Rattle.spread.proofs.Quarter.{product_le}

-- The blocks, as grades, are a table without empty grades.
abbrev pub IsScale : List Block → Type 0
IsScale bs = Sound (map as_grade bs) × Every Occupied (map as_grade bs)

-- It goes by the counts of the blocks alone.

of_grades : Table → Fraction
of_grades [] = nought
of_grades (r ∷ t) = sum (ratio (r.defaults * survivors r) r.obligors) (of_grades t)

by_grades : (bs : List Block) → residual_sum bs ≡ of_grades (map as_grade bs)
unfolding residual_sum of_grades
by_grades [] = refl
by_grades (b ∷ bs) = rw (by_grades bs)

pub same_residual : (bs cs : List Block) → map as_grade bs ≡ map as_grade cs → residual_sum bs ≡ residual_sum cs
same_residual bs cs e = by_grades bs ∙ ap of_grades e ∙ sym (by_grades cs)

-- Its parts.

residual_append : (bs cs : List Block) → residual_sum (bs ++ cs) ≡ sum (residual_sum bs) (residual_sum cs)
unfolding residual_sum
residual_append [] cs = sym (sum-nought (residual_sum cs))
residual_append (b ∷ bs) cs = rw (residual_append bs cs, sum_assoc)

pub residual_next : (bs : List Block) (b : Block) → residual_sum (bs ++ b ∷ []) ≡ sum (residual_sum bs) (residual_of b)
unfolding residual_sum
residual_next bs b = residual_append bs (b ∷ []) ∙ rw (sum_comm (residual_of b) nought, sum-nought)

pub residual_proper : (bs : List Block) → Every Occupied (map as_grade bs) → Proper (residual_sum bs)
unfolding residual_sum nought sum ratio
residual_proper [] h = omega arith
residual_proper (b ∷ bs) h = mul-pos h.0 (residual_proper bs h.1)

not_negative : (bs : List Block) → AtMost nought (residual_sum bs)
unfolding residual_sum nought sum ratio
not_negative [] = omega arith
not_negative (b ∷ bs) = omega (arith, mul-le-mul_right b.obligors.0 (not_negative bs))

residual_quarter : (bs : List Block) → Every Counted (map as_grade bs) → AtMost (residual_sum bs) (ratio (obligors_in (map as_grade bs)) 4)
unfolding residual_sum nought sum ratio obligors_in
residual_quarter [] h = omega arith
residual_quarter (b ∷ bs) h =
    let all : b.defaults + (b.obligors.0 - b.defaults) ≡ b.obligors.0 = omega arith in
    let here = rw all at (product_le b.defaults (b.obligors.0 - b.defaults) b.obligors.0 (omega arith)) in
    omega (arith, mul-le-mul_right (residual_sum bs).over here, mul-le-mul_right b.obligors.0 (residual_quarter bs h.1))

million : (x : Fraction) (n : ℕ) → n ≤ 1_000_000 → AtMost x (ratio n 4) → AtMost x (ratio 250_000 1)
unfolding ratio
million x n h k = omega (arith, mul-le-mul_right x.over h)

-- A part of the blocks of a table of at most a million obligors.
pub part_at_most : (bs cs : List Block) → IsScale (bs ++ cs) → AtMost (residual_sum bs) (ratio 250_000 1)
part_at_most bs cs (sound, occupied) =
    at_most_trans (residual_sum bs) whole (ratio 250_000 1) (residual_proper (bs ++ cs) occupied)
    (rw (residual_append bs cs) (at_most_more (residual_sum bs) (residual_sum cs) (not_negative cs)))
    (million whole (obligors_in (map as_grade (bs ++ cs))) sound.total (residual_quarter (bs ++ cs) sound.counted))
  where
    whole : Fraction
    whole = residual_sum (bs ++ cs)
