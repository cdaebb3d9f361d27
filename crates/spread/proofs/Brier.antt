-- The Brier sum of one rate for all grades is the exact total, that of the pooled rates the exact residual sum: a run of D defaults and S survivors among N obligors has, at the rate D/N,
-- D (1 - D/N)² + S (D/N)² = D S / N.
use Prim.Native.Nat.{ℕ, ◌+◌, ◌-◌, ◌*◌, ◌≤◌}
use mathlib.Core.Path.{◌≡◌, refl, sym}
use mathlib.Core.List.{List, [], ◌∷◌, ◌++◌}
use native.Mathlib.Nat.{mul-pos}
use native.Mathlib.Omega.{arith}
use lib.ListN.{length, replicate}
use Rattle.table.specs.Table.{Table, Grade, Every, Occupied, Counted, occupied, survivors, defaults_in, survivors_in, obligors_in}
use Rattle.table.proofs.Arithmetic.{times_eq}
use Rattle.table.proofs.Every.{every_map₂, every_append}
use Rattle.table.proofs.Occupied.{all-occupied, every_occupied}
use Rattle.table.proofs.Sums.{obligors_split, obligors_append}
use Rattle.pooling.specs.declared.Block.{Block}
use Rattle.pooling.specs.Pool.{blocks, block_of}
use Rattle.pooling.specs.Fraction.{Fraction, Equal, ratio, sum, difference, square}
use Rattle.pooling.specs.Regression.{rate_of, rates_in, pooled_rates}
use Rattle.pooling.proofs.Front.{AtMostRate}
use Rattle.pooling.proofs.Runs.{Cut, none, more, pool_cut}
use Rattle.pooling.proofs.Scaled.{Over, over-nought, over-ratio, over_own, over_same, over-sum, over-difference, over-times, over-square, equal}
use Rattle.spread.specs.Spread.{total_of, residual_of, residual_sum}
use Rattle.spread.specs.Brier.{brier_of_rate, brier_sum_of_rates}
use Rattle.spread.proofs.Fractions.{sum_assoc, sum-nought, sum_equal}

-- One rate for all grades of a run: d out of n.
module _ (n d : ℕ) (part : d ≤ n) where
  abbrev rate : Fraction
  rate = ratio d n

  -- the difference of rate and outcome, of an obligor that survived and of one that defaulted
  survived : Over n 0 rate d
  survived = over_own d n

  defaulted : Over n 0 (difference (ratio 1 1) rate) (n - d)
  defaulted = over_same (over-difference (over-ratio {a = n} 1 1 (omega arith)) survived) 0 (n - d) (omega arith)

  squared : {x : Fraction} {a : ℕ} → Over n 0 x a → Over (n * n) 0 (square x) (a * a)
  squared h = over_same (over-square h) 0 _ (omega arith)

  brier_grade : (r : Grade) → Over (n * n) 0 (brier_of_rate r rate) (r.defaults * ((n - d) * (n - d)) + survivors r * (d * d))
  brier_grade r =
      over_same (over-sum (over-times (squared defaulted) r.defaults) (over-times (squared survived) (survivors r))) 0 _ (omega arith)

  brier_level : (t : Table)
      → Over (n * n) 0 (brier_sum_of_rates t (replicate (length t) rate)) (defaults_in t * ((n - d) * (n - d)) + survivors_in t * (d * d))
  unfolding brier_sum_of_rates defaults_in survivors_in
  brier_level [] = over_same (over-nought (n * n)) 0 _ (omega arith)
  brier_level (r ∷ t) = over_same (over-sum (brier_grade r) (brier_level t)) 0 _ (omega arith)

-- A run with its own rate.
abbrev Filled : Table → Type 0
Filled t = Every Counted t × (1 ≤ obligors_in t)

brier_run : (t : Table) → Filled t → Equal (residual_of (block_of t)) (brier_sum_of_rates t (replicate (length t) (rate_of (block_of t))))
brier_run t h =
    let n = obligors_in t in
    let d = defaults_in t in
    let s = survivors_in t in
    let all : n ≡ d + s = obligors_split t h.0 in
    let left : n - d ≡ s = omega arith in
    let block = over-ratio {m = n * n} {a = d * s * n} (d * s) n (omega arith) in
    let run = rw left at (brier_level n d (omega arith) t) in
    rw left (equal block run (mul-pos h.1 h.1) (omega (arith, times_eq (d * s) all)))

-- The whole table as one run.
pub total_brier : (t : Table) → Every Counted t → 1 ≤ obligors_in t
    → Equal (total_of t) (brier_sum_of_rates t (replicate (length t) (ratio (defaults_in t) (obligors_in t))))
total_brier t c some =
    let left : obligors_in t - defaults_in t ≡ survivors_in t = omega (arith, obligors_split t c) in
    rw left at (brier_run t (c, some))

-- The runs of a table.

brier_append : (t u : Table) (x : Fraction) (q : List Fraction)
    → brier_sum_of_rates (t ++ u) (replicate (length t) x ++ q) ≡ sum (brier_sum_of_rates t (replicate (length t) x)) (brier_sum_of_rates u q)
unfolding brier_sum_of_rates
brier_append [] u x q = sym (sum-nought (brier_sum_of_rates u q))
brier_append (r ∷ t) u x q = rw (brier_append t u x q) (sym (sum_assoc (brier_of_rate r x) _ _))

cut_brier : {t : Table} {bs : List Block} → Cut Filled t bs → Equal (residual_sum bs) (brier_sum_of_rates t (rates_in bs))
unfolding residual_sum brier_sum_of_rates rates_in
cut_brier none = refl
cut_brier (more {r = r} {t = t} {u = u} {bs = bs} f k) =
    rw (brier_append (r ∷ t) u _ (rates_in bs)) (sum_equal _ _ _ _ (brier_run (r ∷ t) f) (cut_brier k))

filled_append : (t u : Table) → Filled t → Filled u → AtMostRate (block_of u) (block_of t) → Filled (t ++ u)
filled_append t u f g l = (every_append Counted t u f.0 g.0, omega (arith, obligors_append t u))

filled-single : (r : Grade) → Occupied r → Counted r → Filled (r ∷ [])
unfolding obligors_in
filled-single r o c = ((c, tt), omega arith)

pub residual_brier : (t : Table) → Every Counted t → Equal (residual_sum (blocks t)) (brier_sum_of_rates (occupied t) (pooled_rates (occupied t)))
residual_brier t c =
    let counted = every_occupied Counted t c in
    cut_brier (pool_cut Filled filled_append (occupied t) (every_map₂ filled-single (occupied t) (all-occupied t) counted))
