-- Summation by parts over the runs: rates that never fall have no larger inner product with the observed rates than with the
-- blocks' rates, and the blocks' rates have the same with both.
use Prim.Native.Nat.{ℕ, ◌+◌, ◌*◌, ◌≤◌}
use mathlib.Core.Path.{◌≡◌, refl}
use mathlib.Core.List.{List, [], ◌∷◌, ◌++◌}
use native.Mathlib.Nat.{mul-le-mul_left, le_of_mul-le-mul_left}
use native.Mathlib.Omega.{arith}
use lib.ListN.{length, replicate}
use Rattle.table.specs.Table.{Table, Every, defaults_in, obligors_in}
use Rattle.table.proofs.Arithmetic.{times_eq, rearrange}
use Rattle.table.proofs.Every.{every_split}
use Rattle.pooling.specs.Pool.{Block, block_of}
use Rattle.pooling.specs.Fraction.{Fraction, Proper, ratio}
use Rattle.pooling.specs.Regression.{NeverFall, Monotone, rates, rate_of, rates_in}
use Rattle.pooling.proofs.Front.{AtMostRate}
use Rattle.pooling.proofs.Runs.{Cut, none, more, Flat, Level}
use Rattle.pooling.proofs.Scaled.{Whole, numerator, of_at_most}
use Rattle.pooling.proofs.Inner.{inner}

module _ (m s : ℕ) where
  abbrev v : Fraction → ℕ
  v = numerator m s

  -- The observed rates.

  -- the inner product with them: their weighted numerators are m d + s n
  observed : Table → List Fraction → ℕ
  observed [] q = 0
  observed (r ∷ t) [] = 0
  observed (r ∷ t) (y ∷ q) = (m * r.defaults + s * r.obligors) * v y + observed t q

  inner_rates : (t : Table) (q : List Fraction) → Every (Whole m s) (rates t) → inner v t (rates t) q ≡ observed t q
  unfolding inner observed rates ratio
  inner_rates [] q h = refl
  inner_rates (r ∷ t) [] h = refl
  inner_rates (r ∷ t) (y ∷ q) h = omega (arith, times_eq (v y) h.0.is, inner_rates t q h.1)

  -- Rates that never fall.

  -- a numerator for each grade, none below a or the one before
  Climb : ℕ → Table → List Fraction → Type 0
  Climb a [] q = Unit {0}
  Climb a (r ∷ t) [] = ⊥
  Climb a (r ∷ t) (y ∷ q) = (a ≤ v y) × Climb (v y) t q

  climb_from : (x : Fraction) (t : Table) (q : List Fraction) → length q ≡ length t
      → Every Proper (x ∷ q) → Every (Whole m s) (x ∷ q) → NeverFall (x ∷ q) → Climb (v x) t q
  unfolding NeverFall Climb
  climb_from x [] q e p o h = tt
  climb_from x (r ∷ t) [] e p o h = absurd (omega arith)
  climb_from x (r ∷ t) (y ∷ q) e p o h =
      (omega (arith, of_at_most o.0 o.1.0 p.0 p.1.0 h.0), climb_from y t q (omega arith) p.1 o.1 h.1)

  climb : (t : Table) (q : List Fraction) → Monotone t q → Every (Whole m s) q → Climb 0 t q
  unfolding Climb
  climb [] q h o = tt
  climb (r ∷ t) [] h o = absurd (omega arith)
  climb (r ∷ t) (y ∷ q) h o = (omega arith, climb_from y t q (omega arith) h.proper o h.climb)

  -- One run: the grades t of a block b, or the last of them, before a table u with the rates p.

  module _ (b : Block) (w : Whole m s (rate_of b)) (u : Table) (p : List Fraction) where
    abbrev β : ℕ
    β = v (rate_of b)

    abbrev before : Table → List Fraction
    before t = replicate (length t) (rate_of b) ++ p

    -- A tail comes to at most β for each obligor.
    tail_bound : (t : Table) → 1 ≤ b.obligors.0 → AtMostRate (block_of t) b → m * defaults_in t + s * obligors_in t ≤ β * obligors_in t
    unfolding ratio
    tail_bound t pos h =
        le_of_mul-le-mul_left {k = b.obligors.0} (omega (arith, mul-le-mul_left m h, times_eq (obligors_in t) w.is)) pos

    -- Rates that climb from a are a and steps upward, and each step raises a tail.
    by_parts : 1 ≤ b.obligors.0
        → ((a : ℕ) (q : List Fraction) → Climb a u q → observed u q ≤ inner v u p q)
        → (t : Table) → Flat b t → (a : ℕ) (q : List Fraction) → Climb a (t ++ u) q
        → observed (t ++ u) q + a * (β * obligors_in t) ≤ inner v (t ++ u) (before t) q + a * (m * defaults_in t + s * obligors_in t)
    unfolding Climb inner observed obligors_in defaults_in
    by_parts pos rest [] f a q c = omega (arith, rest a q c)
    by_parts pos rest (r ∷ t) f a [] c = absurd c
    by_parts pos rest (r ∷ t) f a (y ∷ q) c =
        omega (
          arith,
          by_parts pos rest t f.1 (v y) q c.1,
          rearrange a (v y) _ _ c.0 (tail_bound (r ∷ t) pos f.0),
        )

    -- All of the run comes to β for each obligor.
    run_observed : (t : Table) → observed (t ++ u) (before t) ≡ (m * defaults_in t + s * obligors_in t) * β + observed u p
    unfolding observed obligors_in defaults_in
    run_observed [] = omega arith
    run_observed (r ∷ t) = omega (arith, run_observed t)

    run_inner : (t : Table) → inner v (t ++ u) (before t) (before t) ≡ obligors_in t * (β * β) + inner v u p p
    unfolding inner obligors_in
    run_inner [] = omega arith
    run_inner (r ∷ t) = omega (arith, run_inner t)

  -- All runs.

  behind : (k : ℕ) (x : Fraction) (p : List Fraction) → Every (Whole m s) (replicate k x ++ p) → Every (Whole m s) p
  behind k x p h = (every_split (Whole m s) (replicate k x) p h).1

  cut_below : {t : Table} {bs : List Block} → Cut Level t bs → Every (Whole m s) (rates_in bs)
      → (a : ℕ) (q : List Fraction) → Climb a t q → observed t q ≤ inner v t (rates_in bs) q
  unfolding rates_in inner observed ratio
  cut_below none o a q c = omega arith
  cut_below (more {r} {t} {u} {bs} f k) o a q c =
      let rest = behind (length t) (rate_of (block_of (r ∷ t))) (rates_in bs) o.1 in
      omega (
        arith,
        times_eq a o.0.is,
        by_parts (block_of (r ∷ t)) o.0 u (rates_in bs) f.occupied (λ a q c. cut_below k rest a q c) (r ∷ t) f.flat a q c,
      )

  cut_same : {t : Table} {bs : List Block} → Cut Level t bs → Every (Whole m s) (rates_in bs)
      → observed t (rates_in bs) ≡ inner v t (rates_in bs) (rates_in bs)
  unfolding rates_in inner observed ratio
  cut_same none o = refl
  cut_same (more {r} {t} {u} {bs} f k) o =
      let b : Block = block_of (r ∷ t) in
      omega (
        arith,
        times_eq (v (rate_of b)) o.0.is,
        run_observed b o.0 u (rates_in bs) (r ∷ t),
        run_inner b o.0 u (rates_in bs) (r ∷ t),
        cut_same k (behind (length t) (rate_of b) (rates_in bs) o.1),
      )

  module _ {t : Table} {bs : List Block} (cut : Cut Level t bs) (o : Every (Whole m s) (rates t)) (p : Every (Whole m s) (rates_in bs)) where
    pub inner_below : (q : List Fraction) → Monotone t q → Every (Whole m s) q → inner v t (rates t) q ≤ inner v t (rates_in bs) q
    inner_below q h w = rw (inner_rates t q o) (cut_below cut p 0 q (climb t q h w))

    pub inner_same : inner v t (rates t) (rates_in bs) ≡ inner v t (rates_in bs) (rates_in bs)
    inner_same = rw (inner_rates t (rates_in bs) o) (cut_same cut p)
