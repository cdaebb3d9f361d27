-- The blocks are determined: no other runs have rates that strictly rise and are the monotone regression.
use Prim.Native.Nat.{ℕ, zero, suc, ◌-◌, ◌≤◌}
use mathlib.Core.Path.{◌≡◌, refl, sym, ap, ◌∙◌}
use mathlib.Core.List.{List, [], ◌∷◌, ◌++◌}
use native.Mathlib.Nat.{eq_of_mul-eq-mul_left}
use native.Mathlib.Omega.{arith}
use lib.ListN.{replicate, take, drop, length-take}
use Rattle.table.specs.Table.{Table, Grade, Every, Occupied}
use Rattle.table.proofs.Arithmetic.{times_eq}
use Rattle.table.proofs.Every.{every_split}
use Rattle.pooling.specs.Pool.{Block, pool, block_of, Rising, Runs}
use Rattle.pooling.specs.Fraction.{Fraction, Proper, Equal, ratio}
use Rattle.pooling.specs.Regression.{AllEqual, IsRegression, rate_of, rates_in}
use Rattle.pooling.proofs.Front.{rising_tail, pool_rising}
use Rattle.pooling.proofs.Runs.{pool_runs}
use Rattle.pooling.proofs.LeastSquares.{pooled_regression}

-- How often a list repeats its first value.

equal_trans : (x y z : Fraction) → Proper y → Equal x y → Equal y z → Equal x z
equal_trans x y z p e f = eq_of_mul-eq-mul_left y.over p _ _ (omega (arith, times_eq z.over e, times_eq x.over f))

-- q does not begin with the value x.
abbrev Apart : Fraction → List Fraction → Type 0
Apart x [] = Unit {0}
Apart x (y ∷ q) = Equal x y → ⊥

-- Two equal lists repeat it equally often.
repeats : (g h : ℕ) (x y : Fraction) (p q : List Fraction) → Proper x → Proper y → Equal x y → Apart x p → Apart y q
    → AllEqual (replicate g x ++ p) (replicate h y ++ q) → (g ≡ h) × AllEqual p q
unfolding AllEqual
repeats zero zero x y p q px py e n o a = (refl, a)
repeats zero (suc h) x y [] q px py e n o a = absurd a
repeats zero (suc h) x y (z ∷ p) q px py e n o a = absurd (n (equal_trans x y z py e (sym a.0)))
repeats (suc g) zero x y p [] px py e n o a = absurd a
repeats (suc g) zero x y p (z ∷ q) px py e n o a = absurd (o (equal_trans y x z px (sym e) a.0))
repeats (suc g) (suc h) x y p q px py e n o a = let r = repeats g h x y p q px py e n o a.1 in (ap suc r.0, r.1)

some : (k : ℕ) (x : Fraction) (p : List Fraction) → 1 ≤ k → replicate k x ++ p ≡ x ∷ (replicate (k - 1) x ++ p)
some zero x p l = absurd (omega arith)
some (suc k) x p l = let e : suc k - 1 ≡ k = omega arith in rw e

-- Runs of t whose rates strictly rise.

record Climbing (t : Table) (bs : List Block) : Type 0 where
  runs : Runs bs t
  rising : Rising bs
  proper : Every Proper (rates_in bs)

apart : (t : Table) (b : Block) (bs : List Block) → Climbing t (b ∷ bs) → Apart (rate_of b) (rates_in bs)
unfolding rates_in Rising Runs ratio
apart t b [] h = tt
apart t b (c ∷ bs) h = rw (some c.grades (rate_of c) (rates_in bs) h.runs.2.0) (λ e. omega (arith, h.rising.0))

first_run : (t : Table) (b c : Block) (bs cs : List Block) → Climbing t (b ∷ bs) → Climbing t (c ∷ cs)
    → AllEqual (rates_in (b ∷ bs)) (rates_in (c ∷ cs)) → (b.grades ≡ c.grades) × AllEqual (rates_in bs) (rates_in cs)
unfolding rates_in Runs AllEqual
first_run t b c bs cs h k a =
    let u = some b.grades (rate_of b) (rates_in bs) h.runs.0 in
    let w = some c.grades (rate_of c) (rates_in cs) k.runs.0 in
    repeats b.grades c.grades (rate_of b) (rate_of c) (rates_in bs) (rates_in cs)
    (rw u at h.proper).0 (rw w at k.proper).0 (rw (u, w) at a).0 (apart t b bs h) (apart t c cs k) a

behind : (t : Table) (b : Block) (bs : List Block) → Climbing t (b ∷ bs) → Climbing (drop b.grades t) bs
unfolding Runs rates_in
behind t b bs h =
    record {
      runs = h.runs.2;
      rising = rising_tail b bs h.rising;
      proper = (every_split Proper (replicate b.grades (rate_of b)) (rates_in bs) h.proper).1;
    }

-- No grades have no block.
no_run : (b : Block) (bs : List Block) → Runs (b ∷ bs) [] → ⊥
unfolding Runs
no_run b bs h = omega (arith, h.0, ap (λ c. c.grades) h.1, length-take {A = Grade} b.grades [])

determined : (t : Table) (bs cs : List Block) → Climbing t bs → Climbing t cs → AllEqual (rates_in bs) (rates_in cs) → bs ≡ cs
unfolding Runs rates_in
determined t [] [] h k a = refl
determined t [] (c ∷ cs) h k a = absurd (no_run c cs (rw h.runs at k.runs))
determined t (b ∷ bs) [] h k a = absurd (no_run b bs (rw k.runs at h.runs))
determined t (b ∷ bs) (c ∷ cs) h k a =
    let (long, equal) = first_run t b c bs cs h k a in
    let first : b ≡ c = h.runs.1 ∙ ap (λ g. block_of (take g t)) long ∙ sym k.runs.1 in
    let later = determined (drop b.grades t) bs cs (behind t b bs h) (rw long (behind t c cs k)) equal in
    cc

pub blocks_determined : (t : Table) → Every Occupied t → (bs : List Block) → Runs bs t → Rising bs → IsRegression t (rates_in bs) → bs ≡ pool t
blocks_determined t occupied bs runs rising regression =
    let pooled = pooled_regression t occupied in
    determined t bs (pool t)
    (record { runs = runs; rising = rising; proper = regression.monotone.proper })
    (record { runs = pool_runs t; rising = pool_rising t; proper = pooled.monotone.proper })
    (regression.unique (rates_in (pool t)) pooled.monotone (pooled.least (rates_in bs) regression.monotone))
