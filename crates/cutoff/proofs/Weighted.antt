-- A scale in weights, each default counted a times and each survivor b times: its counts, what it costs, and that weights which are at least 1
-- keep the order of rates, so that its blocks are those of the scale in the same weights.
use Prim.Native.Nat.{ℕ, ◌+◌, ◌*◌, ◌≤◌, min}
use mathlib.Core.Path.{◌≡◌, refl, ap}
use mathlib.Core.List.{List, [], ◌∷◌, map}
use native.Mathlib.Nat.{mul-pos, mul-le-mul_left, mul-le-mul_right, mul-lt-mul_of_pos_left}
use native.Mathlib.Omega.{arith}
use native.Mathlib.Decide.{dec_le}
use borrow.Author.Tests.{lt-ltb, le-ltb}
use Rattle.table.specs.Table.{Table, Grade, Every, Counted, occupied, survivors, defaults_in, survivors_in}
use Rattle.table.proofs.Arithmetic.{times_eq}
use Rattle.table.proofs.Every.{every, map_every}
use Rattle.table.proofs.Occupied.{by-grade, is-occupied, is_empty, every_occupied}
use Rattle.pooling.specs.declared.Block.{Block}
use Rattle.pooling.specs.Pool.{single, join, RateBelow, front, pool, blocks, as_grade, pooled_scale}
use Rattle.pooling.proofs.Front.{front_cases, AtMostRate}
use Rattle.pooling.proofs.Joined.{blocks_counted}
use Rattle.cutoff.specs.Weighted.{weigh, weighted}
use Rattle.cutoff.proofs.Cost.{cheapest_cost, cost_cons, cost_le_all}
use Rattle.cutoff.proofs.Pooled.{odds_as_rates}

-- Its counts.

pub weigh-survivors : (a b : ℕ) (r : Grade) → survivors (weigh a b r) ≡ b * survivors r
weigh-survivors a b r = omega arith

pub weighted_defaults : (a b : ℕ) (t : Table) → defaults_in (weighted a b t) ≡ a * defaults_in t
unfolding defaults_in
weighted_defaults a b [] = omega arith
weighted_defaults a b (r ∷ t) = omega (arith, weighted_defaults a b t)

pub weighted-survivors : (a b : ℕ) (t : Table) → survivors_in (weighted a b t) ≡ b * survivors_in t
unfolding survivors_in
weighted-survivors a b [] = omega arith
weighted-survivors a b (r ∷ t) = omega (arith, weighted-survivors a b t)

pub weighted_counted : (a b : ℕ) (t : Table) → Every Counted (weighted a b t)
weighted_counted a b t = map_every Counted (weigh a b) t (every (λ r. omega arith) t)

-- Weights of 1 change nothing.
pub weighted_once : (t : Table) → Every Counted t → weighted 1 1 t ≡ t
weighted_once [] h = refl
weighted_once (r ∷ t) h =
    let d : 1 * r.defaults ≡ r.defaults = omega arith in
    let n : r.defaults + 1 * survivors r ≡ r.obligors = omega arith in
    rw (d, n, weighted_once t h.1)

-- Its costs.

-- Weights are prices: a times as many defaults cost what a times the price does.
pub weighted-cost : (a b : ℕ) (t : Table) (u v : ℕ) → cheapest_cost (weighted a b t) u v ≡ cheapest_cost t (u * a) (v * b)
unfolding survivors_in
weighted-cost a b [] u v = omega (arith, cost_le_all [] u v, cost_le_all [] (u * a) (v * b))
weighted-cost a b (r ∷ t) u v =
    omega (
      arith,
      cost_cons (weigh a b r) (weighted a b t) u v,
      cost_cons r t (u * a) (v * b),
      weighted-cost a b t u v,
      ap (λ n. v * n) (weighted-survivors a b (r ∷ t)),
    )

times-min : (k m n : ℕ) → k * min m n ≡ min (k * m) (k * n)
times-min k m n =
    elim (dec_le m n) [
      | yes h ↦ let e : min m n ≡ m = omega arith in rw e (omega (arith, mul-le-mul_left k h))
      | no h ↦ let e : min m n ≡ n = omega arith in let l : n ≤ m = omega arith in rw e (omega (arith, mul-le-mul_left k l))
    ]

-- k times the prices, k times the cost
pub cost-times : (k : ℕ) (t : Table) (u v : ℕ) → cheapest_cost t (k * u) (k * v) ≡ k * cheapest_cost t u v
unfolding survivors_in
cost-times k [] u v = omega (arith, cost_le_all [] (k * u) (k * v), mul-le-mul_left k (cost_le_all [] u v))
cost-times k (r ∷ t) u v =
    rw (cost_cons r t u v, times-min)
    (omega (arith, cost_cons r t (k * u) (k * v), cost-times k t u v))

-- Its blocks.

abbrev weigh_block : ℕ → ℕ → Block → Block
weigh_block a b x = record { grades = x.grades; obligors = record { 0 = a * x.defaults + b * survivors (as_grade x) }; defaults = a * x.defaults }

weigh-join : (a b : ℕ) (x y : Block) → Counted (as_grade x) → Counted (as_grade y)
    → join (weigh_block a b x) (weigh_block a b y) ≡ weigh_block a b (join x y)
weigh-join a b x y p q =
    let s : ℕ = survivors (as_grade x) in
    let s' : ℕ = survivors (as_grade y) in
    let sum : survivors (as_grade (join x y)) ≡ s + s' = omega arith in
    let d : a * x.defaults + a * y.defaults ≡ a * (x.defaults + y.defaults) = omega arith in
    let n : a * x.defaults + b * s + (a * y.defaults + b * s') ≡ a * (x.defaults + y.defaults) + b * (s + s') = omega arith in
    rw (sum, d, n)

-- The rates of two blocks differ, multiplied out, a b times as much in the weights as before.
weigh-rates : (a b : ℕ) (x y : Block) → Counted (as_grade x) → Counted (as_grade y)
    → (weigh_block a b x).defaults * (weigh_block a b y).obligors.0 + y.defaults * x.obligors.0 * (a * b)
    ≡ (weigh_block a b y).defaults * (weigh_block a b x).obligors.0 + x.defaults * y.obligors.0 * (a * b)
weigh-rates a b x y p q = omega (arith, times_eq (a * b) (odds_as_rates x y p q))

module _ (a b : ℕ) (a-pos : 1 ≤ a) (b-pos : 1 ≤ b) where
  front_weighed : (x : Block) (bs : List Block) → Counted (as_grade x) → Every (λ y. Counted (as_grade y)) bs
      → front (weigh_block a b x) (map (weigh_block a b) bs) ≡ map (weigh_block a b) (front x bs)
  unfolding front
  front_weighed x [] p h = refl
  front_weighed x (y ∷ bs) p h =
      let x' = weigh_block a b x in
      let y' = weigh_block a b y in
      let rates = weigh-rates a b x y p h.0 in
      let below : RateBelow x y → RateBelow x' y' = λ k. omega (arith, rates, mul-lt-mul_of_pos_left {k = a * b} k (mul-pos a-pos b-pos)) in
      let at_most : AtMostRate y x → AtMostRate y' x' = λ k. omega (arith, rates, mul-le-mul_left (a * b) k) in
      front_cases (λ l. front x' (y' ∷ map (weigh_block a b) bs) ≡ map (weigh_block a b) l) x y bs
      (λ k. rw (lt-ltb _ _ (below k)))
      (λ k. rw (le-ltb _ _ (at_most k), weigh-join a b x y p h.0) (front_weighed (join x y) bs (omega arith) h.1))

  pool_weighed : (t : Table) → Every Counted t → pool (weighted a b t) ≡ map (weigh_block a b) (pool t)
  unfolding pool
  pool_weighed [] h = refl
  pool_weighed (r ∷ t) h =
      rw (pool_weighed t h.1) (front_weighed (single r) (pool t) h.0 (blocks_counted t h.1))

  -- A grade is empty in the weights where it was.
  occupied-weighted : (t : Table) → Every Counted t → occupied (weighted a b t) ≡ weighted a b (occupied t)
  unfolding occupied
  occupied-weighted [] h = refl
  occupied-weighted (r ∷ t) h =
      let rest = occupied-weighted t h.1 in
      by-grade (λ (l : Table). occupied (weighted a b (r ∷ t)) ≡ weighted a b l) r
      (λ some. rw (is-occupied (weigh a b r) (omega (arith, h.0, mul-le-mul_right r.defaults a-pos, mul-le-mul_right (survivors r) b-pos)), rest))
      (λ none. let d : r.defaults ≡ 0 = omega (arith, h.0) in rw (is_empty (weigh a b r) (rw (d, none) (omega arith)), rest))

  pub pooled_weighted : (t : Table) → Every Counted t → pooled_scale (weighted a b t) ≡ weighted a b (pooled_scale t)
  pooled_weighted t h =
      rw (occupied-weighted t h, pool_weighed (occupied t) (every_occupied Counted t h)) (maps (blocks t))
    where
      maps : (bs : List Block) → map as_grade (map (weigh_block a b) bs) ≡ weighted a b (map as_grade bs)
      maps [] = refl
      maps (x ∷ bs) = ap (λ (l : Table). weigh a b (as_grade x) ∷ l) (maps bs)
