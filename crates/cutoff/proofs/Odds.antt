-- A scale whose odds of default rise, as those of the pooled scale do: each grade is best taken by itself, and the cheapest cost is the
-- sum of the smaller of its two costs, that of missing its defaults and that of turning its survivors away.
use Prim.Native.Nat.{ℕ, ◌+◌, ◌*◌, ◌≤◌, ◌<◌, min}
use mathlib.Core.Path.{◌≡◌, sym, ◌∙◌}
use mathlib.Core.List.{List, [], ◌∷◌, map}
use native.Mathlib.Nat.{mul-le-mul_left, mul-le-mul_right, le_of_mul-le-mul_left, lt_of_mul-lt-mul_left}
use native.Mathlib.Omega.{arith}
use native.Mathlib.Decide.{dec_le}
use Rattle.table.specs.Table.{Table, Grade, Every, Counted, occupied, survivors, survivors_in}
use Rattle.table.proofs.Arithmetic.{factor_pos}
use Rattle.table.proofs.Every.{every_map}
use Rattle.pooling.specs.declared.Block.{Block}
use Rattle.pooling.specs.Pool.{Rising, blocks, as_grade, pooled_scale}
use Rattle.pooling.proofs.Front.{pool_rising}
use Rattle.pooling.proofs.Scale.{scale_counted}
use Rattle.cutoff.proofs.Cost.{cheapest_cost, cost_cons, cost_le_all}
use Rattle.cutoff.proofs.Pooled.{pool_alike, odds_as_rates}

-- the odds of default of r, defaults to survivors, are below those of s
abbrev pub OddsBelow : Grade → Grade → Type 0
OddsBelow r s = r.defaults * survivors s < s.defaults * survivors r

-- Each grade's odds are below those of every worse one.
abbrev pub OddsRise : Table → Type 0
OddsRise [] = Unit {0}
OddsRise (r ∷ t) = Every (OddsBelow r) t × OddsRise t

-- Turning a grade away costs no more than missing its defaults; or missing them costs no more.
abbrev pub Away : ℕ → ℕ → Grade → Type 0
Away u v r = v * survivors r ≤ u * r.defaults

abbrev pub Accepted : ℕ → ℕ → Grade → Type 0
Accepted u v r = u * r.defaults ≤ v * survivors r

-- each grade at the smaller of its two costs
unfoldable pub gradewise : Table → ℕ → ℕ → ℕ
gradewise [] u v = 0
gradewise (r ∷ t) u v = min (u * r.defaults) (v * survivors r) + gradewise t u v

-- The odds of the pooled scale rise.

odds_trans : (d s d' s' d'' s'' : ℕ) → d * s' < d' * s → d' * s'' < d'' * s' → d * s'' < d'' * s
odds_trans d s d' s' d'' s'' p q =
    lt_of_mul-lt-mul_left s' (omega (arith, mul-le-mul_right s'' p, mul-le-mul_right s q, factor_pos _ d' s p))

-- Odds below those of d' to s', which are at most b to a.
pub odds_at_most : (a b d s d' s' : ℕ) → d * s' < d' * s → d' * a ≤ b * s' → d * a ≤ b * s
odds_at_most a b d s d' s' h k =
    le_of_mul-le-mul_left {k = d'} (omega (arith, mul-le-mul_left d k, mul-le-mul_left b h)) (factor_pos (d * s') s d' (omega arith))

pub rising_odds : (bs : List Block) → Rising bs → Every Counted (map as_grade bs) → OddsRise (map as_grade bs)
unfolding Rising
rising_odds [] rising counted = tt
rising_odds (b ∷ []) rising counted = (tt, tt)
rising_odds (b ∷ c ∷ bs) rising counted =
    let first : OddsBelow (as_grade b) (as_grade c) = omega (arith, odds_as_rates b c counted.0 counted.1.0) in
    let rest = rising_odds (c ∷ bs) rising.1 counted.1 in
    ((first, every_map (λ s. odds_trans _ _ _ _ s.defaults (survivors s) first) (map as_grade bs) rest.0), rest)

pub pool_odds : (t : Table) → Every Counted t → OddsRise (pooled_scale t)
pool_odds t h = rising_odds (blocks t) (pool_rising (occupied t)) (scale_counted t h)

-- Grade by grade.

pub gradewise_le_all : (t : Table) (u v : ℕ) → gradewise t u v ≤ v * survivors_in t
unfolding gradewise survivors_in
gradewise_le_all [] u v = omega arith
gradewise_le_all (r ∷ t) u v = omega (arith, gradewise_le_all t u v)

-- Where no grade's survivors cost more than its defaults, every grade is turned away.
pub all_turned_away : (t : Table) (u v : ℕ)
    → Every (Away u v) t → gradewise t u v ≡ v * survivors_in t
unfolding gradewise survivors_in
all_turned_away [] u v h = omega arith
all_turned_away (r ∷ t) u v h = omega (arith, all_turned_away t u v h.1)

-- What is turned away at some odds is turned away at higher ones; what is accepted, at lower ones.
pub away_worse : (u v : ℕ) (r s : Grade) → OddsBelow r s → Away u v r → Away u v s
away_worse u v r s h k = omega (arith, odds_at_most v u (survivors s) s.defaults (survivors r) r.defaults (omega arith) (omega arith))

pub accepted_better : (u v : ℕ) (r s : Grade) → OddsBelow r s → Accepted u v s → Accepted u v r
accepted_better u v r s h k = omega (arith, odds_at_most u v r.defaults (survivors r) s.defaults (survivors s) h (omega arith))

pub cheapest_gradewise : (t : Table) → OddsRise t → (u v : ℕ) → cheapest_cost t u v ≡ gradewise t u v
unfolding gradewise survivors_in
cheapest_gradewise [] odds u v = omega (arith, cost_le_all [] u v)
cheapest_gradewise (r ∷ t) odds u v =
    let rest = cheapest_gradewise t odds.1 u v in
    let cons = cost_cons r t u v in
    elim (dec_le (v * survivors r) (u * r.defaults)) [
      | yes le ↦
          let worse = every_map (λ s h. away_worse u v r s h le) t odds.0 in
          omega (arith, all_turned_away t u v worse)
      | no gt ↦ omega (arith, gradewise_le_all t u v)
    ]

-- The cheapest cost of a table, from its blocks alone.
pub cheapest_pooled : (t : Table) → Every Counted t → (u v : ℕ) → cheapest_cost t u v ≡ gradewise (pooled_scale t) u v
cheapest_pooled t h u v = sym ((pool_alike t h).same_cost u v) ∙ cheapest_gradewise (pooled_scale t) (pool_odds t h) u v
