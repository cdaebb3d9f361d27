-- Leaving the empty grades out, and pooling the others, keeps the survivors of a table and, at every pair of prices, its cheapest cost.
use Prim.Native.Nat.{ℕ, ◌+◌, ◌*◌, ◌≤◌, ◌<◌}
use mathlib.Core.Path.{◌≡◌, refl, sym, ◌∙◌}
use mathlib.Core.List.{List, [], ◌∷◌, map}
use mathlib.Core.Logic.{◌↔◌, ◌⊎◌, inl, inr, ⊎_elim}
use native.Mathlib.Nat.{mul-sub, mul-le-mul_left, mul-le-mul_right, le_of_mul-le-mul_left, lt_of_not-le}
use native.Mathlib.Omega.{arith}
use native.Mathlib.Decide.{dec_le}
use Rattle.table.specs.Table.{Table, Grade, Every, Counted, occupied, survivors, survivors_in}
use Rattle.table.proofs.Arithmetic.{factor_pos}
use Rattle.table.proofs.Every.{map_every}
use Rattle.table.proofs.Occupied.{by-grade, every_occupied}
use Rattle.pooling.specs.declared.Block.{Block}
use Rattle.pooling.specs.Pool.{single, join, front, pool, as_grade, pooled_scale}
use Rattle.pooling.proofs.Front.{front_cases, AtMostRate}
use Rattle.pooling.proofs.Joined.{blocks_counted}
use Rattle.cutoff.specs.Cutoff.{IsCheapest}
use Rattle.cutoff.proofs.Cost.{cheapest_cost, cost_cons, cost_le_all, is_cheapest}

-- Two tables with as many survivors and, at every pair of prices, the same cheapest cost.
pub record Alike (t t' : Table) : Type 0 where
  pub same_survivors : survivors_in t ≡ survivors_in t'
  pub same_cost : (u v : ℕ) → cheapest_cost t u v ≡ cheapest_cost t' u v

alike_refl : (t : Table) → Alike t t
alike_refl t = record { same_survivors = refl; same_cost = λ u v. refl }

alike_trans : {t t' t'' : Table} → Alike t t' → Alike t' t'' → Alike t t''
alike_trans p q = record { same_survivors = cc; same_cost = λ u v. p.same_cost u v ∙ q.same_cost u v }

-- A grade in front of both: its announced rate plays no part.
alike_cons : (r r' : Grade) {t t' : Table} → r.obligors ≡ r'.obligors → r.defaults ≡ r'.defaults → Alike t t' → Alike (r ∷ t) (r' ∷ t')
unfolding survivors_in
alike_cons r r' {t} {t'} n d a =
    record {
      same_survivors = rw (n, d, a.same_survivors);
      same_cost = λ u v. rw (cost_cons r t u v, cost_cons r' t' u v, n, d, a.same_survivors, a.same_cost u v);
    }

-- Without the empty grades: turned away or not, they cost nothing.

alike_empty : (r : Grade) (t : Table) → Counted r → r.obligors ≡ 0 → Alike t (r ∷ t)
unfolding survivors_in
alike_empty r t c e =
    let d : r.defaults ≡ 0 = omega arith in
    let s : survivors r + survivors_in t ≡ survivors_in t = omega arith in
    record { same_survivors = sym s; same_cost = λ u v. rw (cost_cons r t u v, s, d) (omega (arith, cost_le_all t u v)) }

occupied_alike : (t : Table) → Every Counted t → Alike (occupied t) t
unfolding occupied
occupied_alike [] h = alike_refl _
occupied_alike (r ∷ t) h =
    let rest = occupied_alike t h.1 in
    by-grade (λ (x : Table). Alike x (r ∷ t)) r (λ _. alike_cons r r refl refl rest) (λ e. alike_trans rest (alike_empty r t h.0 e))

-- Pooled.

-- Of two grades of d and d' defaults, s and s' survivors, the first is no better: turning it away does not lose, or accepting the
-- second does not.
exchange : (u v d s d' s' : ℕ) → d' * s ≤ d * s' → (v * s ≤ u * d) ⊎ (u * d' ≤ v * s')
exchange u v d s d' s' h =
    elim (dec_le (v * s) (u * d)) [
      | yes le ↦ inl le
      | no gt ↦ let lt : u * d < v * s = lt_of_not-le gt in
          inr (le_of_mul-le-mul_left {k = s} (omega (arith, mul-le-mul_left u h, mul-le-mul_right s' lt)) (factor_pos _ v s lt))
    ]

-- Odds of default, defaults to survivors, compare as rates do: the products differ by the same.
pub odds_as_rates : (b c : Block) → Counted (as_grade b) → Counted (as_grade c)
    → c.defaults * b.obligors.0 + b.defaults * survivors (as_grade c) ≡ b.defaults * c.obligors.0 + c.defaults * survivors (as_grade b)
odds_as_rates b c p q =
    omega (
      arith,
      mul-sub c.defaults b.obligors.0 b.defaults,
      mul-sub b.defaults c.obligors.0 c.defaults,
      mul-le-mul_left c.defaults p,
      mul-le-mul_left b.defaults q,
    )

-- Joining two grades, the first no better than the second, changes no cheapest cost.
alike_join : (b c : Block) (t : Table) → Counted (as_grade b) → Counted (as_grade c) → AtMostRate c b
    → Alike (as_grade (join b c) ∷ t) (as_grade b ∷ as_grade c ∷ t)
unfolding survivors_in
alike_join b c t p q h =
    let s : ℕ = survivors (as_grade b) in
    let s' : ℕ = survivors (as_grade c) in
    let sum : survivors (as_grade (join b c)) ≡ s + s' = omega arith in
    let odds : c.defaults * s ≤ b.defaults * s' = omega (arith, odds_as_rates b c p q) in
    record {
      same_survivors = omega arith;
      same_cost = λ u v.
          let all = cost_le_all t u v in
          rw (cost_cons (as_grade (join b c)) t u v, cost_cons (as_grade b) (as_grade c ∷ t) u v, cost_cons (as_grade c) t u v, sum)
          (⊎_elim (λ k. omega arith) (λ k. omega arith) (exchange u v b.defaults s c.defaults s' odds));
    }

front_alike : (b : Block) (bs : List Block) → Counted (as_grade b) → Every Counted (map as_grade bs)
    → Alike (map as_grade (front b bs)) (as_grade b ∷ map as_grade bs)
unfolding front
front_alike b [] p h = alike_refl _
front_alike b (c ∷ bs) p h =
    front_cases (λ l. Alike (map as_grade l) (as_grade b ∷ as_grade c ∷ map as_grade bs)) b c bs
    (λ _. alike_refl _)
    (λ k. alike_trans (front_alike (join b c) bs (omega arith) h.1) (alike_join b c (map as_grade bs) p h.0 k))

joined_alike : (t : Table) → Every Counted t → Alike (map as_grade (pool t)) t
unfolding pool
joined_alike [] h = alike_refl _
joined_alike (r ∷ t) h =
    alike_trans (front_alike (single r) (pool t) h.0 (map_every Counted as_grade (pool t) (blocks_counted t h.1)))
    (alike_cons (as_grade (single r)) r refl refl (joined_alike t h.1))

pub pool_alike : (t : Table) → Every Counted t → Alike (pooled_scale t) t
pool_alike t h = alike_trans (joined_alike (occupied t) (every_occupied Counted t h)) (occupied_alike t h)

pub pooled_costs_same : (t : Table) → Every Counted t → (u v c : ℕ) → IsCheapest (pooled_scale t) u v c ↔ IsCheapest t u v c
pooled_costs_same t h u v c =
    let e = (pool_alike t h).same_cost u v in
    let pooled = is_cheapest (pooled_scale t) u v c in
    let whole = is_cheapest t u v c in
    (λ p. whole.1 (pooled.0 p ∙ e), λ p. pooled.1 (whole.0 p ∙ sym e))
