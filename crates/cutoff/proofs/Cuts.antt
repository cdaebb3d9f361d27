-- The cheapest cutoff of a scale of rising odds: it accepts the grades whose defaults cost no more than their survivors, which are the
-- better ones, and turns the worse ones away.
use Prim.Native.Nat.{ℕ, suc, ◌+◌, ◌*◌, ◌≤◌, ◌<◌}
use mathlib.Core.Path.{◌≡◌}
use mathlib.Core.List.{[], ◌∷◌, ◌++◌}
use native.Mathlib.Nat.{mul-le-mul_left}
use native.Mathlib.Omega.{arith}
use native.Mathlib.Decide.{dec_le}
use borrow.Author.Tests.{le-leb, lt-leb}
use lib.ListN.{length, drop}
use Rattle.table.specs.Table.{Table, Grade, Every, survivors, defaults_in, survivors_in}
use Rattle.table.proofs.Every.{every_map, every_split}
use Rattle.cutoff.specs.Sweep.{accepted_at}
use Rattle.cutoff.proofs.Cost.{cheapest_cost}
use Rattle.cutoff.proofs.Odds.{OddsBelow, OddsRise, Away, Accepted, away_worse, accepted_better, gradewise, all_turned_away, cheapest_gradewise}

-- It is cheapest to turn away s, the worst grades of t: the cost is u (D - y) + v x.
pub record Cuts (t s : Table) (u v : ℕ) : Type 0 where
  pub balance : cheapest_cost t u v + u * defaults_in s ≡ u * defaults_in t + v * survivors_in s

-- Odds that rise over a scale rise over its worst grades.
pub odds_worse : (p s : Table) → OddsRise (p ++ s) → OddsRise s
odds_worse [] s h = h
odds_worse (r ∷ p) s h = odds_worse p s h.1

-- How many are accepted.

accepted_none : (u v : ℕ) (r : Grade) (t : Table) → Away u v r → accepted_at u v (r ∷ t) ≡ 0
unfolding accepted_at
accepted_none u v r t h = rw (le-leb (v * survivors r) (u * r.defaults) h)

accepted_more : (u v : ℕ) (r : Grade) (t : Table) → u * r.defaults < v * survivors r → accepted_at u v (r ∷ t) ≡ suc (accepted_at u v t)
unfolding accepted_at
accepted_more u v r t h = rw (lt-leb (v * survivors r) (u * r.defaults) h)

pub accepted_le : (u v : ℕ) (t : Table) → accepted_at u v t ≤ length t
unfolding accepted_at
accepted_le u v [] = omega arith
accepted_le u v (r ∷ t) =
    elim (dec_le (v * survivors r) (u * r.defaults)) [
      | yes h ↦ rw (le-leb (v * survivors r) (u * r.defaults) h) (omega arith)
      | no h ↦ rw (lt-leb (v * survivors r) (u * r.defaults) (omega arith)) (omega (arith, accepted_le u v t))
    ]

-- No grade behind one that is turned away; all grades before one that is not.
pub accepted_before : (u v : ℕ) (p : Table) (q : Grade) (s : Table) → Away u v q → accepted_at u v (p ++ q ∷ s) ≤ length p
accepted_before u v [] q s h = omega (arith, accepted_none u v q s h)
accepted_before u v (r ∷ p) q s h =
    elim (dec_le (v * survivors r) (u * r.defaults)) [
      | yes k ↦ omega (arith, accepted_none u v r (p ++ q ∷ s) k)
      | no k ↦ omega (arith, accepted_more u v r (p ++ q ∷ s) (omega arith), accepted_before u v p q s h)
    ]

pub accepted_after : (u v : ℕ) (p : Table) (q : Grade) (s : Table) → OddsRise (p ++ q ∷ s) → u * q.defaults < v * survivors q
    → length p < accepted_at u v (p ++ q ∷ s)
accepted_after u v [] q s odds h = omega (arith, accepted_more u v q s h)
accepted_after u v (r ∷ p) q s odds h =
    let below = (every_split (OddsBelow r) p (q ∷ s) odds.0).1.0 in
    elim (dec_le (v * survivors r) (u * r.defaults)) [
      | yes k ↦ absurd (omega (arith, away_worse u v r q below k))
      | no k ↦ omega (arith, accepted_more u v r (p ++ q ∷ s) (omega arith), accepted_after u v p q s odds.1 h)
    ]

-- Fewer are accepted at prices at which all is turned away that is at others.
pub accepted_fewer : (u v u' v' : ℕ) → ((r : Grade) → Away u v r → Away u' v' r) → (t : Table) → accepted_at u' v' t ≤ accepted_at u v t
unfolding accepted_at
accepted_fewer u v u' v' f [] = omega arith
accepted_fewer u v u' v' f (r ∷ t) =
    elim (dec_le (v' * survivors r) (u' * r.defaults)) [
      | yes k ↦ rw (le-leb (v' * survivors r) (u' * r.defaults) k) (omega arith)
      | no k ↦
          elim (dec_le (v * survivors r) (u * r.defaults)) [
            | yes l ↦ absurd (k (f r l))
            | no l ↦ rw (lt-leb (v * survivors r) (u * r.defaults) (omega arith), lt-leb (v' * survivors r) (u' * r.defaults) (omega arith))
                (omega (arith, accepted_fewer u v u' v' f t))
          ]
    ]

-- To turn the others away is cheapest.

accepted_gradewise : (t : Table) (u v : ℕ) → OddsRise t
    → gradewise t u v + u * defaults_in (drop (accepted_at u v t) t) ≡ u * defaults_in t + v * survivors_in (drop (accepted_at u v t) t)
unfolding gradewise defaults_in survivors_in accepted_at
accepted_gradewise [] u v odds = omega arith
accepted_gradewise (r ∷ t) u v odds =
    elim (dec_le (v * survivors r) (u * r.defaults)) [
      | yes h ↦ rw (le-leb (v * survivors r) (u * r.defaults) h)
          (omega (arith, all_turned_away (r ∷ t) u v (h, every_map (λ s b. away_worse u v r s b h) t odds.0)))
      | no h ↦ rw (lt-leb (v * survivors r) (u * r.defaults) (omega arith)) (omega (arith, accepted_gradewise t u v odds.1))
    ]

pub accepted_cuts : (t : Table) (u v : ℕ) → OddsRise t → Cuts t (drop (accepted_at u v t) t) u v
accepted_cuts t u v odds = record { balance = omega (arith, cheapest_gradewise t odds u v, accepted_gradewise t u v odds) }

-- At the break-even prices of q, or k times these, to turn away what is worse than q.

gradewise_after : (p : Table) (q : Grade) (s : Table) (u v : ℕ) → OddsRise (p ++ q ∷ s) → Accepted u v q → Every (Away u v) s
    → gradewise (p ++ q ∷ s) u v + u * defaults_in s ≡ u * defaults_in (p ++ q ∷ s) + v * survivors_in s
unfolding gradewise defaults_in
gradewise_after [] q s u v odds k h = omega (arith, all_turned_away s u v h)
gradewise_after (r ∷ p) q s u v odds k h =
    let below = (every_split (OddsBelow r) p (q ∷ s) odds.0).1.0 in
    omega (arith, gradewise_after p q s u v odds.1 k h, accepted_better u v r q below k)

pub cuts_at : (k : ℕ) (p : Table) (q : Grade) (s : Table) → OddsRise (p ++ q ∷ s) → Cuts (p ++ q ∷ s) s (k * survivors q) (k * q.defaults)
cuts_at k p q s odds =
    let worse = every_map {Q = Away (k * survivors q) (k * q.defaults)} (λ r h. omega (arith, mul-le-mul_left k h)) s (odds_worse p (q ∷ s) odds).0 in
    let own = gradewise_after p q s (k * survivors q) (k * q.defaults) odds (omega arith) worse in
    record { balance = omega (arith, cheapest_gradewise (p ++ q ∷ s) odds (k * survivors q) (k * q.defaults), own) }

-- Two tables whose defaults cost the same compare by what their cheapest cutoffs catch and lose.
module _ {t₁ t₂ s₁ s₂ : Table} {u₁ v₁ u₂ v₂ : ℕ} (same : u₁ * defaults_in t₁ ≡ u₂ * defaults_in t₂)
    (cut₁ : Cuts t₁ s₁ u₁ v₁) (cut₂ : Cuts t₂ s₂ u₂ v₂) where
  pub cuts_dearer : u₁ * defaults_in s₁ + v₂ * survivors_in s₂ < u₂ * defaults_in s₂ + v₁ * survivors_in s₁
      → cheapest_cost t₂ u₂ v₂ < cheapest_cost t₁ u₁ v₁
  cuts_dearer h = omega arith

  pub cuts_no_dearer : u₂ * defaults_in s₂ + v₁ * survivors_in s₁ ≤ u₁ * defaults_in s₁ + v₂ * survivors_in s₂
      → cheapest_cost t₁ u₁ v₁ ≤ cheapest_cost t₂ u₂ v₂
  cuts_no_dearer h = omega arith
