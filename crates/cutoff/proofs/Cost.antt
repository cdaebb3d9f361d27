-- What cutoffs cost: the cheapest cutoff of a table, and what one more grade in front does to it.
use Prim.Native.Nat.{ℕ, zero, suc, ◌+◌, ◌-◌, ◌*◌, ◌≤◌, ◌<◌, min}
use mathlib.Core.Path.{◌≡◌, refl, ap}
use mathlib.Core.List.{[], ◌∷◌}
use mathlib.Core.Logic.{◌↔◌}
use native.Mathlib.Nat.{add-sub_assoc, sub_self, mul-zero, mul-add}
use native.Mathlib.Omega.{arith}
use native.Mathlib.Decide.{dec_le}
use borrow.Author.Tests.{lt-ltb, le-ltb}
use lib.Dec.{ltb, ltb→lt, nltb→le}
use lib.ListN.{length, drop}
use Rattle.table.specs.Table.{Table, Grade, defaults_in, survivors_in}
use Rattle.cutoff.specs.declared.CheapestCutoff.{CheapestCutoff}
use Rattle.cutoff.specs.Best.{best}
use Rattle.cutoff.specs.Cutoff.{turned_away, cost, IsCheapest, cheapest_at, cheapest_of, NoDearer}
use Rattle.cutoff.proofs.Best.{IsBest, is_best, best_alike, ltb_order}

-- the cheapest cost
abbrev pub cheapest_cost : Table → ℕ → ℕ → ℕ
cheapest_cost t u v = (cheapest_of t u v).cost

-- The cheapest cutoff.

cheapest_best : (t : Table) (u v : ℕ) → IsBest ltb (cost t u v) (length t) (cheapest_at t u v)
cheapest_best t u v = is_best ltb ltb_order (cost t u v) (length t)

pub cheapest_is : (t : Table) (u v : ℕ) → IsCheapest t u v (cheapest_cost t u v)
unfolding cheapest_of
cheapest_is t u v =
    let b = cheapest_best t u v in
    record { cutoff = cheapest_at t u v; within = b.within; costs = refl; least = λ h l. nltb→le _ _ (b.none_better h l) }

pub cutoff_costs : (t : Table) (u v : ℕ)
    → ((cheapest_of t u v).cutoff ≤ length t) × (cost t u v (cheapest_of t u v).cutoff ≡ cheapest_cost t u v)
unfolding cheapest_of
cutoff_costs t u v = ((cheapest_best t u v).within, refl)

pub smaller_dearer : (t : Table) (u v h : ℕ) → h < (cheapest_of t u v).cutoff → cheapest_cost t u v < cost t u v h
unfolding cheapest_of
smaller_dearer t u v h l = ltb→lt _ _ ((cheapest_best t u v).smaller_worse h l)

pub cheapest_unique : (t : Table) (u v c d : ℕ) → IsCheapest t u v c → IsCheapest t u v d → c ≡ d
cheapest_unique t u v c d p q = omega (arith, p.least q.cutoff q.within, q.least p.cutoff p.within)

pub is_cheapest : (t : Table) (u v c : ℕ) → IsCheapest t u v c ↔ (c ≡ cheapest_cost t u v)
is_cheapest t u v c = (λ p. cheapest_unique t u v c _ p (cheapest_is t u v), λ e. rw e (cheapest_is t u v))

-- No dearer, by the cheapest costs themselves.
pub no_dearer : (u v : ℕ) (t₁ t₂ : Table) → NoDearer u v t₁ t₂ ↔ (cheapest_cost t₁ u v ≤ cheapest_cost t₂ u v)
no_dearer u v t₁ t₂ = (
  λ h. h _ _ (cheapest_is t₁ u v) (cheapest_is t₂ u v),
  λ h c₁ c₂ p₁ p₂. omega (arith, (is_cheapest t₁ u v c₁).0 p₁, (is_cheapest t₂ u v c₂).0 p₂),
)

-- Dearer, likewise.
pub dearer : (u v : ℕ) (t₁ t₂ : Table) → cheapest_cost t₂ u v < cheapest_cost t₁ u v
    → (c₁ c₂ : ℕ) → IsCheapest t₁ u v c₁ → IsCheapest t₂ u v c₂ → c₂ < c₁
dearer u v t₁ t₂ h c₁ c₂ p₁ p₂ = omega (arith, (is_cheapest t₁ u v c₁).0 p₁, (is_cheapest t₂ u v c₂).0 p₂)

-- What single cutoffs turn away and cost.

-- A cutoff that accepts the first grade turns away what it turns away of the rest.
away_rest : (r : Grade) (t : Table) (g : ℕ) → g ≤ length t → turned_away (r ∷ t) g ≡ turned_away t g
unfolding turned_away
away_rest r t g h = let k : suc (length t) - g ≡ suc (length t - g) = omega arith in ap (λ n. drop n (r ∷ t)) k

-- Turning every grade away costs all survivors.
cost-all : (t : Table) (u v : ℕ) → cost t u v (length t) ≡ v * survivors_in t
unfolding cost turned_away
cost-all t u v =
    let away : turned_away t (length t) ≡ t = ap (λ k. drop k t) (sub_self (length t)) in
    rw (away, sub_self, mul-zero) (omega arith)

pub cost_le_all : (t : Table) (u v : ℕ) → cheapest_cost t u v ≤ v * survivors_in t
cost_le_all t u v = omega (arith, cost-all t u v, (cheapest_is t u v).least (length t) (omega arith))

-- The worst grades hold at most the table's defaults and survivors.
pub drop_le : (t : Table) (k : ℕ) → (defaults_in (drop k t) ≤ defaults_in t) × (survivors_in (drop k t) ≤ survivors_in t)
unfolding defaults_in survivors_in
drop_le t zero = omega arith
drop_le [] (suc k) = omega arith
drop_le (r ∷ t) (suc k) = omega (arith, drop_le t k)

-- A cutoff that accepts the first grade misses its defaults, and costs that much more than on the rest.
cost_rest : (r : Grade) (t : Table) (u v g : ℕ) → g ≤ length t → cost (r ∷ t) u v g ≡ u * r.defaults + cost t u v g
unfolding cost turned_away defaults_in
cost_rest r t u v g h =
    rw (away_rest r t g h, add-sub_assoc (drop_le t (length t - g)).0 r.defaults, mul-add) (omega arith)

-- One more grade in front.

ltb_add : (k a b : ℕ) → ltb (k + a) (k + b) ≡ ltb a b
ltb_add k a b =
    elim (dec_le b a) [
      | yes le ↦ rw (le-ltb (k + a) (k + b) (omega arith), le-ltb a b le)
      | no gt ↦ rw (lt-ltb (k + a) (k + b) (omega arith), lt-ltb a b (omega arith))
    ]

-- Of the cutoffs that accept the first grade the cheapest is that of the rest.
best_rest : (r : Grade) (t : Table) (u v : ℕ) → best ltb (cost (r ∷ t) u v) (length t) ≡ cheapest_at t u v
best_rest r t u v =
    best_alike ltb ltb_order (cost (r ∷ t) u v) (cost t u v) (length t)
    (λ g h p q. rw (cost_rest r t u v g p, cost_rest r t u v h q) (ltb_add (u * r.defaults) (cost t u v g) (cost t u v h)))

cost-best : (r : Grade) (t : Table) (u v : ℕ) → cost (r ∷ t) u v (cheapest_at t u v) ≡ u * r.defaults + cost t u v (cheapest_at t u v)
cost-best r t u v = cost_rest r t u v (cheapest_at t u v) (cheapest_best t u v).within

pub cheapest_none : (u v : ℕ) → cheapest_of [] u v ≡ record { cutoff = 0; cost = 0 }
unfolding cheapest_of best survivors_in
cheapest_none u v = rw (cost-all [] u v, mul-zero)

-- It is cheaper to turn every grade away.
pub cheapest_away : (r : Grade) (t : Table) (u v : ℕ) → v * survivors_in (r ∷ t) < u * r.defaults + cheapest_cost t u v
    → cheapest_of (r ∷ t) u v ≡ record { cutoff = length (r ∷ t); cost = v * survivors_in (r ∷ t) }
unfolding cheapest_of best
cheapest_away r t u v h =
    let all = cost-all (r ∷ t) u v in
    rw (best_rest r t u v, all, cost-best r t u v, lt-ltb _ _ h, all)

-- It is no dearer to miss the defaults of the first grade and go on as before.
pub cheapest_accepts : (r : Grade) (t : Table) (u v : ℕ) → u * r.defaults + cheapest_cost t u v ≤ v * survivors_in (r ∷ t)
    → cheapest_of (r ∷ t) u v ≡ record { cutoff = (cheapest_of t u v).cutoff; cost = u * r.defaults + cheapest_cost t u v }
unfolding cheapest_of best
cheapest_accepts r t u v h =
    let rest = cost-best r t u v in
    rw (best_rest r t u v, cost-all (r ∷ t) u v, rest, le-ltb _ _ h, rest)

pub cost_cons : (r : Grade) (t : Table) (u v : ℕ)
    → cheapest_cost (r ∷ t) u v ≡ min (v * survivors_in (r ∷ t)) (u * r.defaults + cheapest_cost t u v)
cost_cons r t u v =
    elim (dec_le (u * r.defaults + cheapest_cost t u v) (v * survivors_in (r ∷ t))) [
      | yes le ↦ omega (arith, ap (λ (c : CheapestCutoff). c.cost) (cheapest_accepts r t u v le))
      | no gt ↦ omega (arith, ap (λ (c : CheapestCutoff). c.cost) (cheapest_away r t u v (omega arith)))
    ]
