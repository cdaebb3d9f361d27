-- What the searches both ways find in two scales, each in its weights, makes a verdict on them; and a verdict on the pooled scales of two tables is
-- one on the tables.
use Prim.Native.Nat.{ℕ, ◌*◌, ◌<◌}
use mathlib.Core.Path.{◌≡◌, refl, sym, ap, ◌∙◌}
use mathlib.Core.Bool.{Bool, true, false}
use mathlib.Core.List.{List, [], ◌∷◌, map}
use native.Mathlib.Nat.{mul-pos, mul-le-mul_right, mul-lt-mul_of_pos_left}
use native.Mathlib.Omega.{arith}
use lib.Dec.{T}
use Rattle.std.specs.Prelude.{Option, Some, None}
use Rattle.table.specs.Table.{Table, Grade, Every, Counted, Sound, survivors, defaults_in, survivors_in}
use Rattle.pooling.specs.declared.Block.{Block}
use Rattle.pooling.specs.Pool.{as_grade, pooled_scale}
use Rattle.pooling.specs.Private.{spanning}
use Rattle.pooling.proofs.Again.{pooled_again}
use Rattle.pooling.proofs.Joined.{pooled_totals}
use Rattle.pooling.proofs.Scale.{scale_occupied, scale_counted}
use Rattle.pooling.proofs.Spanning.{spanning_scale, spanning_rising}
use Rattle.cutoff.specs.Verdict.{break_even_lem, no_dearer_at, all, never_dearer_lem}
use Rattle.cutoff.specs.Sweep.{scale_in, Sweepable, in_weights, Light, Positive, Matched, Opposed, Comparable, DearerAtBlock, Finds}
use Rattle.cutoff.specs.Sweep.{price_in, SmallPrice, SmallPrices, dearer_at, FindsPrices, verdict_of, DearerInWeights, IsVerdictInWeights}
use Rattle.cutoff.specs.Cutoff.{NoDearer}
use Rattle.cutoff.specs.declared.Price.{Price}
use Rattle.cutoff.specs.declared.Verdict.{Verdict}
use Rattle.cutoff.specs.declared.Weights.{Weights}
use Rattle.cutoff.proofs.Cost.{cheapest_cost, cheapest_is, dearer}
use Rattle.cutoff.proofs.Pooled.{pool_alike}
use Rattle.cutoff.proofs.Weighted.{weighted_defaults, weighted-survivors, weighted_counted, weighted-cost, cost-times, pooled_weighted}
use Rattle.cutoff.proofs.Dominance.{break_even_decides}
use Rattle.cutoff.proofs.Settled.{never-dearer}

-- What a search says: whether the first never costs more, and otherwise prices at which it does.

abbrev pub calls : Option Price → Bool
calls None = true
calls (Some p) = false

pub record Told (never : Bool) (Costs-more : Price → Type 0) (a : Option Price) : Type 0 where
  pub called : calls a ≡ never
  pub pair : (p : Price) → a ≡ Some p → Costs-more p

told_nowhere : (never : Bool) (P : Price → Type 0) → T never → Told never P None
told_nowhere true P h = record { called = refl; pair = λ p e. let z : ◌≡◌ {A = ℕ} 0 1 = cc in absurd (omega arith) }
told_nowhere false P h = absurd h

told_at : (never : Bool) (P : Price → Type 0) (p : Price) → (T never → ⊥) → P p → Told never P (Some p)
told_at true P p h f = absurd (h tt)
told_at false P p h f = record { called = refl; pair = λ q e. let x : p ≡ q = cc in rw x at f }

-- The other way round.
pub swapped : {w₁ w₂ : Weights} {first second : List Block} → Opposed w₁ w₂ first second → Opposed w₂ w₁ second first
swapped k =
    let m = k.matched in
    record {
      sweepable₁ = k.sweepable₂;
      sweepable₂ = k.sweepable₁;
      light₁ = k.light₂;
      light₂ = k.light₁;
      matched = record {
        same_defaults = sym m.same_defaults;
        same_survivors = sym m.same_survivors;
        few_pairs = rw (m.same_defaults, m.same_survivors) at m.few_pairs;
      };
    }

module _ {w₁ w₂ : Weights} {first second : List Block} (k : Opposed w₁ w₂ first second) where
  -- What is found has prices of 32 bits.
  pub found_small : SmallPrices w₂ (scale_in first) → (a : Option Block) → Finds w₁ w₂ (scale_in first) (scale_in second) a → SmallPrice w₂ a
  found_small small None f = tt
  found_small small (Some b) f = (
    f.counted,
    (
      omega (arith, mul-le-mul_right w₂.defaults f.few_survivors, small.0),
      omega (arith, mul-le-mul_right w₂.survivors.0 f.few_defaults, small.1),
    ),
  )

  module _ (positive₁ : Positive w₁) (positive₂ : Positive w₂) where
    -- Block b is found: the prices are its break-even prices times the other scale's two weights.
    dearer_found : (b : Block) → DearerAtBlock w₁ w₂ (scale_in first) (scale_in second) b
        → DearerInWeights w₁ w₂ (scale_in first) (scale_in second) (price_in w₂ b)
    dearer_found b f =
        let u : ℕ = w₁.survivors.0 * survivors (as_grade b) in
        let v : ℕ = w₁.defaults * b.defaults in
        let n : ℕ = w₂.defaults * w₂.survivors.0 in
        let t₁ = in_weights w₁ (scale_in first) in
        let t₂ = in_weights w₂ (scale_in second) in
        let e : survivors (as_grade b) * w₂.defaults * (w₁.survivors.0 * w₂.survivors.0) ≡ n * u = omega arith in
        let d : b.defaults * w₂.survivors.0 * (w₁.defaults * w₂.defaults) ≡ n * v = omega arith in
        let lt : cheapest_cost t₂ u v < cheapest_cost t₁ u v = f.more _ _ (cheapest_is t₁ u v) (cheapest_is t₂ u v) in
        record {
          missed = mul-le-mul_right w₂.defaults f.few_survivors;
          turned-away = mul-le-mul_right w₂.survivors.0 f.few_defaults;
          more = rw (e, d)
              (dearer (n * u) (n * v) t₁ t₂
              (rw (cost-times n t₁ u v, cost-times n t₂ u v) (mul-lt-mul_of_pos_left lt (mul-pos positive₂.0 positive₂.1))));
        }

    -- No block is found.
    never : Every (λ b. NoDearer (survivors b) b.defaults (in_weights w₁ (scale_in first)) (in_weights w₂ (scale_in second))) (in_weights w₁ (scale_in first))
        → T (never_dearer_lem (in_weights w₁ (scale_in first)) (in_weights w₂ (scale_in second)))
    never f =
        let t₁ = in_weights w₁ (scale_in first) in
        let t₂ = in_weights w₂ (scale_in second) in
        let counted = weighted_counted w₁.defaults w₁.survivors.0 (scale_in first) in
        let own = k.sweepable₁ in
        (never-dearer t₁ t₂ counted k.matched.same_survivors).1
        ((break_even_decides t₁ t₂ counted k.matched.same_survivors).1
        (rw (pooled_weighted w₁.defaults w₁.survivors.0 positive₁.0 positive₁.1 (scale_in first) own.counted, pooled_again first own.rising own.occupied) f))

    -- One pair of prices is enough.
    somewhere : (p : Price) → DearerInWeights w₁ w₂ (scale_in first) (scale_in second) p
        → T (never_dearer_lem (in_weights w₁ (scale_in first)) (in_weights w₂ (scale_in second))) → ⊥
    somewhere p f h =
        let u : ℕ = p.u * (w₁.survivors.0 * w₂.survivors.0) in
        let v : ℕ = p.v * (w₁.defaults * w₂.defaults) in
        let t₁ = in_weights w₁ (scale_in first) in
        let t₂ = in_weights w₂ (scale_in second) in
        let one = cheapest_is t₁ u v in
        let two = cheapest_is t₂ u v in
        let good = (never-dearer t₁ t₂ (weighted_counted w₁.defaults w₁.survivors.0 (scale_in first)) k.matched.same_survivors).0 h in
        omega (arith, good u v _ _ one two, f.more _ _ one two)

    pub told : (a : Option Block) → Finds w₁ w₂ (scale_in first) (scale_in second) a
        → Told (never_dearer_lem (in_weights w₁ (scale_in first)) (in_weights w₂ (scale_in second)))
        (DearerInWeights w₁ w₂ (scale_in first) (scale_in second)) (dearer_at w₂ a)
    told None f = told_nowhere _ _ (never f)
    told (Some b) f = let d = dearer_found b f in told_at _ _ _ (somewhere _ d) d

    pub told_prices : {p : Option Price} → FindsPrices w₁ w₂ (scale_in first) (scale_in second) p
        → Told (never_dearer_lem (in_weights w₁ (scale_in first)) (in_weights w₂ (scale_in second)))
        (DearerInWeights w₁ w₂ (scale_in first) (scale_in second)) p
    told_prices f = rw f.prices (told f.block f.finds)

-- Two searches make a verdict.
judged : (w₁ w₂ : Weights) (t₁ t₂ : Table) (a b : Option Price)
    → Told (never_dearer_lem (in_weights w₁ t₁) (in_weights w₂ t₂)) (DearerInWeights w₁ w₂ t₁ t₂) a
    → Told (never_dearer_lem (in_weights w₂ t₂) (in_weights w₁ t₁)) (DearerInWeights w₂ w₁ t₂ t₁) b → IsVerdictInWeights w₁ w₂ t₁ t₂ (verdict_of a b)
judged w₁ w₂ t₁ t₂ None None f g =
    record { first = f.called; second = g.called; first-dearer = λ r e. absurd e; second-dearer = λ r e. absurd e }
judged w₁ w₂ t₁ t₂ None (Some q) f g =
    record { first = f.called; second = g.called; first-dearer = λ r e. absurd e; second-dearer = λ r e. rw e (g.pair q refl) }
judged w₁ w₂ t₁ t₂ (Some p) None f g =
    record { first = f.called; second = g.called; first-dearer = λ r e. rw e (f.pair p refl); second-dearer = λ r e. absurd e }
judged w₁ w₂ t₁ t₂ (Some p) (Some q) f g =
    record { first = f.called; second = g.called; first-dearer = λ r e. rw e (f.pair p refl); second-dearer = λ r e. rw e (g.pair q refl) }

pub verdict_is : {w₁ w₂ : Weights} {first second : List Block} → Comparable w₁ w₂ first second
    → {p q : Option Price} → FindsPrices w₁ w₂ (scale_in first) (scale_in second) p → FindsPrices w₂ w₁ (scale_in second) (scale_in first) q
    → {v : Verdict} → v ≡ verdict_of p q → IsVerdictInWeights w₁ w₂ (scale_in first) (scale_in second) v
verdict_is {w₁} {w₂} {first} {second} k f g e =
    rw e
    (judged w₁ w₂ (scale_in first) (scale_in second) _ _ (told_prices k.opposed k.positive.0 k.positive.1 f)
    (told_prices (swapped k.opposed) k.positive.1 k.positive.0 g))

-- The blocks of a sound table, as the code holds them, are its pooled scale and can be searched.
module _ (t : Table) (bs : List Block) (e : bs ≡ spanning t) where
  pub held_scale : scale_in bs ≡ pooled_scale t
  held_scale = ap (map as_grade) e ∙ spanning_scale t

  pub sweepable : Sound t → Sweepable bs
  sweepable sound = record {
    rising = rw e (spanning_rising t);
    occupied = rw held_scale (scale_occupied t);
    counted = rw held_scale (scale_counted t sound.counted);
    total = rw held_scale (omega (arith, pooled_totals t sound.counted, sound.total));
  }

-- In weights they have the table's totals, and cost what it does.
module _ (w : Weights) (t : Table) (counted : Every Counted t) where
  pooled_defaults : defaults_in (in_weights w (pooled_scale t)) ≡ defaults_in (in_weights w t)
  pooled_defaults =
      weighted_defaults w.defaults w.survivors.0 (pooled_scale t)
      ∙ ap (λ n. w.defaults * n) (pooled_totals t counted).1
      ∙ sym (weighted_defaults w.defaults w.survivors.0 t)

  pooled_survivors : survivors_in (in_weights w (pooled_scale t)) ≡ survivors_in (in_weights w t)
  pooled_survivors =
      weighted-survivors w.defaults w.survivors.0 (pooled_scale t)
      ∙ ap (λ n. w.survivors.0 * n) (pool_alike t counted).same_survivors
      ∙ sym (weighted-survivors w.defaults w.survivors.0 t)

  pooled_cost : (u v : ℕ) → cheapest_cost (in_weights w (pooled_scale t)) u v ≡ cheapest_cost (in_weights w t) u v
  pooled_cost u v =
      weighted-cost w.defaults w.survivors.0 (pooled_scale t) u v
      ∙ (pool_alike t counted).same_cost (u * w.defaults) (v * w.survivors.0)
      ∙ sym (weighted-cost w.defaults w.survivors.0 t u v)

  -- Pooled in weights, they stay what they are.
  pooled_blocks : Positive w → pooled_scale (in_weights w (pooled_scale t)) ≡ pooled_scale (in_weights w t)
  pooled_blocks positive =
      let own = pooled_again (spanning t) (spanning_rising t) (rw (spanning_scale t) (scale_occupied t)) in
      rw (
        pooled_weighted w.defaults w.survivors.0 positive.0 positive.1 (pooled_scale t) (scale_counted t counted),
        rw (spanning_scale t) at own,
        pooled_weighted w.defaults w.survivors.0 positive.0 positive.1 t counted,
      ) refl

pub pooled_matched : (w₁ w₂ : Weights) (t₁ t₂ : Table) → Every Counted t₁ → Every Counted t₂ → Matched (in_weights w₁ t₁) (in_weights w₂ t₂)
    → Matched (in_weights w₁ (pooled_scale t₁)) (in_weights w₂ (pooled_scale t₂))
pooled_matched w₁ w₂ t₁ t₂ counted₁ counted₂ m =
    let d₁ = pooled_defaults w₁ t₁ counted₁ in
    let s₁ = pooled_survivors w₁ t₁ counted₁ in
    record {
      same_defaults = d₁ ∙ m.same_defaults ∙ sym (pooled_defaults w₂ t₂ counted₂);
      same_survivors = s₁ ∙ m.same_survivors ∙ sym (pooled_survivors w₂ t₂ counted₂);
      few_pairs = rw (d₁, s₁) m.few_pairs;
    }

-- Tests that answer each grade the same answer a table the same.
all_same : (f g : Grade → Bool) → ((b : Grade) → f b ≡ g b) → (t : Table) → all f t ≡ all g t
unfolding all
all_same f g e [] = refl
all_same f g e (b ∷ t) = rw (e b, all_same f g e t) refl

-- A verdict on the pooled scales of two tables is one on the tables.
module _ (w₁ w₂ : Weights) (t₁ t₂ : Table) (counted₁ : Every Counted t₁) (counted₂ : Every Counted t₂) where
  pooled_never : Positive w₁
      → never_dearer_lem (in_weights w₁ (pooled_scale t₁)) (in_weights w₂ (pooled_scale t₂)) ≡ never_dearer_lem (in_weights w₁ t₁) (in_weights w₂ t₂)
  pooled_never positive =
      let scale₁ = in_weights w₁ (pooled_scale t₁) in
      let scale₂ = in_weights w₂ (pooled_scale t₂) in
      let same = all_same (λ b. no_dearer_at scale₁ scale₂ (break_even_lem b)) (λ b. no_dearer_at (in_weights w₁ t₁) (in_weights w₂ t₂) (break_even_lem b))
      (λ b. rw (pooled_cost w₁ t₁ counted₁ (survivors b) b.defaults, pooled_cost w₂ t₂ counted₂ (survivors b) b.defaults) refl) (pooled_scale scale₁) in
      same ∙ ap (λ t. all (λ b. no_dearer_at (in_weights w₁ t₁) (in_weights w₂ t₂) (break_even_lem b)) t) (pooled_blocks w₁ t₁ counted₁ positive)

  pooled_dearer : (p : Price) → DearerInWeights w₁ w₂ (pooled_scale t₁) (pooled_scale t₂) p → DearerInWeights w₁ w₂ t₁ t₂ p
  pooled_dearer p d =
      let u : ℕ = p.u * (w₁.survivors.0 * w₂.survivors.0) in
      let v : ℕ = p.v * (w₁.defaults * w₂.defaults) in
      let lt = d.more _ _ (cheapest_is (in_weights w₁ (pooled_scale t₁)) u v) (cheapest_is (in_weights w₂ (pooled_scale t₂)) u v) in
      record {
        missed = rw (pool_alike t₁ counted₁).same_survivors at d.missed;
        turned-away = rw (pooled_totals t₁ counted₁).1 at d.turned-away;
        more = dearer u v (in_weights w₁ t₁) (in_weights w₂ t₂) (rw (pooled_cost w₁ t₁ counted₁ u v, pooled_cost w₂ t₂ counted₂ u v) at lt);
      }

pooled_verdict : (w₁ w₂ : Weights) (t₁ t₂ : Table) → Every Counted t₁ → Every Counted t₂ → Positive w₁ → Positive w₂ → {v : Verdict}
    → IsVerdictInWeights w₁ w₂ (pooled_scale t₁) (pooled_scale t₂) v → IsVerdictInWeights w₁ w₂ t₁ t₂ v
pooled_verdict w₁ w₂ t₁ t₂ counted₁ counted₂ positive₁ positive₂ is =
    record {
      first = is.first ∙ pooled_never w₁ w₂ t₁ t₂ counted₁ counted₂ positive₁;
      second = is.second ∙ pooled_never w₂ w₁ t₂ t₁ counted₂ counted₁ positive₂;
      first-dearer = λ p h. pooled_dearer w₁ w₂ t₁ t₂ counted₁ counted₂ p (is.first-dearer p h);
      second-dearer = λ p h. pooled_dearer w₂ w₁ t₂ t₁ counted₂ counted₁ p (is.second-dearer p h);
    }

-- What the weights have to be: in the other's the prices are numbers of 32 bits.
pub record Weighable (own other : Weights) (t : Table) : Type 0 where
  pub positive : Positive own
  pub light : Light own
  pub small : SmallPrices other t

-- Two sound tables in weights.
pub record Judges (w₁ w₂ : Weights) (t₁ t₂ : Table) : Type 0 where
  pub sound₁ : Sound t₁
  pub sound₂ : Sound t₂
  pub ok₁ : Weighable w₁ w₂ t₁
  pub ok₂ : Weighable w₂ w₁ t₂
  pub matched : Matched (in_weights w₁ t₁) (in_weights w₂ t₂)

small_pooled : (other : Weights) (t : Table) (bs : List Block) → bs ≡ spanning t → Every Counted t → SmallPrices other t → SmallPrices other (scale_in bs)
small_pooled other t bs e counted small =
    rw (held_scale t bs e, (pool_alike t counted).same_survivors, (pooled_totals t counted).1) small

-- Their blocks, as the code holds them, can be searched, and the verdict on these is that on the tables.
module _ {w₁ w₂ : Weights} {t₁ t₂ : Table} (j : Judges w₁ w₂ t₁ t₂) {first second : List Block} (e₁ : first ≡ spanning t₁) (e₂ : second ≡ spanning t₂) where
  pub comparable : Comparable w₁ w₂ first second
  comparable = record {
    opposed = record {
      sweepable₁ = sweepable t₁ first e₁ j.sound₁;
      sweepable₂ = sweepable t₂ second e₂ j.sound₂;
      light₁ = j.ok₁.light;
      light₂ = j.ok₂.light;
      matched = rw (held_scale t₁ first e₁, held_scale t₂ second e₂) (pooled_matched w₁ w₂ t₁ t₂ j.sound₁.counted j.sound₂.counted j.matched);
    };
    positive = (j.ok₁.positive, j.ok₂.positive);
    small = (small_pooled w₂ t₁ first e₁ j.sound₁.counted j.ok₁.small, small_pooled w₁ t₂ second e₂ j.sound₂.counted j.ok₂.small);
  }

  pub tables_judged : {v : Verdict} → IsVerdictInWeights w₁ w₂ (scale_in first) (scale_in second) v → IsVerdictInWeights w₁ w₂ t₁ t₂ v
  tables_judged is =
      pooled_verdict w₁ w₂ t₁ t₂ j.sound₁.counted j.sound₂.counted j.ok₁.positive j.ok₂.positive
      (rw (held_scale t₁ first e₁, held_scale t₂ second e₂) at is)
