-- A search over the blocks of two scales, from the worst to the best: the cutoffs that it holds, and what a turn of it does at the break-even
-- prices of a block of the first.
use Prim.Native.Nat.{ℕ, ◌+◌, ◌-◌, ◌*◌, ◌≤◌, ◌<◌}
use mathlib.Core.Path.{◌≡◌, sym, ap, ◌∙◌}
use mathlib.Core.Bool.{Bool, true, false}
use mathlib.Core.List.{List, [], ◌∷◌, ◌++◌}
use native.Mathlib.Nat.{mul-zero, mul-le-mul, mul-le-mul_left, mul-le-mul_right}
use native.Mathlib.Omega.{arith}
use borrow.Author.Tests.{leb-true, leb-false, ltb-true, ltb-false}
use lib.Dec.{leb, ltb}
use lib.IntN.{pos, ◌+ℤ◌, ◌-ℤ◌, ◌*ℤ◌}
use lib.ListN.{length, take, drop, length-map}
use lib.Seq.{length-take-le, take-length, drop-length}
use lib.Signed.{lt_z}
use Rattle.table.specs.Table.{Table, Grade, Every, Counted, survivors, defaults_in, survivors_in}
use Rattle.table.proofs.Sums.{obligors_split}
use Rattle.pooling.specs.declared.Block.{Block}
use Rattle.pooling.specs.Pool.{as_grade}
use Rattle.cutoff.specs.declared.Counts.{Counts}
use Rattle.cutoff.specs.declared.Lead.{Lead}
use Rattle.cutoff.specs.declared.Weights.{Weights}
use Rattle.cutoff.specs.Cutoff.{NoDearer}
use Rattle.cutoff.specs.Sweep.{scale_in, Sweepable, in_weights, Light, Opposed, most_pairs, counts_in, Few, FitsSigned, ahead, behind, caught_after, lost_after}
use Rattle.cutoff.specs.Sweep.{Leads, IsLead, accepted_in, SmallIn, Turned, DearerAtBlock}
use Rattle.cutoff.proofs.Cost.{dearer, no_dearer, drop_le}
use Rattle.cutoff.proofs.Odds.{OddsBelow, OddsRise, Away, odds_at_most, rising_odds}
use Rattle.cutoff.proofs.Weighted.{weigh-survivors, weighted_defaults, weighted-survivors, weighted-cost}
use Rattle.cutoff.proofs.Cuts.{Cuts, odds_worse, accepted_le, accepted_before, accepted_after, accepted_fewer}
use Rattle.cutoff.proofs.Cuts.{accepted_cuts, cuts_at, cuts_dearer, cuts_no_dearer}
use Rattle.cutoff.proofs.Held.{grade_before, Next, next, Last, last}
use Rattle.cutoff.proofs.Leads.{FewIn, few_worst, with_next, few_next, goes_ahead, ahead_fits, falls_behind, behind_fits, costs_fit, costs_compare}

-- The next better block, as the code takes it.
pub record Turn (bs : List Block) (k : ℕ) (rest : List Block) (b : Block) : Type 0 where
  pub last : Last bs k rest b
  pub here : Next (scale_in bs) k
  pub counted : Counted (as_grade b) × (b.obligors.0 ≤ 1_000_000)

turn : {bs : List Block} {k : ℕ} {left rest : List Block} {b : Block} → Sweepable bs → k ≤ length (scale_in bs) → left ≡ take k bs
    → left ≡ rest ++ b ∷ [] → Turn bs k rest b
turn {bs} {k} {left} {rest} {b} known few is e =
    let l = last bs k rest b (rw length-map at few) (sym is ∙ e) in
    let n = next (scale_in bs) known.counted k l.some few in
    let all = obligors_split (scale_in bs) known.counted in
    let small : (grade_before (scale_in bs) k).obligors ≤ 1_000_000 = omega (arith, n.counted, n.few_defaults, n.few_survivors, known.total) in
    record { last = l; here = n; counted = (rw (← l.here) at n.counted, omega (arith, ap (λ (r : Grade). r.obligors) l.here, small)) }

turn_counts : {bs : List Block} {k : ℕ} {rest : List Block} {b : Block} → Turn bs k rest b → (weights : Weights) {c : Counts}
    → c ≡ counts_in weights (as_grade b) → c ≡ counts_in weights (grade_before (scale_in bs) k)
turn_counts t weights f = f ∙ ap (λ (g : Grade). counts_in weights g) t.last.here

-- What a scale counts is few, in light weights.
few_in : {bs : List Block} (weights : Weights) → Sweepable bs → Light weights → FewIn weights (scale_in bs)
few_in {bs} weights known light =
    let all = obligors_split (scale_in bs) known.counted in
    let d : defaults_in (scale_in bs) ≤ 1_000_000 = omega (arith, all, known.total) in
    let s : survivors_in (scale_in bs) ≤ 1_000_000 = omega (arith, all, known.total) in
    (omega (arith, mul-le-mul light.0 d), omega (arith, mul-le-mul light.1 s))

-- No block is left.
none_left : (bs : List Block) {k : ℕ} {rest : List Block} → k ≤ length (scale_in bs) → rest ≡ take k bs → length rest ≡ 0 → k ≡ 0
none_left bs {k} {rest} few is none = sym (length-take-le k bs (rw length-map at few)) ∙ ap length (sym is) ∙ none

-- The second's cheapest cutoff at the break-even prices of a block: on the way from l₀, which turns nothing away that is accepted there. So many of
-- the second's blocks are accepted yet.
pub record Turning (w : Weights) (at : Counts) (bs : List Block) (l₀ : Lead) (rest : List Block) (l : Lead) : Type 0 where
  pub accepted : ℕ
  pub few : accepted ≤ length (scale_in bs)
  pub is_left : rest ≡ take accepted bs
  pub fewer : accepted_in w at (scale_in bs) ≤ accepted
  pub leads : (k y x : ℕ) → Leads w (scale_in bs) k y x l₀ → Leads w (scale_in bs) accepted y x l

module _ {w : Weights} {at : Counts} {bs : List Block} {l₀ : Lead} {left : List Block} {l : Lead} (on : Turning w at bs l₀ left l) where
  abbrev t : Table
  t = scale_in bs

  turning_ended : accepted_in w at (scale_in bs) ≡ on.accepted → Turned w at (scale_in bs) l₀ l
  turning_ended e k y x h = rw e (on.leads k y x h)

  pub turning_next : {rest : List Block} {b : Block} → Sweepable bs → left ≡ rest ++ b ∷ [] → Turn bs on.accepted rest b
  turning_next known e = turn known on.few on.is_left e

  pub turning_done : length left ≡ 0 → Turned w at (scale_in bs) l₀ l
  turning_done none = turning_ended (omega (arith, on.fewer, none_left bs on.few on.is_left none))

  abbrev g : Grade
  g = grade_before t on.accepted

  -- A turn looks at the next better block, which counts c.
  module _ {rest : List Block} {b : Block} (next : Turn bs on.accepted rest b) {c : Counts} (e : c ≡ counts_in w (as_grade b)) where
    n : Next (scale_in bs) on.accepted
    n = next.here

    is : c ≡ counts_in w (grade_before (scale_in bs) on.accepted)
    is = turn_counts next w e

    -- What it costs is small where all of the scale is.
    pub turning_small : SmallIn w (scale_in bs) at
        → (at.defaults * c.survivors ≤ most_pairs) × (at.survivors * c.defaults ≤ most_pairs)
    turning_small small =
        let s : survivors g ≤ survivors_in t = omega (arith, n.few_survivors) in
        let d : g.defaults ≤ defaults_in t = omega (arith, n.few_defaults) in
        rw is (
          omega (arith, mul-le-mul_left at.defaults (mul-le-mul_left w.survivors.0 s), small.0),
          omega (arith, mul-le-mul_left at.survivors (mul-le-mul_left w.defaults d), small.1),
        )

    -- It is not turned away.
    pub turning_stops : OddsRise (scale_in bs) → leb (at.defaults * c.survivors) (at.survivors * c.defaults) ≡ false
        → Turned w at (scale_in bs) l₀ l
    turning_stops odds test =
        let lt = rw is at (leb-false (at.defaults * c.survivors) (at.survivors * c.defaults) test) in
        let p = take (on.accepted - 1) t in
        let s = drop on.accepted t in
        let after = accepted_after (at.survivors * w.defaults) (at.defaults * w.survivors.0) p g s (rw n.split odds) (omega (arith, lt)) in
        turning_ended (omega (arith, rw n.split at after, n.better, on.fewer))

    -- It is.
    pub turning_on : {r : Lead} → leb (at.defaults * c.survivors) (at.survivors * c.defaults) ≡ true → r ≡ ahead l c → Turning w at bs l₀ rest r
    turning_on {r} test f =
        let le = rw is at (leb-true (at.defaults * c.survivors) (at.survivors * c.defaults) test) in
        let p = take (on.accepted - 1) t in
        let s = drop on.accepted t in
        let some = next.last.some in
        let before = accepted_before (at.survivors * w.defaults) (at.defaults * w.survivors.0) p g s (omega (arith, le)) in
        record {
          accepted = on.accepted - 1;
          few = omega (arith, on.few);
          is_left = next.last.before;
          fewer = omega (arith, rw n.split at before, n.better);
          leads = λ k y x h. goes_ahead (on.leads k y x h) n (f ∙ rw is);
        }

    -- It goes on from this lead.
    pub turning_fits : Sweepable bs → Light w → IsLead w (scale_in bs) l₀
        → (1 ≤ l.accepted) × (Few c × (FitsSigned (l.defaults +ℤ pos c.defaults) × FitsSigned (l.survivors +ℤ pos c.survivors)))
    turning_fits known light from =
        let few = few_in w known light in
        let leads = on.leads _ _ _ from.leads in (
          omega (arith, next.last.some, leads.accepted),
          (rw is (few_next w n few), rw is (ahead_fits leads n few from.few_caught from.few_lost)),
        )

-- What is turned away at the prices of a block is turned away at those of a better one.
away_better : (own of : Weights) (b c r : Grade) → OddsBelow b c
    → Away (own.survivors.0 * survivors c * of.defaults) (own.defaults * c.defaults * of.survivors.0) r
    → Away (own.survivors.0 * survivors b * of.defaults) (own.defaults * b.defaults * of.survivors.0) r
away_better own of b c r h k =
    omega (
      arith,
      odds_at_most (own.defaults * of.survivors.0 * survivors r) (own.survivors.0 * of.defaults * r.defaults)
          b.defaults (survivors b) c.defaults (survivors c) h (omega arith),
    )

-- Two scales that match in weights: some of the first's blocks are left, and all others have been tried and found no dearer; l is the lead of
-- a cutoff of the second over the one that turns them away, and at the prices of the next it turns nothing away that is accepted.
pub record Swept (w₁ w₂ : Weights) (bs : List Block) (t₂ : Table) (rest : List Block) (l : Lead) : Type 0 where
  pub left : ℕ
  pub few_left : left ≤ length (scale_in bs)
  pub is_left : rest ≡ take left bs
  pub accepted : ℕ
  pub few : accepted ≤ length t₂
  pub leads : Leads w₂ t₂ accepted (caught_after w₁ (scale_in bs) left) (lost_after w₁ (scale_in bs) left) l
  pub tried : Every (λ b. NoDearer (survivors b) b.defaults (in_weights w₁ (scale_in bs)) (in_weights w₂ t₂)) (in_weights w₁ (drop left (scale_in bs)))
  pub fewer : 0 < left → accepted_in w₂ (counts_in w₁ (grade_before (scale_in bs) left)) t₂ ≤ l.accepted

-- What is known of them.
pub record Scales (w₁ w₂ : Weights) (t₁ t₂ : Table) : Type 0 where
  pub odds₁ : OddsRise t₁
  pub odds₂ : OddsRise t₂
  pub counted : Every Counted t₁
  pub few₁ : FewIn w₁ t₁
  pub few₂ : FewIn w₂ t₂
  pub same_defaults : w₁.defaults * defaults_in t₁ ≡ w₂.defaults * defaults_in t₂
  pub same_survivors : w₁.survivors.0 * survivors_in t₁ ≡ w₂.survivors.0 * survivors_in t₂
  pub few_pairs : w₁.defaults * defaults_in t₁ * (w₁.survivors.0 * survivors_in t₁) ≤ most_pairs

scales : {first second : List Block} {w₁ w₂ : Weights} → Opposed w₁ w₂ first second → Scales w₁ w₂ (scale_in first) (scale_in second)
scales {first} {second} {w₁} {w₂} k =
    let d₁ = weighted_defaults w₁.defaults w₁.survivors.0 (scale_in first) in
    let s₁ = weighted-survivors w₁.defaults w₁.survivors.0 (scale_in first) in
    record {
      odds₁ = rising_odds _ k.sweepable₁.rising k.sweepable₁.counted;
      odds₂ = rising_odds _ k.sweepable₂.rising k.sweepable₂.counted;
      counted = k.sweepable₁.counted;
      few₁ = few_in w₁ k.sweepable₁ k.light₁;
      few₂ = few_in w₂ k.sweepable₂ k.light₂;
      same_defaults = sym d₁ ∙ k.matched.same_defaults ∙ weighted_defaults w₂.defaults w₂.survivors.0 (scale_in second);
      same_survivors = sym s₁ ∙ k.matched.same_survivors ∙ weighted-survivors w₂.defaults w₂.survivors.0 (scale_in second);
      few_pairs = rw (d₁, s₁) at k.matched.few_pairs;
    }

-- Nothing has been tried.
pub none_swept : (w₁ w₂ : Weights) (first second : List Block) {l : Lead}
    → l ≡ record { accepted = length second; defaults = pos 0; survivors = pos 0 } → {rest : List Block} → rest ≡ first
    → Swept w₁ w₂ first (scale_in second) rest l
unfolding defaults_in survivors_in
none_swept w₁ w₂ first second {l} e whole =
    let t₁ = scale_in first in
    let t₂ = scale_in second in
    let all : length second ≡ length t₂ = sym (length-map second as_grade) in
    record {
      left = length t₁;
      few_left = omega arith;
      is_left = rw length-map (whole ∙ sym (take-length first));
      accepted = length t₂;
      few = omega arith;
      leads = rw e record {
        accepted = all;
        defaults = rw (drop-length t₁, drop-length t₂, mul-zero w₁.defaults, mul-zero w₂.defaults);
        survivors = rw (drop-length t₁, drop-length t₂, mul-zero w₁.survivors.0, mul-zero w₂.survivors.0);
      };
      tried = rw (drop-length t₁) tt;
      fewer = λ _.
          let a = counts_in w₁ (grade_before t₁ (length t₁)) in
          rw e (omega (arith, all, accepted_le (a.survivors * w₂.defaults) (a.defaults * w₂.survivors.0) t₂));
    }

-- The next better block of the first.
pub swept_next : {w₁ w₂ : Weights} {bs : List Block} {t₂ : Table} {left : List Block} {l : Lead} → Sweepable bs → (inv : Swept w₁ w₂ bs t₂ left l)
    → {rest : List Block} {x : Block} → left ≡ rest ++ x ∷ [] → Turn bs inv.left rest x
swept_next known inv e = turn known inv.few_left inv.is_left e

-- None is left.
pub swept_all : {w₁ w₂ : Weights} {bs : List Block} {t₂ : Table} {left : List Block} {l : Lead} → Swept w₁ w₂ bs t₂ left l → length left ≡ 0
    → Every (λ b. NoDearer (survivors b) b.defaults (in_weights w₁ (scale_in bs)) (in_weights w₂ t₂)) (in_weights w₁ (scale_in bs))
swept_all {bs = bs} inv none = rw (none_left bs inv.few_left inv.is_left none) at inv.tried

-- A turn at its break-even prices.
module _ {w₁ w₂ : Weights} {bs second left : List Block} {l : Lead} (opposed : Opposed w₁ w₂ bs second)
    (inv : Swept w₁ w₂ bs (scale_in second) left l) {rest : List Block} {x : Block} (turned-to : Turn bs inv.left rest x)
    {a : Counts} (counts : a ≡ counts_in w₁ (as_grade x)) where
  known : Scales w₁ w₂ (scale_in bs) (scale_in second)
  known = scales opposed

  at : a ≡ counts_in w₁ (grade_before (scale_in bs) inv.left)
  at = turn_counts turned-to w₁ counts

  abbrev t₂ : Table
  t₂ = scale_in second

  abbrev t₁ : Table
  t₁ = scale_in bs

  abbrev b : Grade
  b = grade_before t₁ inv.left

  here : Next t₁ inv.left
  here = turned-to.here

  abbrev u : ℕ
  u = w₁.survivors.0 * survivors b

  abbrev v : ℕ
  v = w₁.defaults * b.defaults

  -- All that both scales count costs little,
  small : (v * (w₁.survivors.0 * survivors_in t₁) ≤ most_pairs) × (u * (w₁.defaults * defaults_in t₁) ≤ most_pairs)
  small =
      let d : b.defaults ≤ defaults_in t₁ = omega (arith, here.few_defaults) in
      let s : survivors b ≤ survivors_in t₁ = omega (arith, here.few_survivors) in (
        omega (arith, mul-le-mul_right (w₁.survivors.0 * survivors_in t₁) (mul-le-mul_left w₁.defaults d), known.few_pairs),
        omega (arith, mul-le-mul_right (w₁.defaults * defaults_in t₁) (mul-le-mul_left w₁.survivors.0 s), known.few_pairs),
      )

  pub small₂ : SmallIn w₂ t₂ a
  small₂ = rw (at, ← known.same_survivors, ← known.same_defaults) small

  pub few_at : Few a
  few_at = rw at (few_next w₁ here known.few₁)

  -- and their defaults the same.
  same : u * w₁.defaults * defaults_in t₁ ≡ u * w₂.defaults * defaults_in t₂
  same = omega (arith, ap (λ n. u * n) known.same_defaults)

  pub is_lead : IsLead w₂ t₂ l
  is_lead =
      let f = few_worst w₁ t₁ inv.left known.few₁ in
      record {
        caught = caught_after w₁ t₁ inv.left;
        lost = lost_after w₁ t₁ inv.left;
        few = omega (arith, inv.few, inv.leads.accepted);
        few_caught = f.0;
        few_lost = f.1;
        leads = rw (← inv.leads.accepted) at inv.leads;
      }

  pub fewer_at : accepted_in w₂ a t₂ ≤ l.accepted
  fewer_at = rw at (inv.fewer turned-to.last.some)

  -- The first's cutoff in hand is its cheapest.
  cuts₁ : Cuts t₁ (drop inv.left t₁) (u * w₁.defaults) (v * w₁.survivors.0)
  cuts₁ =
      let k = inv.left in
      let e : w₁.survivors.0 * w₁.defaults * survivors b ≡ u * w₁.defaults = omega arith in
      let f : w₁.survivors.0 * w₁.defaults * b.defaults ≡ v * w₁.survivors.0 = omega arith in
      rw (e, f, here.split) at (cuts_at (w₁.survivors.0 * w₁.defaults) (take (k - 1) t₁) b (drop k t₁) (rw here.split known.odds₁))

  -- So is the second's, once it is turned to these prices; r is its lead.
  module _ {r : Lead} (turned : Turned w₂ a t₂ l r) where
    abbrev k₂ : ℕ
    k₂ = accepted_in w₂ (counts_in w₁ b) t₂

    cuts₂ : Cuts t₂ (drop k₂ t₂) (u * w₂.defaults) (v * w₂.survivors.0)
    cuts₂ = accepted_cuts t₂ (u * w₂.defaults) (v * w₂.survivors.0) known.odds₂

    leads_at : Leads w₂ t₂ k₂ (caught_after w₁ t₁ inv.left) (lost_after w₁ t₁ inv.left) r
    leads_at = rw at at (turned inv.accepted (caught_after w₁ t₁ inv.left) (lost_after w₁ t₁ inv.left) inv.leads)

    pub costs_fitting : FitsSigned (pos a.defaults *ℤ r.survivors) × FitsSigned (pos a.survivors *ℤ r.defaults)
    costs_fitting =
        let f = drop_le t₁ inv.left in
        let d = mul-le-mul_left u (mul-le-mul_left w₁.defaults f.0) in
        let s = mul-le-mul_left v (mul-le-mul_left w₁.survivors.0 f.1) in
        rw at (costs_fit leads_at (counts_in w₁ b) (rw at at small₂) (omega (arith, d, small.1)) (omega (arith, s, small.0)))

    pub passed_fitting : FitsSigned (r.defaults -ℤ pos a.defaults) × FitsSigned (r.survivors -ℤ pos a.survivors)
    passed_fitting =
        let f = few_worst w₁ t₁ (inv.left - 1) known.few₁ in
        let n = with_next w₁ here in
        rw at (behind_fits leads_at (counts_in w₁ b) known.few₂ (omega (arith, f, n)) (omega (arith, f, n)))

    -- What the two sides of the code's test come to.
    abbrev side₁ : ℕ
    side₁ = v * lost_after w₂ t₂ k₂ + u * caught_after w₁ t₁ inv.left

    abbrev side₂ : ℕ
    side₂ = u * caught_after w₂ t₂ k₂ + v * lost_after w₁ t₁ inv.left

    test : lt_z (pos a.defaults *ℤ r.survivors) (pos a.survivors *ℤ r.defaults) ≡ ltb side₁ side₂
    test = rw at (costs_compare leads_at (counts_in w₁ b))

    pub found : {shown : Bool} → shown ≡ lt_z (pos a.defaults *ℤ r.survivors) (pos a.survivors *ℤ r.defaults) → shown ≡ true → DearerAtBlock w₁ w₂ t₁ t₂ x
    found is holds =
        let e = turned-to.last.here in
        let lt = cuts_dearer same cuts₁ cuts₂ (omega (arith, ltb-true side₁ side₂ (sym (is ∙ test) ∙ holds))) in
        let more = dearer u v (in_weights w₁ t₁) (in_weights w₂ t₂)
        (omega (arith, weighted-cost w₁.defaults w₁.survivors.0 t₁ u v, weighted-cost w₂.defaults w₂.survivors.0 t₂ u v, lt)) in
        let d = ap (λ (g : Grade). g.defaults) e in
        let s = ap (λ (g : Grade). survivors g) e in
        record {
          counted = rw (← e) at here.counted;
          few_defaults = omega (arith, d, here.few_defaults);
          few_survivors = omega (arith, s, here.few_survivors);
          more = rw (s, d) more;
        }

    pub passes : {s : Lead} {shown : Bool} → shown ≡ lt_z (pos a.defaults *ℤ r.survivors) (pos a.survivors *ℤ r.defaults) → shown ≡ false
        → s ≡ behind r a → Swept w₁ w₂ bs (scale_in second) rest s
    passes {s} is fails e =
        let k = inv.left in
        let le = cuts_no_dearer same cuts₁ cuts₂ (omega (arith, ltb-false side₁ side₂ (sym (is ∙ test) ∙ fails))) in
        let good = (no_dearer u v (in_weights w₁ t₁) (in_weights w₂ t₂)).1
        (omega (arith, weighted-cost w₁.defaults w₁.survivors.0 t₁ u v, weighted-cost w₂.defaults w₂.survivors.0 t₂ u v, le)) in
        let n = with_next w₁ here in
        let leads : Leads w₂ t₂ k₂ (caught_after w₁ t₁ (k - 1)) (lost_after w₁ t₁ (k - 1)) s =
        rw (n.0, n.1) (falls_behind leads_at (counts_in w₁ b) (rw at at e)) in
        record {
          left = k - 1;
          few_left = omega (arith, inv.few_left);
          is_left = turned-to.last.before;
          accepted = k₂;
          few = accepted_le (u * w₂.defaults) (v * w₂.survivors.0) t₂;
          leads = leads;
          tried = rw here.down (rw (weigh-survivors w₁.defaults w₁.survivors.0 b) good, inv.tried);
          fewer = λ m.
              let c = grade_before t₁ (k - 1) in
              let n' = next t₁ known.counted (k - 1) m (omega (arith, inv.few_left)) in
              let below = (rw here.down at (odds_worse (take (k - 1 - 1) t₁) (c ∷ drop (k - 1) t₁) (rw n'.split known.odds₁))).0.0 in
              omega (arith, leads.accepted, accepted_fewer _ _ _ _ (λ x. away_better w₁ w₂ c b x below) t₂);
        }
