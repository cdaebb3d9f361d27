-- One run more: on a scale whose rates never fall it adds at least as much, on others it can add less.
use Prim.Native.Nat.{ℕ, zero, suc, ◌+◌, ◌-◌, ◌*◌, ◌≤◌, ◌<◌}
use mathlib.Core.Path.{◌≡◌, refl, ap, ◌∙◌}
use mathlib.Core.List.{List, [], ◌∷◌}
use native.Mathlib.Nat.{mul-sub}
use native.Mathlib.Decide.{dec_le}
use native.Mathlib.Omega.{arith}
use lib.ListN.{length, take, drop}
use lib.Seq.{drop-drop}
use Rattle.table.specs.Table.{Table, Grade, Every, Counted, InOrder, survivors, defaults_in, survivors_in, obligors_in, occupied}
use Rattle.measures.specs.Pairs.{concordant, discordant}
use Rattle.cutoff.specs.Best.{best}
use Rattle.shorter.specs.Cut.{Covers, IsCut, run, merged, coarse_from, coarse}
use Rattle.shorter.specs.Private.{top_from, most}
use Rattle.shorter.specs.Claims.{MoreRunsNeverGiveLess, MoreRunsCanGiveLess, upside_down, EmptyGradesAreGrades, empty_on_top}
use Rattle.shorter.proofs.Signed.{le_sub}
use Rattle.shorter.proofs.Worth.{S, D, gain_in, added, Gains, split, worth}
use Rattle.shorter.proofs.Rates.{NotBelow, RatesNeverFall, never_fall}
use Rattle.shorter.proofs.Search.{ends_of}
use Rattle.shorter.proofs.Found.{best_cut, against}

-- The first grade of a run beside the others.
beside : (r : Grade) (t : Table) (n : ℕ) → Every (NotBelow r) t → r.defaults * obligors_in (take n t) ≤ defaults_in (take n t) * r.obligors
unfolding defaults_in obligors_in
beside r t zero h = omega arith
beside r [] (suc n) h = omega arith
beside r (q ∷ t) (suc n) h = omega (arith, h.0, beside r t n h.1)

-- The rates of two runs compare as their defaults with their survivors.
cross : (n d n' d' : ℕ) → d ≤ n → d' ≤ n' → d * n' ≤ d' * n → d * (n' - d') ≤ d' * (n - d)
cross n d n' d' l l' h = omega (arith, mul-sub d n' d', mul-sub d' n d)

-- A run whose first part has no higher rate than the second is better split there.
parted : (n d n' d' s s' s'' e e' e'' : ℕ) → s ≡ n + s' → s' ≡ n' + s'' → e ≡ d + e' → e' ≡ d' + e'' → d * n' ≤ d' * n
    → (s - s'') * (e + e'') ≤ (s - s') * (e + e') + (s' - s'') * (e' + e'')
parted n d n' d' s s' s'' e e' e'' p p' q q' h =
    let x : s - s'' ≡ n + n' = omega arith in
    let y : s - s' ≡ n = omega arith in
    let z : s' - s'' ≡ n' = omega arith in
    rw (x, y, z, q, q') (omega (arith, h))

-- The first of some grades, beside the n behind it.
first_beside : (t : Table) → RatesNeverFall t → (n : ℕ)
    → defaults_in (take 1 t) * obligors_in (take n (drop 1 t)) ≤ defaults_in (take n (drop 1 t)) * obligors_in (take 1 t)
unfolding defaults_in obligors_in
first_beside [] h n = omega arith
first_beside (r ∷ t) h n = omega (arith, beside r t n h.0)

never_fall_drop : (t : Table) (a : ℕ) → RatesNeverFall t → RatesNeverFall (drop a t)
never_fall_drop t zero h = h
never_fall_drop [] (suc a) h = tt
never_fall_drop (r ∷ t) (suc a) h = never_fall_drop t a h.1

module _ (t : Table) (counted : Every Counted t) (rising : RatesNeverFall t) where
  -- The run behind grade a up to grade e, parted behind its first grade.
  part : (a e : ℕ) → suc a ≤ e → gain_in t a e ≤ gain_in t a (suc a) + gain_in t (suc a) e
  part a e h =
      let p = split t counted a (suc a) (omega arith) in
      let q = split t counted (suc a) e h in
      let one : suc a - a ≡ 1 = omega arith in
      let next : drop 1 (drop a t) ≡ drop (suc a) t = let x : a + 1 ≡ suc a = omega arith in rw (drop-drop, x) in
      let b = rw (next, ← one) at (first_beside (drop a t) (never_fall_drop t a rising) (e - suc a)) in
      parted (survivors (merged (run t a (suc a)))) (merged (run t a (suc a))).defaults (survivors (merged (run t (suc a) e))) (merged (run t (suc a) e)).defaults
      (S t a) (S t (suc a)) (S t e) (D t a) (D t (suc a)) (D t e)
      p.survived q.survived p.defaulted q.defaulted
      (cross (merged (run t a (suc a))).obligors (merged (run t a (suc a))).defaults (merged (run t (suc a) e)).obligors (merged (run t (suc a) e)).defaults
      p.counts q.counts b)

  -- a cut with one run more that adds no less
  pub record FinerCut (a : ℕ) (ends : List ℕ) : Type 0 where
    pub finer : List ℕ
    pub runs : length finer ≡ suc (length ends)
    pub cover : Covers a (length t) finer
    pub more : added (gain_in t) a ends ≤ added (gain_in t) a finer

  pub finer_cut : (ends : List ℕ) (a : ℕ) → Covers a (length t) ends → a + length ends < length t → FinerCut a ends
  unfolding added
  finer_cut [] a h l = absurd (omega arith)
  finer_cut (e ∷ ends) a h l =
      elim (dec_le e (suc a)) [
        | yes le ↦
            let r = finer_cut ends e h.1 (omega (arith, h.0)) in
            record { finer = e ∷ r.finer; runs = ap suc r.runs; cover = (h.0, r.cover); more = omega (arith, r.more) }
        | no gt ↦
            record {
              finer = suc a ∷ (e ∷ ends);
              runs = refl;
              cover = (omega arith, (omega arith, h.1));
              more = omega (arith, part a e (omega arith));
            }
      ]

pub more_runs : MoreRunsNeverGiveLess
more_runs t counted rising m h ends finer b b' =
    let f = finer_cut t counted (never_fall t counted rising) ends 0 b.cut.cover (omega (arith, b.cut.runs)) in
    let cut : IsCut t (suc m) f.finer = record { runs = f.runs ∙ rw b.cut.runs; cover = f.cover } in
    let gains : Gains t (gain_in t) = λ i e l m. refl in
    le_sub (concordant (coarse t ends)) (discordant (coarse t ends)) (concordant (coarse t finer)) (discordant (coarse t finer))
    (omega (
      arith,
      f.more,
      against b' f.finer cut,
      worth t counted (gain_in t) gains ends 0 b.cut.cover,
      worth t counted (gain_in t) gains f.finer 0 f.cover,
    ))

pub upside-down : MoreRunsCanGiveLess
unfolding most ends_of top_from best survivors_in defaults_in obligors_in occupied InOrder coarse_from concordant discordant
upside-down =
    let t = upside_down in
    let counted : Every Counted t = (omega arith, (omega arith, tt)) in
    let gains : Gains t (gain_in t) = λ i e l m. refl in (
      record {
        some = omega arith;
        few = omega arith;
        some_occupied = omega arith;
        counted = counted;
        rated = (omega arith, (omega arith, tt));
        in_order = (omega arith, tt);
        total = omega arith;
      },
      best_cut t counted (gain_in t) gains 0 (omega arith),
      best_cut t counted (gain_in t) gains 1 (omega arith),
      refl,
      refl,
    )

pub empty_grade : EmptyGradesAreGrades
unfolding most ends_of top_from best survivors_in defaults_in obligors_in occupied InOrder
empty_grade =
    let t = empty_on_top in
    let counted : Every Counted t = (omega arith, (omega arith, tt)) in
    let gains : Gains t (gain_in t) = λ i e l m. refl in (
      record {
        some = omega arith;
        few = omega arith;
        some_occupied = omega arith;
        counted = counted;
        rated = (omega arith, (omega arith, tt));
        in_order = (omega arith, tt);
        total = omega arith;
      },
      best_cut t counted (gain_in t) gains 1 (omega arith),
    )
