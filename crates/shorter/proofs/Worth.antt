-- What a cut adds up to: D S + C − X of its coarse scale.
use Prim.Native.Nat.{ℕ, ◌+◌, ◌-◌, ◌*◌, ◌≤◌, ◌<◌}
use mathlib.Core.Path.{◌≡◌}
use mathlib.Core.List.{List, [], ◌∷◌, ◌++◌}
use native.Mathlib.Omega.{arith}
use lib.ListN.{length, take, drop, take-append-drop, drop_of_length-le}
use lib.Seq.{drop-drop}
use Rattle.table.specs.Table.{Table, Every, Counted, survivors, defaults_in, survivors_in, obligors_in}
use Rattle.table.proofs.Every.{every_split}
use Rattle.table.proofs.Sums.{obligors_split, defaults_append, obligors_append}
use Rattle.measures.specs.Pairs.{concordant, discordant}
use Rattle.shorter.specs.Cut.{Covers, run, merged, coarse_from}

-- S and D of the grades behind grade i
abbrev pub S : Table → ℕ → ℕ
S t i = survivors_in (drop i t)

abbrev pub D : Table → ℕ → ℕ
D t i = defaults_in (drop i t)

-- what the run behind grade i up to grade e adds
abbrev pub gain_in : Table → ℕ → ℕ → ℕ
gain_in t i e = (S t i - S t e) * (D t i + D t e)

-- what the runs behind grade a add together
unfoldable pub added : (ℕ → ℕ → ℕ) → ℕ → List ℕ → ℕ
added g a [] = 0
added g a (e ∷ ends) = g a e + added g e ends

-- g is that gain wherever a run can be.
abbrev pub Gains : Table → (ℕ → ℕ → ℕ) → Type 0
Gains t g = (i e : ℕ) → i < e → e ≤ length t → g i e ≡ gain_in t i e

pub ends_room : (ends : List ℕ) (a k : ℕ) → Covers a k ends → a + length ends ≤ k
ends_room [] a k h = omega arith
ends_room (e ∷ ends) a k h = omega (arith, h.0, ends_room ends e k h.1)

module _ (t : Table) (counted : Every Counted t) where
  counted_drop : (a : ℕ) → Every Counted (drop a t)
  counted_drop a = (every_split Counted (take a t) (drop a t) (rw take-append-drop counted)).1

  -- A run and what is behind it.
  pub record Split (a e : ℕ) : Type 0 where
    pub survived : S t a ≡ survivors (merged (run t a e)) + S t e
    pub defaulted : D t a ≡ (merged (run t a e)).defaults + D t e
    pub obligors : obligors_in (drop a t) ≡ (merged (run t a e)).obligors + obligors_in (drop e t)
    pub counts : Counted (merged (run t a e))

  pub split : (a e : ℕ) → a ≤ e → Split a e
  split a e h =
      let rest : drop (e - a) (drop a t) ≡ drop e t = let x : a + (e - a) ≡ e = omega arith in rw (drop-drop, x) in
      let all : run t a e ++ drop e t ≡ drop a t = rw (← rest) (take-append-drop (e - a) (drop a t)) in
      let in-run = (every_split Counted (run t a e) (drop e t) (rw all (counted_drop a))).0 in
      let d : D t a ≡ defaults_in (run t a e) + D t e = rw all at (defaults_append (run t a e) (drop e t)) in
      let n : obligors_in (drop a t) ≡ obligors_in (run t a e) + obligors_in (drop e t) = rw all at (obligors_append (run t a e) (drop e t)) in
      record {
        survived = omega (arith, n, d, obligors_split (run t a e) in-run, obligors_split (drop a t) (counted_drop a), obligors_split (drop e t) (counted_drop e));
        defaulted = d;
        obligors = n;
        counts = omega (arith, obligors_split (run t a e) in-run);
      }

  -- The coarse scale keeps all survivors, defaults and obligors.
  pub record Kept (a : ℕ) (ends : List ℕ) : Type 0 where
    pub survived : survivors_in (coarse_from t a ends) ≡ S t a
    pub defaulted : defaults_in (coarse_from t a ends) ≡ D t a
    pub obligors : obligors_in (coarse_from t a ends) ≡ obligors_in (drop a t)

  pub kept : (ends : List ℕ) (a : ℕ) → Covers a (length t) ends → Kept a ends
  unfolding coarse_from survivors_in defaults_in obligors_in
  kept [] a h = let none = drop_of_length-le t {i = a} (omega arith) in record { survived = rw none; defaulted = rw none; obligors = rw none }
  kept (e ∷ ends) a h =
      let s = split a e (omega (arith, h.0)) in
      let r = kept ends e h.1 in
      record { survived = omega arith; defaulted = omega arith; obligors = omega arith }

  -- One run more in front: n survivors and d defaults.
  more : (n d v x c s s' d' d'' : ℕ) → s ≡ n + s' → d'' ≡ d + d' → v + x ≡ d' * s' + c
      → (s - s') * (d'' + d') + v + (d * s' + x) ≡ d'' * s + (n * d' + c)
  more n d v x c s s' d' d'' p q e =
      let z : n + s' - s' ≡ n = omega arith in
      rw (p, q, z) (omega (arith, e))

  pub worth : (g : ℕ → ℕ → ℕ) → Gains t g → (ends : List ℕ) (a : ℕ) → Covers a (length t) ends
      → added g a ends + discordant (coarse_from t a ends) ≡ D t a * S t a + concordant (coarse_from t a ends)
  unfolding added coarse_from concordant discordant survivors_in defaults_in
  worth g gains [] a h = let none = drop_of_length-le t {i = a} (omega arith) in rw none (omega arith)
  worth g gains (e ∷ ends) a h =
      let room = ends_room ends e (length t) h.1 in
      let s = split a e (omega (arith, h.0)) in
      let k = kept ends e h.1 in
      rw (gains a e h.0 (omega arith), k.survived, k.defaulted)
      (more (survivors (merged (run t a e))) (merged (run t a e)).defaults (added g e ends) (discordant (coarse_from t e ends)) (concordant (coarse_from t e ends))
      (S t a) (S t e) (D t e) (D t a) s.survived s.defaulted (worth g gains ends e h.1))
