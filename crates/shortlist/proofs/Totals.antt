-- The checks of the totals ask of each table whether it has defaults, survivors, and the totals of the first; so do the tests of the scales.
use Prim.Native.Nat.{ℕ, ◌≤◌}
use mathlib.Core.Path.{◌≡◌, refl, sym, subst, ◌∙◌}
use mathlib.Core.Bool.{Bool, true, false, not, cond, ◌||◌}
use mathlib.Core.List.{List, [], ◌∷◌, ◌++◌}
use native.Mathlib.Omega.{arith}
use native.Mathlib.Decide.{dec_le, ℕ_discrete}
use borrow.Author.Tests.{eq-eqb, ne_eqb, le-leb, lt-leb}
use lib.Dec.{eqb}
use lib.ListN.{length}
use Rattle.std.specs.List.{list_any}
use Rattle.table.specs.Table.{Table, Every, defaults_in, survivors_in}
use Rattle.book.specs.Checks.{Check, fault, first_fault}
use Rattle.shortlist.specs.Checks.{some_checks, equal_checks, same_checks, totals_fault_lem}
use Rattle.shortlist.specs.Private.{Holds, HoldsAll, no_defaults, no_survivors, other_totals, fault_by, held_totals_fault}
use Rattle.shortlist.specs.declared.scales.Scale.{Scale}

module _ (count : Table → ℕ) where
  -- some table has none
  abbrev none : List Table → Bool
  none = list_any (λ t. eqb (count t) 0)

  some_fault : (number : ℕ) (ts : List Table) → fault (some_checks count number ts) ≡ cond (none ts) number 0
  unfolding some_checks fault
  some_fault number [] = refl
  some_fault number (t ∷ ts) =
      elim (dec_le 1 (count t)) [
        | yes le ↦ rw (le-leb 1 (count t) le, ne_eqb (count t) 0 (λ e. omega arith)) (some_fault number ts)
        | no gt ↦ rw (lt-leb 1 (count t) (omega arith), eq-eqb (count t) 0 (omega arith)) refl
      ]

  -- some table has not n
  abbrev differ : ℕ → List Table → Bool
  differ n = list_any (λ t. not (eqb (count t) n))

  abbrev All : ℕ → List Table → Type 0
  All n ts = Every (λ t. n ≡ count t) ts

  equal_passed : (n : ℕ) (ts : List Table) (more : List Check) → All n ts → fault (equal_checks count n ts ++ more) ≡ fault more
  unfolding equal_checks fault
  equal_passed n [] more h = refl
  equal_passed n (t ∷ ts) more h = rw (eq-eqb n (count t) h.0) (equal_passed n ts more h.1)

  pub level_same : (n : ℕ) (ts : List Table) → All n ts → 0 ≡ fault (same_checks count ts)
  unfolding same_checks fault
  level_same n [] f = refl
  level_same n (t ∷ ts) f = rw (equal_passed (count t) ts (same_checks count ts) (subst (λ (m : ℕ). All m ts) f.0 f.1)) (level_same n ts f.1)

  equal_fault : (n : ℕ) (ts : List Table) (more : List Check) → (All n ts → fault more ≡ 0)
      → fault (equal_checks count n ts ++ more) ≡ cond (differ n ts) 25 0
  unfolding equal_checks fault
  equal_fault n [] more h = h tt
  equal_fault n (t ∷ ts) more h =
      elim (ℕ_discrete n (count t)) [
        | yes e ↦ rw (eq-eqb n (count t) e, eq-eqb (count t) n (sym e)) (equal_fault n ts more (λ k. h (e, k)))
        | no e ↦ rw (ne_eqb n (count t) e, ne_eqb (count t) n (λ k. e (sym k))) refl
      ]

  -- Any two have as many exactly if all have as many as the first.
  same_fault : (t : Table) (ts : List Table) → fault (same_checks count (t ∷ ts)) ≡ cond (differ (count t) (t ∷ ts)) 25 0
  unfolding same_checks
  same_fault t ts =
      rw (eq-eqb (count t) (count t) refl) (equal_fault (count t) ts (same_checks count ts) (λ h. sym (level_same (count t) ts h)))

in_order : (a b c d : Bool) → first_fault (cond a 23 0) (first_fault (cond b 24 0) (first_fault (cond c 25 0) (cond d 25 0))) ≡ fault_by a b (c || d)
unfolding first_fault
in_order true b c d = refl
in_order false true c d = refl
in_order false false true d = refl
in_order false false false d = refl

-- The scales.

-- What is asked of a scale is asked of its table.
any_held : (f : Scale → Bool) (g : Table → Bool) → ((s : Scale) (t : Table) → Holds s t → f s ≡ g t) → (held : List Scale) (ts : List Table) → HoldsAll held ts
    → list_any f held ≡ list_any g ts
any_held f g e [] [] h = refl
any_held f g e [] (t ∷ ts) h = absurd h
any_held f g e (s ∷ held) [] h = absurd h
any_held f g e (s ∷ held) (t ∷ ts) h = rw (e s t h.0, any_held f g e held ts h.1)

exchange : (a b c d : Bool) → ((a || b) || (c || d)) ≡ ((a || c) || (b || d))
exchange true b c d = refl
exchange false true true d = refl
exchange false true false d = refl
exchange false false c d = refl

any_or : (f g : Table → Bool) (ts : List Table) → list_any (λ t. f t || g t) ts ≡ (list_any f ts || list_any g ts)
any_or f g [] = refl
any_or f g (t ∷ ts) = rw (any_or f g ts) (exchange (f t) (g t) (list_any f ts) (list_any g ts))

by_tests : {a b c x y z : Bool} → a ≡ x → b ≡ y → c ≡ z → fault_by a b c ≡ fault_by x y z
by_tests p q r = rw (p, q, r) refl

pub held_fault : (held : List Scale) (ts : List Table) → HoldsAll held ts → 1 ≤ length ts → held_totals_fault held ≡ totals_fault_lem ts
held_fault [] [] h l = absurd (omega arith)
held_fault [] (t ∷ ts) h l = absurd h
held_fault (s ∷ held) [] h l = absurd h
held_fault (s ∷ held) (t ∷ ts) h l =
    let all = t ∷ ts in
    let d = any_held no_defaults (λ t. eqb (defaults_in t) 0) (λ s t k. rw k.defaults refl) (s ∷ held) all h in
    let v = any_held no_survivors (λ t. eqb (survivors_in t) 0) (λ s t k. rw k.survivors refl) (s ∷ held) all h in
    let f = λ (x : Table). not (eqb (defaults_in x) (defaults_in t)) in
    let g = λ (x : Table). not (eqb (survivors_in x) (survivors_in t)) in
    let u = any_held (λ x. other_totals x s) (λ x. f x || g x) (λ x y k. rw (k.defaults, k.survivors, h.0.defaults, h.0.survivors) refl) (s ∷ held) all h
    ∙ any_or f g all in
    by_tests d v u
    ∙ sym (rw (some_fault defaults_in 23 all, some_fault survivors_in 24 all, same_fault defaults_in t ts, same_fault survivors_in t ts)
    (in_order (none defaults_in all) (none survivors_in all) (differ defaults_in (defaults_in t) all) (differ survivors_in (survivors_in t) all)))
