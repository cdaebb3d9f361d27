-- The numbers of the elements of a list that pass a test.
use Prim.Native.Nat.{ℕ, zero, suc, ◌+◌, ◌≤◌, ◌<◌}
use mathlib.Core.Path.{◌≡◌, refl}
use mathlib.Core.Logic.{◌↔◌, inl, inr, ⊎_elim}
use mathlib.Core.Bool.{Bool, true, false, cond}
use mathlib.Core.List.{List, [], ◌∷◌}
use native.Mathlib.Omega.{arith}
use lib.Dec.{T}
use lib.ListN.{length, get_or}
use Rattle.shortlist.specs.Shortlist.{numbers_of_lem}
use Rattle.shortlist.specs.Claims.{Has, InBookOrder}

module _ {A : Type 0} (test : A → Bool) (none : A) where
  -- x is i more than the place of an element that passes
  pub record Passes (i : ℕ) (l : List A) (x : ℕ) : Type 0 where
    pub place : ℕ
    pub inside : place < length l
    pub number : x ≡ i + place
    pub passed : T (test (get_or l place none))

  later : (i : ℕ) (y : A) (l : List A) (x : ℕ) → Passes (suc i) l x → Passes i (y ∷ l) x
  later i y l x p = record { place = suc p.place; inside = omega (arith, p.inside); number = omega (arith, p.number); passed = p.passed }

  earlier : (i : ℕ) (y : A) (l : List A) (x : ℕ) (k : ℕ) → k < suc (length l) → x ≡ i + k → T (test (get_or (y ∷ l) k none))
      → (T (test y) → x ≡ i → Has x (numbers_of_lem test i (y ∷ l))) → (Passes (suc i) l x → Has x (numbers_of_lem test i (y ∷ l))) → Has x (numbers_of_lem test i (y ∷ l))
  earlier i y l x zero inside number passed f g = f passed (omega arith)
  earlier i y l x (suc k) inside number passed f g = g (record { place = k; inside = omega arith; number = omega arith; passed = passed })

  pub has_numbers : (i : ℕ) (l : List A) (x : ℕ) → Has x (numbers_of_lem test i l) ↔ Passes i l x
  unfolding numbers_of_lem
  has_numbers i [] x = (λ h. absurd h, λ p. absurd (omega (arith, p.inside)))
  has_numbers i (y ∷ l) x = cases (test y) refl (has_numbers (suc i) l x)
    where
      cases : (b : Bool) → test y ≡ b → Has x (numbers_of_lem test (suc i) l) ↔ Passes (suc i) l x
          → Has x (cond (test y) (i ∷ numbers_of_lem test (suc i) l) (numbers_of_lem test (suc i) l)) ↔ Passes i (y ∷ l) x
      cases true e rest = (
        λ h. ⊎_elim
            (λ q. record { place = 0; inside = omega arith; number = omega arith; passed = rw e tt })
            (λ q. later i y l x (rest.0 q))
            (rw e at h),
        λ p. earlier i y l x p.place p.inside p.number p.passed (λ t q. rw e (inl q)) (λ p. rw e (inr (rest.1 p))),
      )
      cases false e rest = (
        λ h. later i y l x (rest.0 (rw e at h)),
        λ p. earlier i y l x p.place p.inside p.number p.passed (λ t q. absurd (rw e at t)) (λ p. rw e (rest.1 p)),
      )

-- Two lists whose elements pass at the same places.
pub numbers_same : {A B : Type 0} (f : A → Bool) (g : B → Bool) (a : A) (b : B) (i : ℕ) (l : List A) (m : List B) → length l ≡ length m
    → ((k : ℕ) → k < length l → f (get_or l k a) ≡ g (get_or m k b)) → numbers_of_lem f i l ≡ numbers_of_lem g i m
unfolding numbers_of_lem
numbers_same f g a b i [] [] e h = refl
numbers_same f g a b i [] (y ∷ m) e h = absurd (omega arith)
numbers_same f g a b i (x ∷ l) [] e h = absurd (omega arith)
numbers_same f g a b i (x ∷ l) (y ∷ m) e h =
    rw (h 0 (omega arith), numbers_same f g a b (suc i) l m (omega arith) (λ k p. h (suc k) (omega arith)))

-- No more pass than there are.
pub numbers_le : {A : Type 0} (test : A → Bool) (i : ℕ) (l : List A) → length (numbers_of_lem test i l) ≤ length l
unfolding numbers_of_lem
numbers_le test i [] = omega arith
numbers_le test i (x ∷ l) = cases (test x) (numbers_le test (suc i) l)
  where
    cases : (b : Bool) → length (numbers_of_lem test (suc i) l) ≤ length l
        → length (cond b (i ∷ numbers_of_lem test (suc i) l) (numbers_of_lem test (suc i) l)) ≤ suc (length l)
    cases true h = omega arith
    cases false h = omega arith

-- They rise.

behind : {A : Type 0} (test : A → Bool) (m i : ℕ) → m < i → (l : List A) → InBookOrder (m ∷ numbers_of_lem test i l)
unfolding numbers_of_lem
behind test m i h [] = tt
behind test m i h (x ∷ l) = cases (test x) (behind test i (suc i) (omega arith) l) (behind test m (suc i) (omega arith) l)
  where
    cases : (b : Bool) → InBookOrder (i ∷ numbers_of_lem test (suc i) l) → InBookOrder (m ∷ numbers_of_lem test (suc i) l)
        → InBookOrder (m ∷ cond b (i ∷ numbers_of_lem test (suc i) l) (numbers_of_lem test (suc i) l))
    cases true p q = (h, p)
    cases false p q = q

order_tail : (m : ℕ) (l : List ℕ) → InBookOrder (m ∷ l) → InBookOrder l
order_tail m [] h = tt
order_tail m (i ∷ l) h = h.1

pub numbers_rise : {A : Type 0} (test : A → Bool) (l : List A) → InBookOrder (numbers_of_lem test 1 l)
numbers_rise test l = order_tail 0 (numbers_of_lem test 1 l) (behind test 0 1 (omega arith) l)
