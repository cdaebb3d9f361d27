-- The numbers of each grade by its number: an occupied grade has its own, an empty one those of the next better occupied grade, or of the
-- best occupied one.
use Prim.Native.Nat.{ℕ, zero, suc, ◌+◌, ◌-◌, ◌*◌, ◌≤◌, ◌<◌}
use mathlib.Core.Path.{◌≡◌, refl, sym, ap, ◌∙◌}
use mathlib.Core.List.{List, [], ◌∷◌, ◌++◌}
use native.Mathlib.Decide.{dec_le}
use native.Mathlib.Omega.{arith}
use lib.ListN.{length, get_or, drop, length-drop}
use Rattle.table.specs.Table.{Table, Grade, Every, Occupied, occupied}
use Rattle.table.proofs.Occupied.{by-grade, is-occupied, is_empty}
use Rattle.pooling.specs.Numbers.{three, own_numbers, repeating, pooled_numbers, pooled_into, numbers_at_occupied}
use Rattle.pooling.specs.Claims.{OccupiedAt, EmptyAt, numbers_at, RepeatsNextBetter, RepeatsBest}

-- One grade more in front.

repeating-occupied : (better own : List ℕ) (r : Grade) (t : Table) → Occupied r
    → repeating better own (r ∷ t) ≡ three own ++ repeating (three own) (drop 3 own) t
unfolding repeating
repeating-occupied better own r t h = rw (is-occupied r h)

repeating-empty : (better own : List ℕ) (r : Grade) (t : Table) → r.obligors ≡ 0 → repeating better own (r ∷ t) ≡ better ++ repeating better own t
unfolding repeating
repeating-empty better own r t h = rw (is_empty r h)

-- Three numbers a grade.
length-repeating : (x y z : ℕ) (own : List ℕ) (t : Table) → length (repeating (x ∷ y ∷ z ∷ []) own t) ≡ 3 * length t
unfolding repeating
length-repeating x y z own [] = refl
length-repeating x y z own (r ∷ t) =
    by-grade (λ (l : List ℕ). length l ≡ 3 * suc (length t)) r
    (λ _. omega (arith, length-repeating (get_or own 0 0) (get_or own 1 0) (get_or own 2 0) (drop 3 own) t))
    (λ _. omega (arith, length-repeating x y z own t))

pub length_pooled_numbers : (t : Table) → length (pooled_numbers t) ≡ 3 * length t
unfolding pooled_numbers
length_pooled_numbers t = length-repeating _ _ _ (own_numbers t) t

-- The numbers of the next grade, behind three.
next_numbers : (i x y z : ℕ) (l : List ℕ) → numbers_at (suc i) (x ∷ y ∷ z ∷ l) ≡ numbers_at i l
next_numbers i x y z l = let e : 3 * suc i ≡ suc (suc (suc (3 * i))) = omega arith in rw e refl

-- Behind the best grade, so many are still empty.
rest_empty : (r : Grade) (t : Table) (i : ℕ) → ((k : ℕ) → k < suc i → EmptyAt (r ∷ t) k) → (k : ℕ) → k < i → EmptyAt t k
rest_empty r t i h k l = let e = h (suc k) (omega arith) in (omega (arith, e.0), e.1)

-- What stands behind all grades plays no part.
module _ (rest : List ℕ) where
  abbrev at : ℕ → List ℕ → List ℕ → Table → List ℕ
  at i better own t = numbers_at i (repeating better own t ++ rest)

  at_occupied : (i x y z : ℕ) (own : List ℕ) (r : Grade) (t : Table) → Occupied r
      → at (suc i) (x ∷ y ∷ z ∷ []) own (r ∷ t) ≡ at i (three own) (drop 3 own) t
  at_occupied i x y z own r t h = rw (repeating-occupied (x ∷ y ∷ z ∷ []) own r t h) (next_numbers i _ _ _ _)

  at_empty : (i x y z : ℕ) (own : List ℕ) (r : Grade) (t : Table) → r.obligors ≡ 0
      → at (suc i) (x ∷ y ∷ z ∷ []) own (r ∷ t) ≡ at i (x ∷ y ∷ z ∷ []) own t
  at_empty i x y z own r t h = rw (repeating-empty (x ∷ y ∷ z ∷ []) own r t h) (next_numbers i _ _ _ _)

  -- An empty grade has the numbers of the grade before it,
  empty_at : (x y z : ℕ) (own : List ℕ) (t : Table) (i : ℕ) → EmptyAt t (suc i)
      → at (suc i) (x ∷ y ∷ z ∷ []) own t ≡ at i (x ∷ y ∷ z ∷ []) own t
  empty_at x y z own [] i h = absurd (omega arith)
  empty_at x y z own (r ∷ []) i h = absurd (omega arith)
  empty_at x y z own (r ∷ s ∷ t) zero h =
      elim (dec_le 1 r.obligors) [
        | yes o ↦ rw (repeating-occupied (x ∷ y ∷ z ∷ []) own r (s ∷ t) o, repeating-empty (three own) (drop 3 own) s t h.1) refl
        | no o ↦ rw (repeating-empty (x ∷ y ∷ z ∷ []) own r (s ∷ t) (omega arith), repeating-empty (x ∷ y ∷ z ∷ []) own s t h.1) refl
      ]
  empty_at x y z own (r ∷ s ∷ t) (suc i) h =
      elim (dec_le 1 r.obligors) [
        | yes o ↦ at_occupied (suc i) x y z own r (s ∷ t) o
            ∙ empty_at _ _ _ (drop 3 own) (s ∷ t) i (omega arith, h.1)
            ∙ sym (at_occupied i x y z own r (s ∷ t) o)
        | no o ↦ let none : r.obligors ≡ 0 = omega arith in
            at_empty (suc i) x y z own r (s ∷ t) none
            ∙ empty_at x y z own (s ∷ t) i (omega arith, h.1)
            ∙ sym (at_empty i x y z own r (s ∷ t) none)
      ]

  -- and so of the last occupied one.
  empty-run : (x y z : ℕ) (own : List ℕ) (t : Table) (j n : ℕ) → ((k : ℕ) → j < k → k ≤ j + n → EmptyAt t k)
      → at (j + n) (x ∷ y ∷ z ∷ []) own t ≡ at j (x ∷ y ∷ z ∷ []) own t
  empty-run x y z own t j zero h = let e : j + 0 ≡ j = omega arith in rw e
  empty-run x y z own t j (suc n) h =
      let e : j + suc n ≡ suc (j + n) = omega arith in
      rw e (empty_at x y z own t (j + n) (h (suc (j + n)) (omega arith) (omega arith)) ∙ empty-run x y z own t j n (λ k l m. h k l (omega arith)))

  -- Empty grades in front have the numbers that they are given.
  lead_at : (x y z : ℕ) (own : List ℕ) (t : Table) (i : ℕ) → ((k : ℕ) → k < suc i → EmptyAt t k) → at i (x ∷ y ∷ z ∷ []) own t ≡ x ∷ y ∷ z ∷ []
  lead_at x y z own [] i h = absurd (omega (arith, (h 0 (omega arith)).0))
  lead_at x y z own (r ∷ t) zero h = rw (repeating-empty (x ∷ y ∷ z ∷ []) own r t (h 0 (omega arith)).1) refl
  lead_at x y z own (r ∷ t) (suc i) h = at_empty i x y z own r t (h 0 (omega arith)).1 ∙ lead_at x y z own t i (rest_empty r t (suc i) h)

  -- The best occupied grade has the first three.
  first_at : (x y z : ℕ) (own : List ℕ) (t : Table) (j : ℕ) → OccupiedAt t j → ((k : ℕ) → k < j → EmptyAt t k) → at j (x ∷ y ∷ z ∷ []) own t ≡ three own
  first_at x y z own [] j o h = absurd (omega arith)
  first_at x y z own (r ∷ t) zero o h = rw (repeating-occupied (x ∷ y ∷ z ∷ []) own r t o) refl
  first_at x y z own (r ∷ t) (suc j) o h = at_empty j x y z own r t (h 0 (omega arith)).1 ∙ first_at x y z own t j o (rest_empty r t j h)

pub best-occupied : (t : Table) (out : List ℕ) → RepeatsBest t (pooled_into t out)
unfolding pooled_numbers
best-occupied t out i j l o h =
    let rest = drop (3 * length t) out in
    lead_at rest _ _ _ (own_numbers t) t i (λ k m. h k (omega arith)) ∙ sym (first_at rest _ _ _ (own_numbers t) t j o h)

pub next_better : (t : Table) (out : List ℕ) → RepeatsNextBetter t (pooled_into t out)
unfolding pooled_numbers
next_better t out i j l o h =
    let own = own_numbers t in
    let e : j + (i - j) ≡ i = omega arith in
    rw e at
    (empty-run (drop (3 * length t) out) (get_or own 0 0) (get_or own 1 0) (get_or own 2 0) own t j (i - j) (λ k m n. h k m (omega arith)))

-- What stands at the occupied grades.

three_and_rest : (l : List ℕ) (n : ℕ) → length l ≡ 3 + n → three l ++ drop 3 l ≡ l
three_and_rest [] n h = absurd (omega arith)
three_and_rest (a ∷ []) n h = absurd (omega arith)
three_and_rest (a ∷ b ∷ []) n h = absurd (omega arith)
three_and_rest (a ∷ b ∷ c ∷ l) n h = refl

own-numbers : (x y z : ℕ) (own : List ℕ) (t : Table) (rest : List ℕ) → length own ≡ 3 * length (occupied t)
    → numbers_at_occupied t (repeating (x ∷ y ∷ z ∷ []) own t ++ rest) ≡ own
unfolding numbers_at_occupied occupied repeating
own-numbers x y z [] [] rest h = refl
own-numbers x y z (a ∷ own) [] rest h = absurd (omega arith)
own-numbers x y z own (r ∷ t) rest h =
    elim (dec_le 1 r.obligors) [
      | yes o ↦
          let e = is-occupied r o in
          let n : length own ≡ 3 + 3 * length (occupied t) = omega (arith, rw e at h) in
          let m : length (drop 3 own) ≡ 3 * length (occupied t) = rw length-drop (omega arith) in
          rw e (ap (λ (l : List ℕ). three own ++ l) (own-numbers _ _ _ (drop 3 own) t rest m) ∙ three_and_rest own _ n)
      | no o ↦ let e = is_empty r (omega arith) in rw e (own-numbers x y z own t rest (rw e at h))
    ]

pub numbers-at-occupied : (t : Table) (out : List ℕ) → length (own_numbers t) ≡ 3 * length (occupied t)
    → numbers_at_occupied t (pooled_into t out) ≡ own_numbers t
unfolding pooled_numbers
numbers-at-occupied t out n = own-numbers _ _ _ (own_numbers t) t _ n

-- Where no grade is empty, that is all.
none_repeated : (better own : List ℕ) (t : Table) → Every Occupied t → length own ≡ 3 * length t → repeating better own t ≡ own
unfolding repeating
none_repeated better [] [] h n = refl
none_repeated better (a ∷ own) [] h n = absurd (omega arith)
none_repeated better own (r ∷ t) h n =
    let m : length own ≡ 3 + 3 * length t = omega arith in
    let k : length (drop 3 own) ≡ 3 * length t = rw length-drop (omega arith) in
    repeating-occupied better own r t h.0
    ∙ ap (λ (l : List ℕ). three own ++ l) (none_repeated (three own) (drop 3 own) t h.1 k)
    ∙ three_and_rest own _ m

pub all_own : (t : Table) → Every Occupied t → length (own_numbers t) ≡ 3 * length t → pooled_numbers t ≡ own_numbers t
unfolding pooled_numbers
all_own t h n = none_repeated (three (own_numbers t)) (own_numbers t) t h n
