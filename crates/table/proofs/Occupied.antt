-- The occupied grades of a table: a goal about a grade by the test of it, what they keep of the table, and that they keep all its counts.
use Prim.Native.Nat.{suc, ◌+◌, ◌≤◌}
use mathlib.Core.Path.{◌≡◌, refl}
use mathlib.Core.Bool.{Bool, cond, true, false}
use mathlib.Core.List.{[], ◌∷◌, ◌++◌}
use native.Mathlib.Omega.{arith}
use lib.Dec.{leb, leb→le, nleb→lt}
use lib.ListN.{length}
use Rattle.table.specs.Table.{Table, Grade, Every, Occupied, Counted, is_occupied, occupied, defaults_in, survivors_in, obligors_in}
use Rattle.table.proofs.Test.{by-test}

-- The test of a grade.

pub by-grade {ℓ} : {A : Type ℓ} (P : A → Type 0) (r : Grade) {x y : A} → (Occupied r → P x) → (r.obligors ≡ 0 → P y) → P (cond (is_occupied r) x y)
by-grade P r f g = by-test P (is_occupied r) (λ h. f (leb→le 1 r.obligors h)) (λ h. g (omega (arith, nleb→lt 1 r.obligors h)))

pub is-occupied : (r : Grade) → Occupied r → is_occupied r ≡ true
is-occupied r h = tested (leb 1 r.obligors) refl
  where
    tested : (x : Bool) → is_occupied r ≡ x → is_occupied r ≡ true
    tested true e = e
    tested false e = absurd (omega (arith, nleb→lt 1 r.obligors (rw e tt)))

pub is_empty : (r : Grade) → r.obligors ≡ 0 → is_occupied r ≡ false
is_empty r h = rw h

-- What is kept is occupied, and what holds of every grade holds of it.

pub all-occupied : (t : Table) → Every Occupied (occupied t)
unfolding occupied
all-occupied [] = tt
all-occupied (r ∷ t) = by-grade (Every Occupied) r (λ h. (h, all-occupied t)) (λ _. all-occupied t)

pub every_occupied : (P : Grade → Type 0) (t : Table) → Every P t → Every P (occupied t)
unfolding occupied
every_occupied P [] h = tt
every_occupied P (r ∷ t) h = by-grade (Every P) r (λ _. (h.0, every_occupied P t h.1)) (λ _. every_occupied P t h.1)

pub none_empty : (t : Table) → Every Occupied t → occupied t ≡ t
unfolding occupied
none_empty [] h = refl
none_empty (r ∷ t) h = rw (is-occupied r h.0, none_empty t h.1)

pub occupied_few : (t : Table) → length (occupied t) ≤ length t
unfolding occupied
occupied_few [] = omega arith
occupied_few (r ∷ t) = let n = occupied_few t in by-grade (λ (u : Table). length u ≤ suc (length t)) r (λ _. omega arith) (λ _. omega arith)

pub occupied_append : (t u : Table) → occupied (t ++ u) ≡ occupied t ++ occupied u
unfolding occupied
occupied_append [] u = refl
occupied_append (r ∷ t) u = rw (occupied_append t u) (both (is_occupied r))
  where
    both : (x : Bool) → ◌≡◌ {A = Table} (cond x (r ∷ occupied t ++ occupied u) (occupied t ++ occupied u)) (cond x (r ∷ occupied t) (occupied t) ++ occupied u)
    both true = refl
    both false = refl

-- An empty grade adds nothing to any count.

pub record SameCounts (t u : Table) : Type 0 where
  pub obligors : obligors_in t ≡ obligors_in u
  pub defaults : defaults_in t ≡ defaults_in u
  pub survivors : survivors_in t ≡ survivors_in u

pub same_counts : (t : Table) → Every Counted t → SameCounts (occupied t) t
unfolding occupied obligors_in defaults_in survivors_in
same_counts [] h = record { obligors = refl; defaults = refl; survivors = refl }
same_counts (r ∷ t) h =
    let s = same_counts t h.1 in
    let c = h.0 in
    by-grade (λ u. SameCounts u (r ∷ t)) r
    (λ _. record { obligors = omega arith; defaults = omega arith; survivors = omega arith })
    (λ none. record { obligors = omega arith; defaults = omega arith; survivors = omega arith })

-- Some grade is occupied exactly if N is at least 1.

pub someone : (t : Table) → 1 ≤ length (occupied t) → 1 ≤ obligors_in t
unfolding occupied obligors_in
someone [] h = h
someone (r ∷ t) h =
    by-grade (λ (u : Table). 1 ≤ length u → 1 ≤ r.obligors + obligors_in t) r (λ o _. omega arith) (λ _ k. omega (arith, someone t k)) h

pub some_grade : (t : Table) → 1 ≤ obligors_in t → 1 ≤ length (occupied t)
unfolding occupied obligors_in
some_grade [] h = h
some_grade (r ∷ t) h = by-grade (λ (u : Table). 1 ≤ length u) r (λ _. omega arith) (λ none. some_grade t (omega arith))
