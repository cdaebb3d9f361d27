-- The pairs of a table, counted one by one, are C, X, T and D S.
use Prim.Native.Nat.{ℕ, zero, suc, ◌+◌, ◌*◌, ◌≤◌, ◌<◌}
use mathlib.Core.Path.{◌≡◌, refl, ap}
use mathlib.Core.Bool.{Bool, true, false, not, cond}
use mathlib.Core.List.{List, [], ◌∷◌, ◌++◌, map, flat_map}
use native.Mathlib.Omega.{arith}
use lib.Dec.{T, ltb, ltb→lt, lt→ltb, eqb, eqb→eq, eqb_refl}
use lib.ListN.{length, replicate, length-append, length-replicate}
use Rattle.table.specs.Table.{Table, survivors, defaults_in, survivors_in}
use Rattle.table.proofs.Arithmetic.{times_eq}
use Rattle.measures.specs.Pairs.{those, number, Obligor, obligors_from, obligors_of_lem, Pair, pairs_among, is_concordant, is_discordant, is_tied}
use Rattle.measures.specs.Pairs.{concordant, discordant, tied}
use Rattle.measures.specs.Measures.{pairs, measures_of}
use Rattle.measures.proofs.Pairs.{every_pair}

-- How many elements pass a test.

-- 1 for one that passes
abbrev pub one : Bool → ℕ
one b = cond b 1 0

module _ {A : Type 0} (test : A → Bool) where
  number_cons : (x : A) (l : List A) → number test (x ∷ l) ≡ one (test x) + number test l
  unfolding those
  number_cons x l = by (test x)
    where
      by : (b : Bool) → length (cond b (x ∷ those test l) (those test l)) ≡ one b + number test l
      by true = omega arith
      by false = omega arith

  pub number_append : (k l : List A) → number test (k ++ l) ≡ number test k + number test l
  unfolding those
  number_append [] l = omega arith
  number_append (x ∷ k) l = omega (arith, number_cons x (k ++ l), number_cons x k, number_append k l)

  pub number-replicate : (k : ℕ) (x : A) {b : Bool} → test x ≡ b → number test (replicate k x) ≡ k * one b
  unfolding those
  number-replicate zero x e = omega arith
  number-replicate (suc k) x e = omega (arith, number_cons x (replicate k x), ap one e, number-replicate k x e)

number-map : {A B : Type 0} (test : B → Bool) (f : A → B) (l : List A) → number test (map f l) ≡ number (λ x. test (f x)) l
unfolding those
number-map test f [] = refl
number-map test f (x ∷ l) =
    omega (arith, number_cons test (f x) (map f l), number_cons (λ y. test (f y)) x l, number-map test f l)

number-all : {A : Type 0} (l : List A) → number (λ _. true) l ≡ length l
unfolding those
number-all [] = refl
number-all (x ∷ l) = omega (arith, number-all l)

-- The pairs of some defaulted with some surviving obligors.

abbrev pair : Obligor → Obligor → Pair
pair d s = record { defaulted = d; survived = s }

abbrev among : List Obligor → List Obligor → List Pair
among ds ss = flat_map (λ d. map (pair d) ss) ds

module _ (test : Pair → Bool) where
  among_cons : (d : Obligor) (ds ss : List Obligor) → number test (among (d ∷ ds) ss) ≡ number (λ s. test (pair d s)) ss + number test (among ds ss)
  unfolding flat_map
  among_cons d ds ss = omega (arith, number_append test (map (pair d) ss) (among ds ss), number-map test (pair d) ss)

  among_replicate : (k : ℕ) (d : Obligor) (ds ss : List Obligor)
      → number test (among (replicate k d ++ ds) ss) ≡ k * number (λ s. test (pair d s)) ss + number test (among ds ss)
  among_replicate zero d ds ss = omega arith
  among_replicate (suc k) d ds ss = omega (arith, among_cons d (replicate k d ++ ds) ss, among_replicate k d ds ss)

  among_append : (ds k l : List Obligor) → number test (among ds (k ++ l)) ≡ number test (among ds k) + number test (among ds l)
  unfolding flat_map those
  among_append [] k l = omega arith
  among_append (d ∷ ds) k l =
      omega (
        arith,
        among_cons d ds (k ++ l),
        among_cons d ds k,
        among_cons d ds l,
        number_append (λ s. test (pair d s)) k l,
        among_append ds k l,
      )

-- The obligors of a table, those who defaulted and those who survived.

abbrev pub bad : ℕ → Obligor
bad g = record { grade = g; defaulted = true }

abbrev pub good : ℕ → Obligor
good g = record { grade = g; defaulted = false }

defaulted_from : ℕ → Table → List Obligor
defaulted_from g [] = []
defaulted_from g (r ∷ t) = replicate r.defaults (bad g) ++ defaulted_from (suc g) t

survived_from : ℕ → Table → List Obligor
survived_from g [] = []
survived_from g (r ∷ t) = replicate (survivors r) (good g) ++ survived_from (suc g) t

module _ (test : Obligor → Bool) where
  those_pass : (k : ℕ) (o : Obligor) (l : List Obligor) → test o ≡ true → those test (replicate k o ++ l) ≡ replicate k o ++ those test l
  unfolding those
  those_pass zero o l e = refl
  those_pass (suc k) o l e = rw (e, those_pass k o l e)

  those_fail : (k : ℕ) (o : Obligor) (l : List Obligor) → test o ≡ false → those test (replicate k o ++ l) ≡ those test l
  unfolding those
  those_fail zero o l e = refl
  those_fail (suc k) o l e = rw e (those_fail k o l e)

those_defaulted : (g : ℕ) (t : Table) → those (λ o. o.defaulted) (obligors_from g t) ≡ defaulted_from g t
unfolding obligors_from defaulted_from those
those_defaulted g [] = refl
those_defaulted g (r ∷ t) =
    rw (
      those_pass _ r.defaults (bad g) _ refl,
      those_fail _ (survivors r) (good g) (obligors_from (suc g) t) refl,
      those_defaulted (suc g) t,
    )

those_survived : (g : ℕ) (t : Table) → those (λ o. not o.defaulted) (obligors_from g t) ≡ survived_from g t
unfolding obligors_from survived_from those
those_survived g [] = refl
those_survived g (r ∷ t) =
    rw (
      those_fail _ r.defaults (bad g) _ refl,
      those_pass _ (survivors r) (good g) (obligors_from (suc g) t) refl,
      those_survived (suc g) t,
    )

-- D and S of them.

length_defaulted : (g : ℕ) (t : Table) → length (defaulted_from g t) ≡ defaults_in t
unfolding defaulted_from defaults_in
length_defaulted g [] = refl
length_defaulted g (r ∷ t) = rw (length-append, length-replicate, length_defaulted (suc g) t)

length_survived : (g : ℕ) (t : Table) → length (survived_from g t) ≡ survivors_in t
unfolding survived_from survivors_in
length_survived g [] = refl
length_survived g (r ∷ t) = rw (length-append, length-replicate, length_survived (suc g) t)

pub obligors_are_counted : (t : Table)
    → (number (λ o. o.defaulted) (obligors_of_lem t) ≡ (measures_of t).defaults)
    × (number (λ o. not o.defaulted) (obligors_of_lem t) ≡ (measures_of t).survivors.0)
unfolding measures_of
obligors_are_counted t =
    (rw (those_defaulted 0 t) (length_defaulted 0 t), rw (those_survived 0 t) (length_survived 0 t))

-- Survivors of worse grades, against one test; and pairs of survivors of one grade with the defaults of worse ones.

survived_alike : (test : Obligor → Bool) {b : Bool} (g : ℕ) (t : Table) → ((i : ℕ) → g ≤ i → test (good i) ≡ b)
    → number test (survived_from g t) ≡ survivors_in t * one b
unfolding survived_from survivors_in those
survived_alike test g [] h = omega arith
survived_alike test g (r ∷ t) h =
    omega (
      arith,
      number_append test (replicate (survivors r) (good g)) (survived_from (suc g) t),
      number-replicate test (survivors r) (good g) (h g (omega arith)),
      survived_alike test (suc g) t (λ i l. h i (omega arith)),
    )

defaulted_alike : (test : Pair → Bool) {b : Bool} (g : ℕ) (t : Table) (k : ℕ) (o : Obligor) → ((i : ℕ) → g ≤ i → test (pair (bad i) o) ≡ b)
    → number test (among (defaulted_from g t) (replicate k o)) ≡ defaults_in t * (k * one b)
unfolding defaulted_from defaults_in flat_map those
defaulted_alike test g [] k o h = omega arith
defaulted_alike test g (r ∷ t) k o h =
    omega (
      arith,
      among_replicate test r.defaults (bad g) (defaulted_from (suc g) t) (replicate k o),
      times_eq r.defaults (number-replicate (λ s. test (pair (bad g) s)) k o (h g (omega arith))),
      defaulted_alike test (suc g) t k o (λ i l. h i (omega arith)),
    )

-- A test that goes by the order of the two grades alone.
module _
    (test : Pair → Bool)
    (same better worse : Bool)
    (is_same : (g : ℕ) → test (pair (bad g) (good g)) ≡ same)
    (is-better : (g i : ℕ) → g < i → test (pair (bad g) (good i)) ≡ better)
    (is-worse : (g i : ℕ) → g < i → test (pair (bad i) (good g)) ≡ worse)
  where
    counted : (g : ℕ) (t : Table)
        → number test (among (defaulted_from g t) (survived_from g t)) ≡ tied t * one same + (discordant t * one better + concordant t * one worse)
    unfolding defaulted_from survived_from flat_map those tied discordant concordant
    counted g [] = omega arith
    counted g (r ∷ t) =
        let d = r.defaults in
        let s = survivors r in
        let here = replicate s (good g) in
        let later = survived_from (suc g) t in
        let first : Obligor → Bool = λ s. test (pair (bad g) s) in
        let row : number first (here ++ later) ≡ s * one same + survivors_in t * one better = omega (
          arith,
          number_append first here later,
          number-replicate first s (good g) (is_same g),
          survived_alike first (suc g) t (λ i l. is-better g i l),
        ) in
        omega (
          arith,
          among_replicate test d (bad g) (defaulted_from (suc g) t) (here ++ later),
          times_eq d row,
          among_append test (defaulted_from (suc g) t) here later,
          defaulted_alike test (suc g) t s (good g) (λ i l. is-worse g i l),
          counted (suc g) t,
        )

    pub pairs_counted : (t : Table)
        → number test (pairs_among (obligors_of_lem t)) ≡ tied t * one same + (discordant t * one better + concordant t * one worse)
    unfolding pairs_among
    pairs_counted t = rw (those_defaulted 0 t, those_survived 0 t) (counted 0 t)

-- The four counts.

pub passes : (b : Bool) → T b → b ≡ true
passes true h = refl
passes false h = absurd h

fails : (b : Bool) → (T b → ⊥) → b ≡ false
fails true h = absurd (h tt)
fails false h = refl

below : (a b : ℕ) → a < b → ltb a b ≡ true
below a b l = passes (ltb a b) (lt→ltb a b l)

not_below : (a b : ℕ) → b ≤ a → ltb a b ≡ false
not_below a b l = fails (ltb a b) (λ h. omega (arith, ltb→lt a b h))

pub unlike : (a b : ℕ) → (a ≡ b → ⊥) → eqb a b ≡ false
unlike a b n = fails (eqb a b) (λ h. n (eqb→eq a b h))

pub pairs_are_counted : (t : Table)
    → (number is_concordant (pairs_among (obligors_of_lem t)) ≡ concordant t)
    × (number is_discordant (pairs_among (obligors_of_lem t)) ≡ discordant t)
    × (number is_tied (pairs_among (obligors_of_lem t)) ≡ tied t)
    × (length (pairs_among (obligors_of_lem t)) ≡ pairs t)
pairs_are_counted t =
    let c = pairs_counted is_concordant false false true
    (λ g. not_below g g (omega arith)) (λ g i l. not_below i g (omega arith)) (λ g i l. below g i l) t in
    let x = pairs_counted is_discordant false true false
    (λ g. not_below g g (omega arith)) (λ g i l. below g i l) (λ g i l. not_below i g (omega arith)) t in
    let e = pairs_counted is_tied true false false
    (λ g. passes (eqb g g) (eqb_refl g)) (λ g i l. unlike g i (λ h. omega arith)) (λ g i l. unlike i g (λ h. omega arith)) t in
    let all = pairs_counted (λ _. true) true true true (λ _. refl) (λ _ _ _. refl) (λ _ _ _. refl) t in
    (omega arith, omega arith, omega arith, omega (arith, number-all (pairs_among (obligors_of_lem t)), every_pair t))
