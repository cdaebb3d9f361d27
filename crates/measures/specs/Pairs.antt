-- Pairs of one defaulted with one surviving obligor, by which of the two is in the worse grade.
use Rattle.std.specs.Prelude.{ℕ, suc, ◌+◌, ◌*◌, ◌≤◌, ◌≡◌, Bool, true, false, not, cond, ◌&&◌, ltb, eqb, length, get_or, replicate}
use mathlib.Core.List.{List, [], ◌∷◌, ◌++◌, map, flat_map}
use Rattle.table.specs.Table.{Table, Every, survivors, defaults_in, survivors_in}
use Rattle.table.specs.Place.{blank}

-- Those elements of a list that pass a test, and their number.

unfoldable pub those : {A : Type 0} → (A → Bool) → List A → List A
those test [] = []
those test (x ∷ l) = cond (test x) (x ∷ those test l) (those test l)

abbrev pub number : {A : Type 0} → (A → Bool) → List A → ℕ
number test l = length (those test l)

-- An obligor: its grade, counted from 0 for the best, and whether it defaulted.
pub record Obligor : Type 0 where
  pub grade : ℕ
  pub defaulted : Bool

-- the obligors of grades from number g on
unfoldable pub obligors_from : ℕ → Table → List Obligor
obligors_from g [] = []
obligors_from g (r ∷ t) =
    replicate r.defaults (record { grade = g; defaulted = true })
    ++ (replicate (survivors r) (record { grade = g; defaulted = false }) ++ obligors_from (suc g) t)

-- all obligors of a table, in grade order
abbrev pub obligors_of_lem : Table → List Obligor
obligors_of_lem t = obligors_from 0 t

-- No obligor stands before one of a better grade.
unfoldable pub InGradeOrder : List Obligor → Type 0
InGradeOrder [] = Unit {0}
InGradeOrder (o ∷ l) = Every (λ later. o.grade ≤ later.grade) l × InGradeOrder l

-- What such a list is: in grade order, with as many of each grade who defaulted, and who survived, as the table has.
pub record IsListOf (t : Table) (l : List Obligor) : Type 0 where
  pub ordered : InGradeOrder l
  pub defaulted : (g : ℕ) → number (λ o. eqb o.grade g && o.defaulted) l ≡ (get_or t g blank).defaults
  pub survived : (g : ℕ) → number (λ o. eqb o.grade g && not o.defaulted) l ≡ survivors (get_or t g blank)

pub record Pair : Type 0 where
  pub defaulted : Obligor
  pub survived : Obligor

-- all pairs: each defaulted obligor with each surviving one
unfoldable pub pairs_among : List Obligor → List Pair
pairs_among l =
    flat_map (λ d. map (λ s. record { defaulted = d; survived = s }) (those (λ o. not o.defaulted) l)) (those (λ o. o.defaulted) l)

-- The defaulted one is in the worse grade, in the better, in the same.

abbrev pub is_concordant : Pair → Bool
is_concordant p = ltb p.survived.grade p.defaulted.grade

abbrev pub is_discordant : Pair → Bool
is_discordant p = ltb p.defaulted.grade p.survived.grade

abbrev pub is_tied : Pair → Bool
is_tied p = eqb p.defaulted.grade p.survived.grade

-- Their numbers, grade by grade: that they are is the claim PairsAreCounted.

-- C
unfoldable pub concordant : Table → ℕ
concordant [] = 0
concordant (r ∷ t) = survivors r * defaults_in t + concordant t

-- X
unfoldable pub discordant : Table → ℕ
discordant [] = 0
discordant (r ∷ t) = r.defaults * survivors_in t + discordant t

-- T
unfoldable pub tied : Table → ℕ
tied [] = 0
tied (r ∷ t) = r.defaults * survivors r + tied t
