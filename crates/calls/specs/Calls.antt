-- The calls on one place, by what they do: questions answer, fillings write a lent buffer, changes make another place of it. For each the
-- checks behind that of the place's number, in document 01's order, and what it leaves. Compare asks two places.
use Rattle.std.specs.Prelude.{ℕ, ◌*◌, cond, List, [], ◌∷◌, length}
use Rattle.table.specs.Table.{Table, defaults_in, survivors_in}
use Rattle.table.specs.Place.{table_of}
use Rattle.table.specs.declared.Place.{Place}
use Rattle.book.specs.Checks.{Check, at_most, equal, fault, first_fault}
use Rattle.book.specs.Rows.{table_of_rater}
use Rattle.book.specs.Reading.{read_fault}
use Rattle.pooling.specs.Numbers.{pooled_into}
use Rattle.pooled_place.specs.declared.PooledPlace.{PooledPlace}
use Rattle.pooled_place.specs.PooledPlace.{fresh_pooled_place, pooled_place_of}
use Rattle.events.specs.declared.Event.{Event}
use Rattle.events.specs.Events.{table_after, event_fault}
use Rattle.cutoff.specs.Verdict.{IsVerdict}
use Rattle.cutoff.specs.declared.Verdict.{Verdict}
use Rattle.refusals.specs.Answers.{Answer, Limited}

-- 21: place already loaded.
abbrev pub loaded_fault : Place → ℕ
loaded_fault p = cond p.loaded 21 0

-- 22: place empty.
abbrev pub empty_fault : Place → ℕ
empty_fault p = cond p.loaded 0 22

-- Questions.

pub data Question : Type 0 where
  cheapest : (u v : ℕ) → Question
  measures : Question
  brier : Question
  spread : Question

-- behind 22: 12, a price above 1,000,000; 23, no defaults; 24, no survivors
abbrev pub question_checks : Table → Question → List Check
question_checks t (cheapest u v) = at_most u 1_000_000 12 ∷ at_most v 1_000_000 12 ∷ []
question_checks t measures = at_most 1 (defaults_in t) 23 ∷ at_most 1 (survivors_in t) 24 ∷ []
question_checks t brier = []
question_checks t spread = []

-- "Cheapest 1, 22, 12. Brier and spread 1, 22. Measures 1, 22, 23, 24."
unfoldable pub question_fault : Place → Question → ℕ
question_fault p q = first_fault (empty_fault p) (fault (question_checks (table_of p) q))

-- Fillings.

pub data Filling : Type 0 where
  pool : Filling

-- how many numbers of the buffer an accepted one writes: pool 3 a grade
abbrev pub fill_size : Table → Filling → ℕ
fill_size t pool = 3 * length t

-- the buffer after it
abbrev pub filled_with : Table → Filling → List ℕ → List ℕ
filled_with t pool out = pooled_into t out

-- "Pool 1, 22, 13": of a lent buffer of n numbers
unfoldable pub fill_fault : Place → Filling → ℕ → ℕ
fill_fault p f n = first_fault (empty_fault p) (fault (at_most (fill_size (table_of p) f) n 13 ∷ []))

-- Changes.

pub data Change : Type 0 where
  load : (book : List ℕ) (rater : ℕ) → Change
  clear : Change
  event : Event → (grade : ℕ) → Change

-- "Load 1, 21, 2, 3, 4; then table by table .. Clear 1, 22." R-8, of an event: "After 1 and 22 come 36 .., 37 .. and 38".
unfoldable pub change_fault : Place → Change → ℕ
change_fault p (load book rater) = first_fault (loaded_fault p) (read_fault book rater)
change_fault p clear = empty_fault p
change_fault p (event e grade) = first_fault (empty_fault p) (event_fault e grade (table_of p))

-- "The table in a place is that of the rater loaded there, as it stands in the book lent to that load." "Clear makes a loaded [place] as it
-- is on a fresh desk." R-8: "The table in a place is from now on the one that its load and the events since have made .. Load makes the list, and
-- clear drops it too." What becomes of a place with the table t:
abbrev pub changed_to : Table → Change → PooledPlace
changed_to t (load book rater) = pooled_place_of (table_of_rater book rater)
changed_to t clear = fresh_pooled_place
changed_to t (event e grade) = pooled_place_of (table_after e grade t)

-- Compare.

-- 23 for either, 24 for either, 25
unfoldable pub pair_checks : Table → Table → List Check
pair_checks t₁ t₂ =
    at_most 1 (defaults_in t₁) 23
    ∷ at_most 1 (defaults_in t₂) 23
    ∷ at_most 1 (survivors_in t₁) 24
    ∷ at_most 1 (survivors_in t₂) 24
    ∷ equal (defaults_in t₁) (defaults_in t₂) 25
    ∷ equal (survivors_in t₁) (survivors_in t₂) 25
    ∷ []

-- "Compare: 22, where place 1 is tried before place 2; 23 for either; 24 for either; 25."
unfoldable pub compare_fault : Place → Place → ℕ
compare_fault p q = first_fault (empty_fault p) (first_fault (empty_fault q) (fault (pair_checks (table_of p) (table_of q))))

-- What compare may answer. Refusals and the kind of verdict are given; the price pairs are limited only, since "which pair is carried
-- is free; its prices are at most 1,000,000 and its costs differ as said".
abbrev pub Compared : Place → Place → Answer Verdict → Type 0
Compared p q r = Limited (compare_fault p q) (IsVerdict (table_of p) (table_of q)) r
