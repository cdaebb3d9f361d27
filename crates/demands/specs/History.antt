-- Lists of calls on a fresh desk: the desk that they leave, and, told without it, which table each place then holds.
use Rattle.std.specs.Prelude.{ℕ, ◌≡◌, cond, List, [], ◌∷◌, eqb}
use Rattle.table.specs.Table.{Table}
use Rattle.pooled_place.specs.declared.PooledPlace.{PooledPlace}
use Rattle.pooled_place.specs.PooledPlace.{fresh_pooled_place, pooled_place_of}
use Rattle.events.specs.declared.Event.{Event}
use Rattle.events.specs.declared.Event.TheVariants.{SurvivorEnters, SurvivorLeaves, SurvivorDefaults, DefaultedRemoved}
use Rattle.events.specs.Events.{table_after, event_fault}
use Rattle.book.specs.Rows.{table_of_rater}
use Rattle.book.specs.Reading.{read_fault}
use Rattle.refusals.specs.Answers.{leaves}
use Rattle.calls.specs.Calls.{Question, cheapest, measures, brier, spread, Filling, pool, Change, load, clear, event}
use Rattle.desk.specs.declared.Desk.{Desk}
use Rattle.desk.specs.Desk.{fresh_desk}
use Rattle.desk.specs.Calls.{Call, ask, compare, compare_on_shares, fill, write, shortlist, change, after}

-- The desk.

unfoldable pub desk_from : Desk → List Call → Desk
desk_from d [] = d
desk_from d (c ∷ calls) = desk_from (after d c) calls

abbrev pub desk_after_lem : List Call → Desk
desk_after_lem calls = desk_from fresh_desk calls

-- The numbers that a call can be refused with.

abbrev pub question_numbers : Question → List ℕ
question_numbers (cheapest u v) = 22 ∷ 12 ∷ []
question_numbers measures = 22 ∷ 23 ∷ 24 ∷ []
question_numbers brier = 22 ∷ []
question_numbers spread = 22 ∷ []

abbrev pub fill_numbers : Filling → List ℕ
fill_numbers pool = 22 ∷ 13 ∷ []

abbrev pub event_numbers : Event → List ℕ
event_numbers SurvivorEnters = 22 ∷ 36 ∷ 38 ∷ []
event_numbers SurvivorLeaves = 22 ∷ 36 ∷ 37 ∷ []
event_numbers SurvivorDefaults = 22 ∷ 36 ∷ 37 ∷ []
event_numbers DefaultedRemoved = 22 ∷ 36 ∷ 37 ∷ []

abbrev pub change_numbers : Change → List ℕ
change_numbers (load book rater) = 21 ∷ 2 ∷ 3 ∷ 4 ∷ 31 ∷ 32 ∷ 6 ∷ 7 ∷ 33 ∷ 8 ∷ 10 ∷ 34 ∷ 9 ∷ 11 ∷ []
change_numbers clear = 22 ∷ []
change_numbers (event e grade) = event_numbers e

abbrev pub numbers : Call → List ℕ
numbers (ask i q) = 1 ∷ question_numbers q
numbers compare = 22 ∷ 23 ∷ 24 ∷ 25 ∷ []
numbers compare_on_shares = 22 ∷ 23 ∷ 24 ∷ 35 ∷ []
numbers (fill i f out) = 1 ∷ fill_numbers f
numbers (write out) = 22 ∷ 13 ∷ []
numbers (shortlist book out) = 2 ∷ 3 ∷ 31 ∷ 32 ∷ 6 ∷ 7 ∷ 33 ∷ 8 ∷ 10 ∷ 34 ∷ 9 ∷ 11 ∷ 23 ∷ 24 ∷ 25 ∷ 13 ∷ []
numbers (change i c) = 1 ∷ change_numbers c

-- the call with another buffer lent
abbrev pub lending : List ℕ → Call → Call
lending new (ask i q) = ask i q
lending new compare = compare
lending new compare_on_shares = compare_on_shares
lending new (fill i f out) = fill i f new
lending new (write out) = write new
lending new (shortlist book out) = shortlist book new
lending new (change i c) = change i c

-- The call does not change place i.
abbrev pub Keeps : ℕ → Call → Type 0
Keeps i (ask k q) = Unit {0}
Keeps i compare = Unit {0}
Keeps i compare_on_shares = Unit {0}
Keeps i (fill k f out) = Unit {0}
Keeps i (write out) = Unit {0}
Keeps i (shortlist book out) = Unit {0}
Keeps i (change k c) = k ≡ i → ⊥

-- What a place holds, told by the books and the events alone.
pub data Held : Type 0 where
  nothing : Held
  table : Table → Held

-- after a load into it: "load fills an empty place" with the table of the rater as it stands in the bytes, n taken as the kind says
abbrev pub filled : Held → List ℕ → ℕ → Held
filled nothing book rater = leaves (read_fault book rater) nothing (table (table_of_rater book rater))
filled (table t) book rater = table t

-- after an event at a grade of it: R-8, "the table in a place is from now on the one that its load and the events since have made"
abbrev pub booked : Held → Event → ℕ → Held
booked nothing e grade = nothing
booked (table t) e grade = leaves (event_fault e grade t) (table t) (table (table_after e grade t))

-- after a change of it
abbrev pub held_then : Held → Change → Held
held_then h (load book rater) = filled h book rater
held_then h clear = nothing
held_then h (event e grade) = booked h e grade

-- place i after one more call
abbrev pub held_after : ℕ → Held → Call → Held
held_after i h (ask k q) = h
held_after i h compare = h
held_after i h compare_on_shares = h
held_after i h (fill k f out) = h
held_after i h (write out) = h
held_after i h (shortlist book out) = h
held_after i h (change k c) = cond (eqb k i) (held_then h c) h

unfoldable pub held_from : ℕ → Held → List Call → Held
held_from i h [] = h
held_from i h (c ∷ calls) = held_from i (held_after i h c) calls

abbrev pub held : ℕ → List Call → Held
held i calls = held_from i nothing calls

-- the place that holds it, with its pooled list
abbrev pub placed : Held → PooledPlace
placed nothing = fresh_pooled_place
placed (table t) = pooled_place_of t
