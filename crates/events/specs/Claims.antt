-- What is claimed of events beyond the contracts. The contract of `claims` in src/lib.rt is all of it, so that the crate is refused where a
-- claim is not proved.
use Rattle.std.specs.Prelude.{ℕ, ◌+◌, ◌≡◌, map, length, get_or}
use Rattle.table.specs.Table.{Table, Grade, Sound, survivors}
use Rattle.table.specs.Place.{blank}
use Rattle.events.specs.Events.{Event, grade_numbered, table_after, event_fault}
use Rattle.events.specs.declared.Event.TheVariants.{SurvivorEnters, SurvivorLeaves, SurvivorDefaults, DefaultedRemoved}

-- "A survivor enters, a survivor leaves, a survivor defaults, a defaulted firm is removed": told of the survivors and the defaulted of a grade r,
-- which then is q.
abbrev pub OneFirm : Event → Grade → Grade → Type 0
OneFirm SurvivorEnters r q = (survivors q ≡ survivors r + 1) × (q.defaults ≡ r.defaults)
OneFirm SurvivorLeaves r q = (survivors q + 1 ≡ survivors r) × (q.defaults ≡ r.defaults)
OneFirm SurvivorDefaults r q = (survivors q + 1 ≡ survivors r) × (q.defaults ≡ r.defaults + 1)
OneFirm DefaultedRemoved r q = (survivors q ≡ survivors r) × (q.defaults + 1 ≡ r.defaults)

abbrev pub EventsMoveOneFirm : Type 0
EventsMoveOneFirm =
    (e : Event) (g : ℕ) (t : Table) → Sound t → event_fault e g t ≡ 0 → OneFirm e (grade_numbered t g) (grade_numbered (table_after e g t) g)

-- "Announced rates .. are untouched by an event":
abbrev pub AnnouncedRatesAreKept : Type 0
AnnouncedRatesAreKept = (e : Event) (g : ℕ) (t : Table) → map (λ r. r.announced) (table_after e g t) ≡ map (λ r. r.announced) t

-- "other grades' counts .. are untouched": grade j + 1, where it is not grade g.
abbrev pub OtherGradesAreKept : Type 0
OtherGradesAreKept =
    (e : Event) (g j : ℕ) (t : Table) → event_fault e g t ≡ 0 → (j + 1 ≡ g → ⊥) → get_or (table_after e g t) j blank ≡ get_or t j blank

-- No grade comes or goes.
abbrev pub GradesAreKept : Type 0
GradesAreKept = (e : Event) (g : ℕ) (t : Table) → length (table_after e g t) ≡ length t

-- An accepted event leaves a table as document 01 says: some grade stays occupied, and N within 1,000,000.
abbrev pub EventsKeepTablesSound : Type 0
EventsKeepTablesSound = (e : Event) (g : ℕ) (t : Table) → Sound t → event_fault e g t ≡ 0 → Sound (table_after e g t)

-- All of them: what the function `claims` of this crate promises.
pub record Claims : Type 0 where
  pub events_move_one_firm : EventsMoveOneFirm
  pub announced_rates_are_kept : AnnouncedRatesAreKept
  pub other_grades_are_kept : OtherGradesAreKept
  pub grades_are_kept : GradesAreKept
  pub events_keep_tables_sound : EventsKeepTablesSound
