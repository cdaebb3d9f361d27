-- Serves contracts of functions inside the library only: what is promised does not rest on it.
-- The counts of a grade as the code holds them, and the words of a place after an event.
use Rattle.std.specs.Prelude.{ℕ, zero, suc, ◌≤◌, ◌<◌, List}
use Rattle.table.specs.Table.{Table, Grade}
use Rattle.pooled_place.specs.PooledPlace.{pooled_place_of}
use Rattle.pooled_place.specs.Words.{pooled_place_words}
use Rattle.events.specs.Events.{Event}
use Rattle.events.specs.declared.Event.TheVariants.{SurvivorEnters, SurvivorLeaves, SurvivorDefaults, DefaultedRemoved}
use Rattle.events.specs.declared.Counts.{Counts}

-- a grade that announces nothing, of these counts
abbrev pub grade_of : Counts → Grade
grade_of c = record { obligors = c.obligors.0; defaults = c.defaults; announced = 0 }

abbrev pub counts_of_lem : Grade → Counts
counts_of_lem r = record { obligors = record { 0 = r.obligors }; defaults = r.defaults }

-- what a grade has that takes the event
abbrev pub Takes : Event → Counts → Type 0
Takes SurvivorEnters c = c.obligors.0 ≤ 1_000_000
Takes SurvivorLeaves c = c.defaults < c.obligors.0
Takes SurvivorDefaults c = (c.defaults < c.obligors.0) × (c.obligors.0 ≤ 1_000_000)
Takes DefaultedRemoved c = (1 ≤ c.defaults) × (c.defaults ≤ c.obligors.0)

-- the words w of a place after an event with the fault n that made t of its table
abbrev pub words_after_lem : ℕ → Table → List ℕ → List ℕ
words_after_lem zero t w = pooled_place_words (pooled_place_of t)
words_after_lem (suc n) t w = w
