-- `book` keeps the desk sound: each event has a method that changes it.
use Rattle.desk.proofs.Soundness.{change_sound}
use Rattle.replay.proofs.commands.book.Goals.{in-SurvivorEnters, in-SurvivorLeaves, in-SurvivorDefaults, in-DefaultedRemoved}
use Rattle.replay.proofs.commands.book.Goals as goal

pub returns : goal.returns
returns g c = elim c.match-event.branch [
  | in-SurvivorEnters w ↦ rw (w.desk-is, w.survivor_enters.ensures.desk_after) (change_sound _ _ _ c.requires)
  | in-SurvivorLeaves w ↦ rw (w.desk-is, w.survivor_leaves.ensures.desk_after) (change_sound _ _ _ c.requires)
  | in-SurvivorDefaults w ↦ rw (w.desk-is, w.survivor_defaults.ensures.desk_after) (change_sound _ _ _ c.requires)
  | in-DefaultedRemoved w ↦ rw (w.desk-is, w.defaulted_removed.ensures.desk_after) (change_sound _ _ _ c.requires)
]
