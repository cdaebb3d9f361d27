-- `report` is safe: the desk that its load leaves is sound.
use Rattle.desk.specs.Desk.{fresh_desk}
use Rattle.desk.proofs.Soundness.{fresh_sound, change_sound}
use Rattle.report.proofs.report.Goals as goal

pub loaded-requires : goal.loaded-requires
loaded-requires g c = rw (c.load.ensures.desk_after, c.empty-desk.ensures) (change_sound fresh_desk 1 _ fresh_sound)
