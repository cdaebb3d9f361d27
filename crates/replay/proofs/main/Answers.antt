-- A fresh desk is sound.
use Rattle.desk.proofs.Soundness.{fresh_sound}
use Rattle.replay.proofs.main.Goals as goal

pub loop-init : goal.loop-init
loop-init c = rw c.empty-desk.ensures fresh_sound
