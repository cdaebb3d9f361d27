-- `load` keeps the desk sound.
use Rattle.desk.proofs.Soundness.{change_sound}
use Rattle.replay.proofs.commands.load.Goals as goal

pub returns-in_err-done : goal.returns-in_err-done
returns-in_err-done g c = rw c.load.ensures.desk_after (change_sound _ _ _ c.requires)

pub returns : goal.returns
returns g c = rw c.load.ensures.desk_after (change_sound _ _ _ c.requires)
