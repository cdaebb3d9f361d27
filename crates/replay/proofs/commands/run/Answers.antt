-- `run` keeps the desk sound: clear changes it, where it stands, and an event.
use Rattle.desk.proofs.Soundness.{change_sound}
use Rattle.replay.proofs.commands.run.Goals as goal

pub returns-in_err-done-in-Clear : goal.returns-in_err-done-in-Clear
returns-in_err-done-in-Clear g c = rw c.clear.ensures.desk_after (change_sound _ _ _ c.requires)

pub returns-in_ok-done-in-Clear : goal.returns-in_ok-done-in-Clear
returns-in_ok-done-in-Clear g c = rw c.clear.ensures.desk_after (change_sound _ _ _ c.requires)
