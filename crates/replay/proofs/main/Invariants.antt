-- The desk stays sound.
use Rattle.desk.specs.Desk.{SoundDesk}
use Rattle.replay.proofs.main.Given as goal

abbrev pub invariant-loop : goal.invariant-loop
invariant-loop l = SoundDesk l.desk
