-- What is claimed of events: `claims` has nothing to do but to show it.
use Rattle.events.proofs.Tables.{one_firm, announced_kept, others_kept, length-after, event_sound}
use Rattle.events.proofs.claims.Goals as goal

pub returns : goal.returns
returns c =
    record {
      events_move_one_firm = one_firm;
      announced_rates_are_kept = announced_kept;
      other_grades_are_kept = others_kept;
      grades_are_kept = length-after;
      events_keep_tables_sound = event_sound;
    }
