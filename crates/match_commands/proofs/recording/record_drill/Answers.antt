use Rattle.match_commands.proofs.KeptLemmas.{stopped_short}
use Rattle.match_commands.proofs.recording.record_drill.Goals as goal

-- There is what the drill stands on.
pub returns-in-Ok-clause-replays : goal.returns-in-Ok-clause-replays
returns-in-Ok-clause-replays g c = rw (c.in-Ok.is) c.run_recorded.ensures.replays

-- The command ended before it.
pub returns-in-Err-clause-replays : goal.returns-in-Err-clause-replays
returns-in-Err-clause-replays g c =
    rw (c.in-Err.is) (stopped_short _ _ _ _ c.print_stop.ensures.prints)
