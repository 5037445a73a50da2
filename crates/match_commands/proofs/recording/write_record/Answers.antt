use Rattle.std.proofs.Common.{subst, arith}
use Rattle.drill_words.specs.Drill.{plain_of}
use Rattle.replay_commands.specs.Records.{ReplaysDrill}
use Rattle.match_commands.proofs.recording.write_record.Goals as goal

-- The bytes were made: they are those of the record.
pub returns-in-Ok-clause-replays : goal.returns-in-Ok-clause-replays
returns-in-Ok-clause-replays g c = λ setup is done.
    subst (ReplaysDrill c.args.number setup (plain_of c.args.drill.now)) (c.in-Ok.ensures.record setup is) (c.in-Ok.ensures.again setup is)

-- Memory ran out.
pub returns-in-Err-clause-replays : goal.returns-in-Err-clause-replays
returns-in-Err-clause-replays g c = λ setup is done. absurd (omega (arith, done))
