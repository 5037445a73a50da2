use Rattle.std.proofs.Common.{refl, inl, inr, arith}
use Rattle.drill_words.specs.Drill.{plain_of}
use Rattle.command_answers.proofs.WritingLemmas.{writes_outcome}
use Rattle.match_commands.specs.Drills.{drill_report, recording_reply}
use Rattle.match_commands.proofs.recording.run_recorded.Goals as goal

-- The report was written, and then the record.
pub returns-in-Ok-clause-records : goal.returns-in-Ok-clause-records
unfolding drill_report
returns-in-Ok-clause-records g c =
    writes_outcome (recording_reply c.args.name.now c.args.number c.args.maker.now (plain_of c.args.drill.now)) c.write_record.result
    (g.D.Disk.state c.args.disk.now) (g.D.Disk.state c.write_record.new.disk) (g.K.Sink.state c.args.out.now) (g.K.Sink.state c.run_drill.new.out)
    c.in-Ok.ensures.writes.wrote (c.write_record.ensures.writes c.args.maker.now c.in-Ok.ensures.leaves)

-- A write failed.
pub returns-in-Err-Write-clause-records : goal.returns-in-Err-Write-clause-records
unfolding drill_report
returns-in-Err-Write-clause-records g c =
    inl (inr (inl (refl, c.in-Err-Write.ensures.writes.failed (rw c.in-Err-Write.field-0-is refl), c.in-Err-Write.ensures.writes.prefix, refl)))

-- Memory ran out.
pub returns-in-Err-NoMemory-clause-records : goal.returns-in-Err-NoMemory-clause-records
unfolding drill_report
returns-in-Err-NoMemory-clause-records g c = inr (refl, c.in-Err-NoMemory.ensures.writes.prefix, refl)

-- The record is replayed as it was recorded.
pub returns-in-Ok-clause-replays : goal.returns-in-Ok-clause-replays
returns-in-Ok-clause-replays g c = c.write_record.ensures.replays c.args.maker.now c.in-Ok.ensures.leaves

pub returns-in-Err-Write-clause-replays : goal.returns-in-Err-Write-clause-replays
returns-in-Err-Write-clause-replays g c = λ done. absurd (omega (arith, done))

pub returns-in-Err-NoMemory-clause-replays : goal.returns-in-Err-NoMemory-clause-replays
returns-in-Err-NoMemory-clause-replays g c = λ done. absurd (omega (arith, done))
