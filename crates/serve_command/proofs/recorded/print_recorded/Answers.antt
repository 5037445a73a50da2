use Rattle.std.proofs.Common.{Some, refl, inl, inr}
use Rattle.command_answers.specs.Answer.{reply_of}
use Rattle.command_answers.proofs.WritingLemmas.{writes_outcome}
use Rattle.match_record.specs.Matches.{match_from}
use Rattle.serve_command.specs.Records.{served_record}
use Rattle.serve_command.proofs.recorded.print_recorded.Goals as goal

-- The text was written, and then the record.
pub returns-in-Ok-clause-answers : goal.returns-in-Ok-clause-answers
returns-in-Ok-clause-answers g c =
    let invite = c.args.invite.now in
    let of_match = match_from g.M.World.Sim.after g.M.World.Sim.hash_of g.M.World.Sim.summary_of
    (g.M.Maker.made c.args.maker.now invite.seed invite.clients) invite.clients in
    writes_outcome (record (reply_of c.args.answer.now) {
      write = Some (record { name = c.args.name.now; bytes = served_record of_match invite c.args.columns.now });
    }) c.write_record.result
    (g.D.Disk.state c.args.disk.now) (g.D.Disk.state c.write_record.new.disk) (g.K.Sink.state c.args.out.now) (g.K.Sink.state c.put.new.self)
    (rw c.deref.ensures.value at c.in-Ok.ensures.wrote) c.write_record.ensures.writes

-- A write failed.
pub returns-in-Err-clause-answers : goal.returns-in-Err-clause-answers
returns-in-Err-clause-answers g c = inl (inr (inl (refl, c.in-Err.ensures.failed refl, rw c.deref.ensures.value at c.in-Err.ensures.prefix, refl)))
