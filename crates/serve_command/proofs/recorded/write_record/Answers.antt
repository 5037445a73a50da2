use Rattle.std.proofs.Common.{Some, subst, inr}
use Rattle.command_answers.specs.Writing.{WritesLast}
use Rattle.replay_file.specs.FirstFault.{Spells}
use Rattle.match_record.specs.Matches.{match_from}
use Rattle.serve_command.specs.Records.{served_record, served_replay}
use Rattle.serve_command.proofs.recorded.write_record.Goals as goal

-- There was memory for the bytes.
pub returns-in-Ok-clause-writes : goal.returns-in-Ok-clause-writes
unfolding served_record
returns-in-Ok-clause-writes g c =
    subst (λ bytes. WritesLast (Some (record { name = c.args.name.now; bytes = bytes })) c.args.status c.write_last.result
    (g.D.Disk.state c.args.disk.now) (g.D.Disk.state c.write_last.new.disk))
    c.in-Ok.ensures.spelled c.write_last.ensures.writes

pub returns-in-Ok-clause-spelled : goal.returns-in-Ok-clause-spelled
unfolding served_record
returns-in-Ok-clause-spelled g c =
    let invite = c.args.invite.now in
    let of_match = match_from g.M.World.Sim.after g.M.World.Sim.hash_of g.M.World.Sim.summary_of
    (g.M.Maker.made c.args.maker.now invite.seed invite.clients) invite.clients in
    inr (subst (λ bytes. Spells invite.rules bytes (served_replay of_match invite c.args.columns.now)) c.in-Ok.ensures.spelled c.in-Ok.ensures)
