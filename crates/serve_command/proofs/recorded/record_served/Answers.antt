use Rattle.std.proofs.Common.{◌≡◌, ◌∙◌, Some, ap₂, subst, sym, refl, inr}
use Rattle.frame_core.specs.Agreed.{AreReady}
use Rattle.command_answers.specs.declared.statuses.TheConstants.{OUT_OF_MEMORY}
use Rattle.command_answers.proofs.OutcomeLemmas.{memory_outcome}
use Rattle.command_answers.specs.Writing.{AnswersReply}
use Rattle.match_run.specs.Local.{longest}
use Rattle.match_serve.specs.Passes.{columns_of}
use Rattle.match_record.specs.Matches.{match_from}
use Rattle.serve_command.specs.Records.{recorded_reply, served_record, IsSpelled}
use Rattle.serve_command.specs.ServeText.{served_reply}
use Rattle.serve_command.proofs.ClosedLemmas.{closed_are}
use Rattle.serve_command.proofs.recorded.record_served.Goals as goal

pub print_recorded-requires-clause-count : goal.print_recorded-requires-clause-count
print_recorded-requires-clause-count g c = c.close-columns.ensures.clients ∙ c.requires.over.count

pub print_recorded-requires-clause-ready : goal.print_recorded-requires-clause-ready
print_recorded-requires-clause-ready g c =
    let served = c.args.served in
    let columns = closed_are c.args.invite.now.clients served.table served.pass _ c.requires.over c.close-columns.ensures.clients c.close-columns.ensures.columns in
    subst (λ all. AreReady all (longest all)) (sym columns) c.requires.ready

-- There was memory for the text.
pub returns-in-Ok-clause-answers : goal.returns-in-Ok-clause-answers
returns-in-Ok-clause-answers g c =
    let served = c.args.served in
    let invite = c.args.invite.now in
    let hash = g.M.World.Sim.hash_of in
    let summary = g.M.World.Sim.summary_of in
    let of_match = match_from g.M.World.Sim.after hash summary (g.M.Maker.made c.args.maker.now invite.seed invite.clients) invite.clients in
    let d = g.D.Disk.state c.args.disk.now in
    let d' = g.D.Disk.state c.print_recorded.new.disk in
    let s = g.K.Sink.state c.args.out.now in
    let s' = g.K.Sink.state c.print_recorded.new.out in
    let columns = closed_are invite.clients served.table served.pass _ c.requires.over c.close-columns.ensures.clients c.close-columns.ensures.columns in
    let reply = c.in-Ok.ensures ∙ ap₂ (λ all ends. served_reply hash summary all ends served.sim served.board) columns c.as_slice.ensures in
    subst (λ all. AnswersReply (record (served_reply hash summary (columns_of served.pass) served.ends served.sim served.board) {
      write = Some (record { name = c.args.name.now; bytes = served_record of_match invite all });
    }) c.print_recorded.result d d' s s') columns
    (subst (λ made. AnswersReply (record made {
      write = Some (record { name = c.args.name.now; bytes = served_record of_match invite c.close-columns.result });
    }) c.print_recorded.result d d' s s') reply c.print_recorded.ensures.answers)

pub returns-in-Ok-clause-spelled : goal.returns-in-Ok-clause-spelled
returns-in-Ok-clause-spelled g c =
    let served = c.args.served in
    let invite = c.args.invite.now in
    let of_match = match_from g.M.World.Sim.after g.M.World.Sim.hash_of g.M.World.Sim.summary_of
    (g.M.Maker.made c.args.maker.now invite.seed invite.clients) invite.clients in
    let columns = closed_are invite.clients served.table served.pass _ c.requires.over c.close-columns.ensures.clients c.close-columns.ensures.columns in
    subst (λ all. IsSpelled of_match invite all (g.D.Disk.state c.args.disk.now) (g.D.Disk.state c.print_recorded.new.disk)) columns
    c.print_recorded.ensures.spelled

-- There was not.
pub returns-clause-answers : goal.returns-clause-answers
returns-clause-answers g c =
    let served = c.args.served in
    let invite = c.args.invite.now in
    let of_match = match_from g.M.World.Sim.after g.M.World.Sim.hash_of g.M.World.Sim.summary_of
    (g.M.Maker.made c.args.maker.now invite.seed invite.clients) invite.clients in
    let d = g.D.Disk.state c.args.disk.now in
    let s = g.K.Sink.state c.args.out.now in
    inr (memory_outcome (recorded_reply of_match invite c.args.name.now (columns_of served.pass) served.ends served.sim served.board)
    OUT_OF_MEMORY d d s s refl refl refl)
