use Rattle.std.proofs.Common.{inl, inr, refl, subst, sym}
use Rattle.frame_core.specs.Agreed.{AreReady}
use Rattle.link_commands.proofs.LinkLemmas.{made_prints}
use Rattle.link_commands.specs.PlayText.{link_fault}
use Rattle.match_serve.specs.Passes.{columns_of}
use Rattle.serve_command.proofs.RecordsLemmas.{greatest_longest}
use Rattle.serve_command.proofs.recorded.serve_recorded.Goals as goal

-- All frames of the columns were ticked.
pub record_served-requires-clause-ready : goal.record_served-requires-clause-ready
record_served-requires-clause-ready g c =
    let served = c.in-Ok-serve_watched.served in
    let serves = c.in-Ok-serve_watched.ensures.served in
    subst (AreReady (columns_of served.pass))
    (sym (greatest_longest c.args.invite.now.clients (columns_of served.pass) (g.M.World.Sim.steps served.sim) serves.over.columns serves.greatest))
    serves.at.ready

-- The match was served to its end.
pub returns-in-Ok-serve_watched-clause-records : goal.returns-in-Ok-serve_watched-clause-records
returns-in-Ok-serve_watched-clause-records g c =
    let served = c.in-Ok-serve_watched.served in
    let serves = rw (c.in-Ok.ensures.world) at c.in-Ok-serve_watched.ensures.served in
    inl (record {
      world = served.sim;
      steps = g.M.World.Sim.steps served.sim;
      table = served.table;
      pass = served.pass;
      board = served.board;
      ends = served.ends;
      taken = served.taken;
      serves = serves;
      ticked = greatest_longest c.args.invite.now.clients (columns_of served.pass) (g.M.World.Sim.steps served.sim) serves.over.columns serves.greatest;
      answers = c.record_served.ensures.answers;
      spelled = c.record_served.ensures.spelled;
    })

-- The net failed.
pub returns-in-Err-Net-clause-records : goal.returns-in-Err-Net-clause-records
returns-in-Err-Net-clause-records g c =
    inr (inr (
      c.in-Err-Net.ensures.net (c.in-Err-Net.field-0-is),
      made_prints c.lost_answer.result link_fault c.print_made.result (g.K.Sink.state c.args.out.now)
          (g.K.Sink.state c.print_made.new.out) c.lost_answer.ensures c.print_made.ensures.prints,
      refl,
    ))
