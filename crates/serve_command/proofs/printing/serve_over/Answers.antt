use Rattle.std.proofs.Common.{inl, inr}
use Rattle.link_commands.proofs.LinkLemmas.{made_prints}
use Rattle.link_commands.specs.PlayText.{link_fault}
use Rattle.match_serve.specs.Passes.{columns_of}
use Rattle.serve_command.specs.ServeText.{served_reply}
use Rattle.serve_command.proofs.printing.serve_over.Goals as goal

-- The match was served to its end.
pub returns-in-Ok-serve_watched-clause-serves : goal.returns-in-Ok-serve_watched-clause-serves
returns-in-Ok-serve_watched-clause-serves g c =
    let served = c.in-Ok-serve_watched.served in
    let serves = rw (c.in-Ok.ensures.world) at c.in-Ok-serve_watched.ensures.served in
    inl (record {
      world = served.sim;
      steps = g.M.World.Sim.steps served.sim;
      table = served.table;
      pass = served.pass;
      board = served.board;
      ends = served.ends;
      taken = served.taken;
      serves = serves;
      prints = made_prints c.served_answer.result
          (served_reply g.M.World.Sim.hash_of g.M.World.Sim.summary_of (columns_of served.pass) served.ends served.sim served.board)
          c.print_made.result (g.K.Sink.state c.args.out.now) (g.K.Sink.state c.print_made.new.out)
          (c.served_answer.ensures c.args.invite.now.clients serves.over) c.print_made.ensures.prints;
    })

-- The net failed.
pub returns-in-Err-Net-clause-serves : goal.returns-in-Err-Net-clause-serves
returns-in-Err-Net-clause-serves g c =
    inr (inr (
      c.in-Err-Net.ensures.net (c.in-Err-Net.field-0-is),
      made_prints c.lost_answer.result link_fault c.print_made-in-Err-Net.result (g.K.Sink.state c.args.out.now)
          (g.K.Sink.state c.print_made-in-Err-Net.new.out) c.lost_answer.ensures c.print_made-in-Err-Net.ensures.prints,
    ))
