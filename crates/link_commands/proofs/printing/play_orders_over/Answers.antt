use Rattle.std.proofs.Common.{inl, inr}
use Rattle.link_commands.proofs.LinkLemmas.{made_prints}
use Rattle.link_commands.specs.PlayText.{link_fault, played_reply}
use Rattle.link_commands.proofs.printing.play_orders_over.Goals as goal

-- The match was played to its end.
pub returns-in-Ok-clause-plays : goal.returns-in-Ok-clause-plays
returns-in-Ok-clause-plays g c =
    let played = c.in-Ok.played in
    inl (record {
      end = played.end;
      client = played.client;
      frames = played.frames;
      sim = played.sim;
      played = c.in-Ok.ensures.ok;
      prints = made_prints c.played_answer.result
          (played_reply g.M.World.Sim.hash_of g.M.World.Sim.summary_of played.end played.client played.frames played.sim)
          c.print_made.result (g.K.Sink.state c.args.out.now) (g.K.Sink.state c.print_made.new.out) c.played_answer.ensures c.print_made.ensures.prints;
    })

-- The net gave no link.
pub returns-in-Err-Net-clause-plays : goal.returns-in-Err-Net-clause-plays
returns-in-Err-Net-clause-plays g c =
    inr (inr (
      rw (c.in-Err-Net.field-0-is) at c.in-Err-Net.ensures.err,
      made_prints c.lost_answer.result link_fault c.print_made-in-Err-Net.result (g.K.Sink.state c.args.out.now)
          (g.K.Sink.state c.print_made-in-Err-Net.new.out) c.lost_answer.ensures c.print_made-in-Err-Net.ensures.prints,
    ))
