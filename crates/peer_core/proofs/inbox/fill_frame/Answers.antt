use Rattle.std.proofs.Common.{◌∙◌, arith, length-append}
use Rattle.peer_core.specs.Entries.{all_arrived}
use Rattle.peer_core.proofs.EachLemmas.{frame_step}
use Rattle.peer_core.proofs.inbox.fill_frame.Goals as goal

pub loop-c-preserved : goal.loop-c-preserved
loop-c-preserved c = (
  rw (c.push_entry.ensures)
      (frame_step (all_arrived 0 c.args.entries.now) c.loop-c.frame c.loop-c.c c.args.clients c.args.n c.loop-c-test.true ∙ c.loop-c.invariant.0),
  rw (c.push_entry.ensures, length-append) (omega (arith, c.loop-c.invariant.1)),
)
