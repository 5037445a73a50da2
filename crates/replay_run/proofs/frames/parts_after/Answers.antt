use Rattle.replay_run.proofs.FramesLemmas.{skipped_more}
use Rattle.replay_run.proofs.frames.parts_after.Goals as goal

pub loop-skipped-preserved : goal.loop-skipped-preserved
loop-skipped-preserved c =
    skipped_more _ _ _ _ _ _ c.loop-skipped.invariant c.loop-skipped-test.true c.requires
    c.next_frame.ensures
