use Rattle.std.proofs.Common.{subst, arith}
use Rattle.std.specs.List.{All}
use Rattle.std.proofs.lemmas.List.Elements.{All-more}
use Rattle.sync_hash.specs.FitsFields.{ActivityFits}
use Rattle.sync_hash.specs.HashedBytes.{activity_bytes}
use Rattle.game_save.proofs.WritingLemmas.{all_hold, place_written}
use Rattle.game_save.proofs.actor_writing.append_acts.Goals as goal

pub loop-activity-preserved : goal.loop-activity-preserved
loop-activity-preserved c = (
  place_written activity_bytes _ c.loop-activity.out.items _ c.as_slice-activity-items.result.now
      c.loop-activity.activity-index _ c.loop-activity-test.true c.loop-activity.invariant.0
      c.in_ok-append_activity.ensures.bytes,
  All-more ActivityFits c.as_slice-activity-items.result.now c.loop-activity.activity-index _
      c.loop-activity-test.true c.loop-activity.invariant.1 c.in_ok-append_activity.ensures.fits,
)

pub returns-clause-fits : goal.returns-clause-fits
returns-clause-fits c =
    subst (All ActivityFits) c.as_slice-activity-items.ensures.value
    (all_hold ActivityFits c.as_slice-activity-items.result.now c.loop-activity.activity-index
    (omega (arith, c.loop-activity-test.false)) c.loop-activity.invariant.1)
