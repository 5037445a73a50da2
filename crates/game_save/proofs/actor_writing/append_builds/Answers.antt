use Rattle.std.proofs.Common.{subst, arith}
use Rattle.std.specs.List.{All}
use Rattle.std.proofs.lemmas.List.Elements.{All-more}
use Rattle.sync_hash.specs.FitsFields.{BuildFits}
use Rattle.sync_hash.specs.HashedBytes.{build_bytes}
use Rattle.game_save.proofs.WritingLemmas.{all_hold, place_written}
use Rattle.game_save.proofs.actor_writing.append_builds.Goals as goal

pub loop-build-preserved : goal.loop-build-preserved
loop-build-preserved c = (
  place_written build_bytes _ c.loop-build.out.items _ c.as_slice-build-items.result.now
      c.loop-build.build-index _ c.loop-build-test.true c.loop-build.invariant.0
      c.in_ok-append_build.ensures.bytes,
  All-more BuildFits c.as_slice-build-items.result.now c.loop-build.build-index _
      c.loop-build-test.true c.loop-build.invariant.1 c.in_ok-append_build.ensures.fits,
)

pub returns-clause-fits : goal.returns-clause-fits
returns-clause-fits c =
    subst (All BuildFits) c.as_slice-build-items.ensures
    (all_hold BuildFits c.as_slice-build-items.result.now c.loop-build.build-index
    (omega (arith, c.loop-build-test.false)) c.loop-build.invariant.1)
