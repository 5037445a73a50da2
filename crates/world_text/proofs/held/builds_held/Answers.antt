use Rattle.std.proofs.lemmas.List.Elements.{All-more}
use Rattle.world_text.specs.Numbers.{IsBuildHeld}
use Rattle.world_text.proofs.held.builds_held.Goals as goal

pub loop-build-preserved : goal.loop-build-preserved
loop-build-preserved c =
    All-more IsBuildHeld c.args.builds.now c.loop-build.build-index _ c.loop-build-test.true
    c.loop-build.invariant c.build_held.ensures
