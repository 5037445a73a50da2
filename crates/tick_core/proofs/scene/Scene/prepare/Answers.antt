use Rattle.tick_core.proofs.BusyLemmas.{prepared_whole}
use Rattle.tick_core.proofs.scene.Scene.prepare.Goals as goal

pub returns : goal.returns
returns c =
    prepared_whole c.args.self.now c.reload_if.new.self c.build_if.new.self c.args.id c.parts_at-parts.result.reloads c.parts_at-parts.result.builds
    c.reload_if.ensures c.build_if.ensures c.recall_invariant.ensures.acting.actors.ready.rise
    c.parts_at-parts.ensures.lives c.parts_at-parts.ensures.reloads c.parts_at-parts.ensures.builds
