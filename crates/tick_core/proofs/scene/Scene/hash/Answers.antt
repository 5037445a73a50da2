use Rattle.std.proofs.Common.{◌∙◌, ap, refl, sym, subst}
use Rattle.game_model.specs.World.{world_with}
use Rattle.sync_hash.specs.Kept.{IsKeptOf}
use Rattle.sync_hash.specs.WorldHash.{hash_of}
use Rattle.tick_core.specs.Live.{Standing}
use Rattle.tick_core.proofs.scene.Scene.hash.Goals as goal

pub returns : goal.returns
returns c =
    let s = c.self.inside in
    let kept = subst (λ (x : Standing). IsKeptOf c.args.hasher.now x.world.actors x.world.ore) (sym c.self.view_is) c.requires in
    c.hash.ensures.world (world_with s.head s.table.actors s.ore) kept refl
    ∙ ap (λ (x : Standing). hash_of x.world) c.self.view_is
