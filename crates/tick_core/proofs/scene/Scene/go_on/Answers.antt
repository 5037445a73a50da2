use Rattle.std.proofs.Common.{◌≡◌, Some, sym, subst}
use Rattle.std.specs.Prelude.{slice_get}
use Rattle.game_model.specs.World.{ids_of}
use Rattle.tick_core.specs.Live.{Standing}
use Rattle.tick_core.proofs.scene.Scene.go_on.Goals as goal

pub living_at-requires : goal.living_at-requires
living_at-requires c =
    subst (λ (s : Standing). slice_get (ids_of s.world.actors) c.args.i ≡ Some c.args.id) (sym c.self.view_is) c.requires.at
