use Rattle.world_text.proofs.WorldLemmas.{world_printed}
use Rattle.world_text.proofs.worlds.print_world.Goals as goal

pub returns : goal.returns
returns g c =
    world_printed c.args.game.now.world c.head.result.now _ _ _ _ _ c.head.ensures.value
    c.print_head.ensures c.print_actors.ensures
    (rw c.ore.ensures at c.print_ore.ensures) c.print_end.ensures
