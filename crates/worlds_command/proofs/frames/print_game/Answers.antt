use Rattle.worlds_command.proofs.LineLemmas.{prints_two}
use Rattle.worlds_command.proofs.frames.print_game.Goals as goal

pub returns : goal.returns
returns g c =
    prints_two _ _ _ _ _ (rw c.hash.ensures at c.print_frames.ensures) c.print_world.ensures
