use Rattle.std.proofs.Common.{rules}
use Rattle.worlds_command.specs.Worlds.{game_lines}
use Rattle.worlds_command.proofs.ChosenLemmas.{not_chosen}
use Rattle.worlds_command.proofs.frames.print_if_chosen.Goals as goal

pub returns-else-is_chosen-clause-prints : goal.returns-else-is_chosen-clause-prints
returns-else-is_chosen-clause-prints g c =
    not_chosen _ (λ n. game_lines n c.args.game.now) c.args.chosen.now c.args.n (search rules)
