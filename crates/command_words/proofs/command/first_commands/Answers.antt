use Rattle.command_words.specs.Commands.{first_app}
use Rattle.command_words.proofs.command.first_commands.Goals as goal

pub returns : goal.returns
unfolding first_app
returns c =
    c.with_command.ensures _ _ (c.with_command-command.ensures _ _ c.bare_command.ensures c.drill_command.ensures)
    c.yaml_command.ensures
