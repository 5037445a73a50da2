use Rattle.command_words.specs.Commands.{showing_app}
use Rattle.command_words.proofs.command.showing_commands.Goals as goal

pub returns : goal.returns
unfolding showing_app
returns c =
    c.with_command.ensures _ _ (c.with_command-command.ensures _ _ c.saving_commands.ensures c.view_command.ensures)
    c.worlds_command.ensures
