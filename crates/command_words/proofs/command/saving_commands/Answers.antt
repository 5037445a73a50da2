use Rattle.command_words.specs.Commands.{saving_app}
use Rattle.command_words.proofs.command.saving_commands.Goals as goal

pub returns : goal.returns
unfolding saving_app
returns c =
    c.with_command.ensures _ _ (c.with_command-command.ensures _ _ c.replaying_commands.ensures c.save_command.ensures)
    c.continue_command.ensures
