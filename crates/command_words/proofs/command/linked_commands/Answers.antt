use Rattle.command_words.specs.Commands.{linked_app}
use Rattle.command_words.proofs.command.linked_commands.Goals as goal

pub returns : goal.returns
unfolding linked_app
returns c =
    c.with_command.ensures _ _ (c.with_command-command.ensures _ _ c.playing_commands.ensures c.serve_command.ensures)
    c.play_command.ensures
