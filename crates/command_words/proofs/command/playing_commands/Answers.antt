use Rattle.command_words.specs.Commands.{playing_app}
use Rattle.command_words.proofs.command.playing_commands.Goals as goal

pub returns : goal.returns
unfolding playing_app
returns c =
    c.with_command.ensures _ _ (c.with_command-command.ensures _ _ c.asking_commands.ensures c.make_command.ensures)
    c.local_command.ensures
