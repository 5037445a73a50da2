use Rattle.command_words.specs.Commands.{replaying_app}
use Rattle.command_words.proofs.command.replaying_commands.Goals as goal

pub returns : goal.returns
unfolding replaying_app
returns c =
    c.with_command.ensures _ _ (c.with_command-command.ensures _ _ c.linked_commands.ensures c.replay_command.ensures)
    c.migrate_command.ensures
