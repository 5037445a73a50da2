use Rattle.command_words.specs.Commands.{replay_app}
use Rattle.command_words.proofs.command.replay_command.Goals as goal

pub returns : goal.returns
unfolding replay_app
returns c =
    c.with_arg.ensures _ _ c.played_command.ensures c.file_names.ensures.rule c.file_names.ensures.local
