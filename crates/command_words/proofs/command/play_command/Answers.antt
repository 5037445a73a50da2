use Rattle.command_words.specs.Commands.{play_app}
use Rattle.command_words.proofs.command.play_command.Goals as goal

pub returns : goal.returns
unfolding play_app
returns c =
    c.with_arg.ensures _ _ c.quiet_command.ensures c.file_names.ensures.rule c.file_names.ensures.local
