use Rattle.command_words.specs.Commands.{serve_app}
use Rattle.command_words.proofs.command.serve_command.Goals as goal

pub returns : goal.returns
unfolding serve_app
returns c =
    c.with_arg.ensures _ _ c.recorded_command.ensures c.file_names.ensures.rule c.file_names.ensures.local
