use Rattle.command_words.specs.Commands.{view_app}
use Rattle.command_words.proofs.command.view_command.Goals as goal

pub returns : goal.returns
unfolding view_app
returns c =
    c.with_arg.ensures _ _
    (c.with_arg-command.ensures _ _ c.played_command.ensures c.required_number.ensures.rule c.required_number.ensures.local)
    c.file_names.ensures.rule c.file_names.ensures.local
