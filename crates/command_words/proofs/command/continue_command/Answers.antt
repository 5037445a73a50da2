use Rattle.command_words.specs.Commands.{continue_app}
use Rattle.command_words.proofs.command.continue_command.Goals as goal

pub returns : goal.returns
unfolding continue_app
returns c =
    c.with_arg.ensures _ _
    (c.with_arg-command.ensures _ _ c.played_command.ensures c.required_option.ensures.rule c.required_option.ensures.local)
    c.file_names.ensures.rule c.file_names.ensures.local
