use Rattle.command_words.specs.Commands.{worlds_app}
use Rattle.command_words.proofs.command.worlds_command.Goals as goal

pub returns : goal.returns
unfolding worlds_app
returns c =
    c.with_arg.ensures _ _
    (c.with_arg-command.ensures _ _ c.ranged_command.ensures c.number_option.ensures.rule c.number_option.ensures.local)
    c.file_names.ensures.rule c.file_names.ensures.local
