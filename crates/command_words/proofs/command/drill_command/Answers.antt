use Rattle.command_words.specs.Commands.{drill_app}
use Rattle.command_words.proofs.command.drill_command.Goals as goal

pub returns : goal.returns
unfolding drill_app
returns c =
    c.with_arg.ensures _ _
    (c.with_arg-command.ensures _ _ c.played_command.ensures c.option_named.ensures.rule c.option_named.ensures.local)
    c.file_names.ensures.rule c.file_names.ensures.local
