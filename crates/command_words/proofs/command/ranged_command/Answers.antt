use Rattle.command_words.specs.Commands.{ranged_app}
use Rattle.command_words.proofs.command.ranged_command.Goals as goal

pub returns : goal.returns
unfolding ranged_app
returns c =
    c.with_arg.ensures _ _
    (c.with_arg-command.ensures _ _ c.played_command.ensures c.number_option.ensures.rule c.number_option.ensures.local)
    c.number_option-2.ensures.rule c.number_option-2.ensures.local
