use Rattle.command_words.specs.Commands.{manned_app}
use Rattle.command_words.proofs.command.manned_command.Goals as goal

pub returns : goal.returns
unfolding manned_app
returns c =
    c.with_arg.ensures _ _
    (c.with_arg-command.ensures _ _ c.dialed_command.ensures c.flag_named.ensures.rule c.flag_named.ensures.local)
    c.number_option.ensures.rule c.number_option.ensures.local
