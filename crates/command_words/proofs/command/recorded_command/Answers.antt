use Rattle.command_words.specs.Commands.{recorded_app}
use Rattle.command_words.proofs.command.recorded_command.Goals as goal

pub returns : goal.returns
unfolding recorded_app
returns c =
    c.with_arg.ensures _ _
    (c.with_arg-command.ensures _ _ c.bound_command.ensures c.option_named.ensures.rule c.option_named.ensures.local)
    c.option_named-2.ensures.rule c.option_named-2.ensures.local
