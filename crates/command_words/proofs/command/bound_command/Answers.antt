use Rattle.command_words.specs.Commands.{bound_app}
use Rattle.command_words.proofs.command.bound_command.Goals as goal

pub returns : goal.returns
unfolding bound_app
returns c =
    c.with_arg.ensures _ _
    (c.with_arg-command.ensures _ _ c.clocked_command.ensures c.flag_named.ensures.rule c.flag_named.ensures.local)
    c.option_named.ensures.rule c.option_named.ensures.local
