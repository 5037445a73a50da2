use Rattle.command_words.specs.Commands.{ends_app}
use Rattle.command_words.proofs.command.route_with_cells.Goals as goal

pub returns : goal.returns
unfolding ends_app
returns c =
    c.with_arg.ensures _ _
    (c.with_arg-command.ensures _ _ c.routed_command.ensures c.required_option.ensures.rule c.required_option.ensures.local)
    c.required_option-2.ensures.rule c.required_option-2.ensures.local
