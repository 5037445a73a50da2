use Rattle.command_words.specs.Commands.{clocked_app}
use Rattle.command_words.proofs.command.clocked_command.Goals as goal

pub returns : goal.returns
unfolding clocked_app
returns c =
    c.with_arg.ensures _ _
    (c.with_arg-command.ensures _ _ c.serve_with_numbers.ensures c.number_option.ensures.rule c.number_option.ensures.local)
    c.number_option-2.ensures.rule c.number_option-2.ensures.local
