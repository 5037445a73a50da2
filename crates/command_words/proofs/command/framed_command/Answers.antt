use Rattle.command_words.specs.Commands.{framed_app}
use Rattle.command_words.proofs.command.framed_command.Goals as goal

pub returns : goal.returns
unfolding framed_app
returns c =
    c.with_arg.ensures _ _ c.played_command.ensures c.required_number.ensures.rule c.required_number.ensures.local
