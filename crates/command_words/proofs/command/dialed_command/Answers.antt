use Rattle.std.specs.Prelude.{codes}
use Rattle.clap.specs.Simple.{new_app}
use Rattle.command_words.specs.Commands.{dialed_app}
use Rattle.command_words.proofs.command.dialed_command.Goals as goal

pub returns : goal.returns
unfolding dialed_app
returns c =
    c.with_arg.ensures _ _
    (c.with_arg-command.ensures (new_app (codes "play")) _ (record { app = c.new.ensures.app; local = c.new.ensures.local })
    c.required_option.ensures.rule c.required_option.ensures.local)
    c.option_named.ensures.rule c.option_named.ensures.local
