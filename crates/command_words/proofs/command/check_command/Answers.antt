use Rattle.std.specs.Prelude.{codes}
use Rattle.clap.specs.Simple.{new_app}
use Rattle.command_words.specs.Commands.{check_app}
use Rattle.command_words.proofs.command.check_command.Goals as goal

pub returns : goal.returns
unfolding check_app
returns c =
    c.with_arg.ensures _ _
    (c.with_arg-command.ensures (new_app (codes "check")) _ (record { app = c.new.ensures.app; local = c.new.ensures.local })
    c.option_named.ensures.rule c.option_named.ensures.local)
    c.file_names.ensures.rule c.file_names.ensures.local
