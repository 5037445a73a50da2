use Rattle.std.specs.Prelude.{◌≡◌, IfOk, Result, Ok, Err}
use Rattle.clap.specs.Simple.{App, app_of}
use Rattle.clap.specs.declared.builder.command.Command.{Command}
use Rattle.command_words.specs.Follows.{Follows}
use Rattle.command_words.specs.Commands.{lockstep_app}
use Rattle.command_words.proofs.command.lockstep_command.Goals as goal

-- A command that follows a definition is read as that.
app_followed : {E : Type 0} (app : App) (made : Result Command E) → IfOk made (Follows app) → IfOk made (λ command. app_of command ≡ app)
app_followed app (Ok command) follows = follows.app
app_followed app (Err error) follows = tt

pub returns : goal.returns
unfolding lockstep_app
returns c =
    app_followed _ _ (c.with_command.ensures _ _ (c.with_command-command.ensures _ _ c.showing_commands.ensures c.compare_command.ensures)
    c.datagrams_command.ensures)
