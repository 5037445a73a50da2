-- A command of the code is the one that a definition describes.
use Rattle.std.specs.Prelude.{◌≡◌, false}
use Rattle.clap.specs.Simple.{App, app_of}
use Rattle.clap.specs.declared.builder.command.Command.{Command}
use Rattle.clap.specs.declared.builder.command.Command.TheViews.{out-Command}

-- What a parse reads of the command is the definition, and no argument of it reaches into other
-- commands.
pub record Follows (described : App) (command : Command) : Type 0 where
  pub app : app_of command ≡ described
  pub local : (out-Command command).has_globals ≡ false
