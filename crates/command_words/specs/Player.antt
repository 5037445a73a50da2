-- Who plays over a link, as plain data.
use Rattle.std.specs.Prelude.{ℕ, List}
use Rattle.command_words.specs.declared.player.Player.{Player}
use Rattle.command_words.specs.declared.player.Player.TheVariants as player

-- The script of a file, or a bot, which plays so many frames.
pub data PlayerPlain : Type 0 where
  Script : (file : List ℕ) → PlayerPlain
  Bot : (frames : ℕ) → PlayerPlain

abbrev pub plain_player : Player → PlayerPlain
plain_player (player.Script file) = Script file.now
plain_player (player.Bot frames) = Bot frames
