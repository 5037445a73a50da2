-- What objects hold, by kind.
use Rattle.std.specs.Prelude.{ℕ, Option, None, Some, Result, Err}
use Rattle.tick_core.specs.Game.{GameState}
use Rattle.setup_files.specs.declared.making.Made.{Made}
use Rattle.c_objects.specs.declared.code.TheConstants.{WRONG_OBJECT}
use Rattle.c_objects.specs.declared.kept.Kept.{Kept}
use Rattle.c_objects.specs.declared.kept.Kept.TheVariants.{Setup, World, Peer, Server}

-- The game of a world, a peer or a server.
abbrev pub game_in : Option Kept → Option GameState
game_in None = None
game_in (Some (Setup stage)) = None
game_in (Some (World game)) = Some game
game_in (Some (Peer peer)) = Some peer.world
game_in (Some (Server server)) = Some server.world

-- What the files of a setup make, where they were read.
abbrev pub made_in : Option Kept → Option Made
made_in None = None
made_in (Some (Setup stage)) = stage.made
made_in (Some (World game)) = None
made_in (Some (Peer peer)) = None
made_in (Some (Server server)) = None

-- What is told of what is held, a value or a code; without it the object is a wrong one.
abbrev pub told_of : {H A : Type 0} → Option H → (H → Result A ℕ) → Result A ℕ
told_of None tell = Err WRONG_OBJECT
told_of (Some held) tell = tell held
