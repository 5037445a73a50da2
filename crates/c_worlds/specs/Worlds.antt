-- What the calls of a world answer, of what the objects hold.
use Rattle.std.specs.Prelude.{ℕ, nat_lt, ◌&&◌, Bool, if◌then◌else◌, List, [], ◌∷◌}
use Rattle.std.specs.Prelude.{Option, None, Some, Result, Ok, Err}
use Rattle.game_orders.specs.declared.entry.Entry.{Entry}
use Rattle.frame_core.specs.declared.sim.TheConstants.{MAX_STEPS}
use Rattle.replay_file.specs.declared.limits.TheConstants.{GREATEST_TAG}
use Rattle.replay_file.specs.PartReading.{PartRead, entries_after}
use Rattle.tick_core.specs.Game.{GameState, game_start, game_after}
use Rattle.setup_files.specs.declared.making.Made.{Made}
use Rattle.c_objects.specs.declared.code.TheConstants.{OK, FULL, BAD_BYTES, BAD_ARGUMENT}
use Rattle.c_objects.specs.declared.code.TheConstants.{WRONG_OBJECT}
use Rattle.c_objects.specs.declared.kept.Kept.{Kept}
use Rattle.c_objects.specs.declared.kept.Kept.TheVariants.{Setup, World, Peer, Server}
use Rattle.c_worlds.specs.Held.{made_in}

-- ---- making one

abbrev pub are_clients : ℕ → Bool
are_clients clients = nat_lt 0 clients && nat_lt clients 17

abbrev pub code_with : Option Made → ℕ → ℕ
code_with None clients = WRONG_OBJECT
code_with (Some made) clients = if are_clients clients then OK else BAD_ARGUMENT

abbrev pub create_code : (world setup : Option Kept) → ℕ → ℕ
create_code None setup clients = code_with (made_in setup) clients
create_code (Some kept) setup clients = WRONG_OBJECT

abbrev pub made_with : Option Made → (seed clients : ℕ) → Option Kept
made_with None seed clients = None
made_with (Some made) seed clients =
    if are_clients clients then Some (World (game_start made.maker seed clients)) else None

abbrev pub created : (world setup : Option Kept) → (seed clients : ℕ) → Option Kept
created None setup seed clients = made_with (made_in setup) seed clients
created (Some kept) setup seed clients = Some kept

-- ---- stepping it

-- The entries, where nothing follows them.
unfoldable pub whole : PartRead (List Entry) → Option (List Entry)
whole (Ok (entries, [])) = Some entries
whole (Ok (entries, byte ∷ bytes)) = None
whole (Err fault) = None

-- The frame that the bytes spell, an entry of each client.
abbrev pub frame_at : (gone : List Bool) → (bytes : List ℕ) → Option (List Entry)
frame_at gone bytes = whole (entries_after GREATEST_TAG [] gone bytes)

abbrev pub frame_code : Option (List Entry) → ℕ
frame_code None = BAD_BYTES
frame_code (Some frame) = OK

abbrev pub game_by : GameState → Option (List Entry) → GameState
game_by game None = game
game_by game (Some frame) = game_after game frame

abbrev pub game_code : GameState → (bytes : List ℕ) → ℕ
game_code game bytes =
    if nat_lt game.steps MAX_STEPS then frame_code (frame_at game.world.gone bytes) else FULL

abbrev pub game_stepped : GameState → (bytes : List ℕ) → GameState
game_stepped game bytes =
    if nat_lt game.steps MAX_STEPS then game_by game (frame_at game.world.gone bytes) else game

abbrev pub step_code : Option Kept → (bytes : List ℕ) → ℕ
step_code None bytes = WRONG_OBJECT
step_code (Some (Setup stage)) bytes = WRONG_OBJECT
step_code (Some (World game)) bytes = game_code game bytes
step_code (Some (Peer peer)) bytes = WRONG_OBJECT
step_code (Some (Server server)) bytes = WRONG_OBJECT

abbrev pub stepped : Option Kept → (bytes : List ℕ) → Option Kept
stepped None bytes = None
stepped (Some (Setup stage)) bytes = Some (Setup stage)
stepped (Some (World game)) bytes = Some (World (game_stepped game bytes))
stepped (Some (Peer peer)) bytes = Some (Peer peer)
stepped (Some (Server server)) bytes = Some (Server server)

-- ---- reading it

-- The ore of each cell, row by row.
abbrev pub ore_told : GameState → Result (List ℕ) ℕ
ore_told game = Ok game.world.ore.cells
