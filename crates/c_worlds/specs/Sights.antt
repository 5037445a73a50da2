-- What a client sees now, as C reads it.
use Rattle.std.specs.Prelude.{ℕ, nat_lt, if◌then◌else◌, List, map, Result, Ok, Err}
use Rattle.game_orders.specs.Order.{flag_number}
use Rattle.shroud.specs.Grids.{flag_of, grid_of}
use Rattle.shroud.specs.ShroudState.{ShroudState}
use Rattle.shroud.specs.Sights.{is_seen}
use Rattle.tick_core.specs.Game.{GameState, game_clients}
use Rattle.c_objects.specs.declared.code.TheConstants.{BAD_ARGUMENT}

-- Row by row 1 for each cell that the client sees by the actors as they are, 0 for each other.
abbrev pub sight_of : (client : ℕ) → GameState → List ℕ
sight_of client game =
    map flag_number (grid_of game.setup.map.width game.setup.map.height
    (is_seen game.setup.rules game.world.actors client)).cells

abbrev pub seen_told : (client : ℕ) → GameState → Result (List ℕ) ℕ
seen_told client game =
    if nat_lt client (game_clients game) then Ok (sight_of client game) else Err BAD_ARGUMENT

-- How many columns the map has.
abbrev pub columns_told : (client : ℕ) → GameState → Result ℕ ℕ
columns_told client game =
    if nat_lt client (game_clients game) then Ok game.setup.map.width else Err BAD_ARGUMENT

-- The same bytes of what a shroud shows.
abbrev pub flags_of : (client : ℕ) → ShroudState → List ℕ
flags_of client s = map flag_number (grid_of s.width s.height (flag_of s.seen client)).cells
