-- What is kept of the cells of each client.
use Rattle.std.specs.Prelude.{◌≡◌, ℕ, ◌+◌, ◌-◌, ◌*◌, ◌/◌, ◌%◌, ◌^◌, ◌<◌, ◌==◌, ◌&&◌, nat_lt, nat_le}
use Rattle.std.specs.Prelude.{Bool, true, false, Option, Some, None, List, length, slice_index_or}
use Rattle.world_units.specs.declared.cell.CPos.{CPos}
use Rattle.shroud.specs.declared.disc.Disc.{Disc}
use Rattle.shroud.specs.declared.spot.Spot.{Spot}
use Rattle.shroud.specs.Discs.{covers}

-- The cells of all clients, client by client, and row by row.
pub record SpotState : Type 0 where
  pub width : ℕ
  pub height : ℕ
  pub clients : ℕ
  pub cells : List Spot

-- A cell that nobody sees, nor saw.
abbrev pub dark : Spot
dark = record { count = 0; explored = false }

-- The spot at a place.
abbrev pub spot_at : List Spot → ℕ → Spot
spot_at spots place = slice_index_or spots place dark

-- The row of all clients' rows in which a client's row is.
abbrev pub row_of : (height client y : ℕ) → ℕ
row_of height client y = client * height + y

-- The place of a client's cell.
abbrev pub place_in : (width height client : ℕ) → CPos → ℕ
place_in width height client p = row_of height client p.y * width + p.x

-- The client, the row and the column of a place.
abbrev pub client_at : (width height place : ℕ) → ℕ
client_at width height place = place / width / height

abbrev pub cell_in : (width height place : ℕ) → CPos
cell_in width height place =
    record { x = place % width; y = (place / width) % height }

-- The number of a spot's viewers changes by as many, modulo 2^16, and the spot is explored.
abbrev pub changed : Bool → (by : ℕ) → Spot → Spot
changed true by s = record { count = (s.count + by) % 2 ^ 16; explored = true }
changed false by s = s

-- The spots at these places, and no others, are changed.
pub record AreChanged (by : ℕ) (at : ℕ → Bool) (old new : List Spot) : Type 0 where
  pub size : length new ≡ length old
  pub each :
      (place : ℕ) → place < length old →
      spot_at new place ≡ changed (at place) by (spot_at old place)

-- The places of a client's cells in a disc.
abbrev pub in_disc : (width height client : ℕ) → Disc → (place : ℕ) → Bool
in_disc width height client disc place =
    (client == client_at width height place)
    && covers disc (cell_in width height place).x (cell_in width height place).y

-- Those of the first cells of a row that begins at this place.
abbrev pub in_row : (start width y : ℕ) → Disc → (place : ℕ) → Bool
in_row start width y disc place =
    nat_le start place && (nat_lt place (start + width) && covers disc (place - start) y)

-- Those of the first rows of the client.
abbrev pub in_rows : (width height client rows : ℕ) → Disc → (place : ℕ) → Bool
in_rows width height client rows disc place =
    (client == client_at width height place)
    && (nat_lt (cell_in width height place).y rows
    && covers disc (cell_in width height place).x (cell_in width height place).y)

-- The places of what an actor sees, by its disc, if it sees any.
abbrev pub in_case : (own : Bool) → Option Disc → CPos → Bool
in_case own None p = false
in_case own (Some disc) p = own && covers disc p.x p.y
