-- What a call tells that looks for a route.
use Rattle.std.specs.Prelude.{◌≡◌, ℕ, nat_lt, ◌==◌, ◌&&◌, Bool, if◌then◌else◌, List, length, map}
use Rattle.std.specs.Prelude.{Option, None, Some}
use Rattle.world_units.specs.declared.cell.CPos.{CPos}
use Rattle.game_model.specs.declared.map.Map.{Map}
use Rattle.grid_routes.specs.declared.route.Route.{Route}
use Rattle.tick_core.specs.Game.{GameState}
use Rattle.tick_core.specs.Preview.{IsPreview}
use Rattle.c_objects.specs.declared.code.TheConstants.{NONE, BAD_ARGUMENT, WRONG_OBJECT}
use Rattle.c_worlds.specs.declared.routes.CCell.{CCell}
use Rattle.c_worlds.specs.declared.routes.CRoute.{CRoute}
use Rattle.c_worlds.specs.declared.routes.RouteAsk.{RouteAsk}
use Rattle.c_worlds.specs.Told.{room_code, written}

-- ---- what is asked for

abbrev pub cell_of : (x y : ℕ) → CPos
cell_of x y = record { x = x; y = y }

-- There is a terrain for each cell of the map, as for those of all matches.
abbrev pub has_ground : Map → Bool
has_ground map = (map.terrain.width == map.width) && (map.terrain.height == map.height)

-- The cell, if it is on the map.
abbrev pub cell_in : Map → (x y : ℕ) → Option CPos
cell_in map x y =
    if nat_lt x map.width then (if nat_lt y map.height then Some (cell_of x y) else None)
    else None

abbrev pub asked_by : (kind : ℕ) → (from goal : Option CPos) → Option RouteAsk
asked_by kind None goal = None
asked_by kind (Some from) None = None
asked_by kind (Some from) (Some goal) = Some (record { kind = kind; from = from; goal = goal })

-- The rules have the kind, and both cells are on the map.
abbrev pub asked : GameState → (kind x y to_x to_y : ℕ) → Option RouteAsk
asked game kind x y to_x to_y =
    if nat_lt kind (length game.setup.rules)
    then (if has_ground game.setup.map
    then asked_by kind (cell_in game.setup.map x y) (cell_in game.setup.map to_x to_y)
    else None)
    else None

-- ---- what is told

abbrev pub c_cell_of : CPos → CCell
c_cell_of cell = record { x = cell.x; y = cell.y }

abbrev pub c_route_of : Route → CRoute
c_route_of route = record { cost = route.cost; count = length route.cells }

-- The code, and what stands in the array and in the route afterwards.
pub record RouteOut : Type 0 where
  pub code : ℕ
  pub cells : List CCell
  pub route : CRoute

abbrev pub outs : (code : ℕ) → List CCell → CRoute → RouteOut
outs code cells route = record { code = code; cells = cells; route = route }

-- The route and as many cells as it has, where they have room; else the route alone.
abbrev pub told_by : Option Route → List CCell → CRoute → RouteOut
told_by None cells route = outs NONE cells route
told_by (Some found) cells route =
    outs (room_code (length cells) (length found.cells)) (written (map c_cell_of found.cells) cells)
    (c_route_of found)

-- It is the way that an actor of the kind would begin: of least cost over the terrain and the
-- buildings as they stand, by the best direction at each cell.
pub record TellsWay (game : GameState) (ask : RouteAsk) (cells : List CCell) (route : CRoute)
    (out : RouteOut) : Type 0 where
  pub found : Option Route
  pub way : IsPreview game.setup game.world ask.kind ask.from ask.goal found
  pub told : out ≡ told_by found cells route

abbrev pub TellsAsked :
    GameState → Option RouteAsk → List CCell → CRoute → RouteOut → Type 0
TellsAsked game None cells route out = out ≡ outs BAD_ARGUMENT cells route
TellsAsked game (Some ask) cells route out = TellsWay game ask cells route out

abbrev pub TellsRoute :
    Option GameState → (kind x y to_x to_y : ℕ) → List CCell → CRoute → RouteOut → Type 0
TellsRoute None kind x y to_x to_y cells route out = out ≡ outs WRONG_OBJECT cells route
TellsRoute (Some game) kind x y to_x to_y cells route out =
    TellsAsked game (asked game kind x y to_x to_y) cells route out
