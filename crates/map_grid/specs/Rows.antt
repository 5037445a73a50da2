-- The terrain and the ore of a map, row by row.
use Rattle.std.specs.Prelude.{ℕ, ◌+◌, ◌-◌, ◌*◌, ◌==◌, nat_lt, nat_le, Bool, false}
use Rattle.std.specs.Prelude.{◌&&◌, List, [], ◌∷◌, length, replicate, if◌then◌else◌}
use Rattle.std.specs.Prelude.{Option, Some, None, Result, Ok, Err, codes}
use Rattle.std.specs.Str.{chars}
use Rattle.base.specs.Numbers.{number_of}
use Rattle.base.specs.Steps.{◌>>=◌}
use Rattle.yaml_lines.specs.declared.place.Place.{Place}
use Rattle.yaml_lines.specs.Trees.{Trees}
use Rattle.game_model.specs.Grid.{Grid, with_cell}
use Rattle.game_model.specs.declared.terrain.Terrain.{Terrain}
use Rattle.game_model.specs.declared.terrain.Terrain.TheVariants.{Clear, Road, Rough, Water, Rock}
use Rattle.map_grid.specs.declared.fault.MapFault.{MapFault}
use Rattle.map_grid.specs.declared.fault.MapFault.TheVariants.{BadRow, UnknownTerrain}
use Rattle.map_grid.specs.Each.{each}
use Rattle.map_grid.specs.Fields.{field, below}

-- The terrain of a character: `.` (46), `=` (61), `r` (114), `~` (126) and `X` (88).
abbrev pub terrain_of : ℕ → Option Terrain
terrain_of c =
    if c == 46 then Some Clear
    else if c == 61 then Some Road
    else if c == 114 then Some Rough
    else if c == 126 then Some Water
    else if c == 88 then Some Rock
    else None

-- The ore of a character: `.` (46) is none, and a digit (48 to 57) ten times its value.
abbrev pub ore_of : ℕ → Option ℕ
ore_of c =
    if c == 46 then Some 0
    else if nat_le 48 c && nat_le c 57 then Some (10 * (c - 48))
    else None

-- Digits with a leading zero (48), which is one with a byte after it.
abbrev pub has_leading_zero : List ℕ → Bool
has_leading_zero [] = false
has_leading_zero (first ∷ rest) = (first == 48) && nat_lt 0 (length rest)

abbrev pub below_height : ℕ → Place → Option ℕ → Result ℕ MapFault
below_height height place None = Err (BadRow place)
below_height height place (Some y) = if nat_lt y height then Ok y else Err (BadRow place)

-- The row that a key names: a number below the height, without leading zeros.
unfoldable pub row_of : ℕ → List ℕ → Place → Result ℕ MapFault
row_of height key place =
    if has_leading_zero key then Err (BadRow place)
    else below_height height place (number_of key)

abbrev pub cell_set :
    {T : Type 0} → MapFault → ℕ → ℕ → Grid T → Option T → Result (Grid T) MapFault
cell_set fault x y grid None = Err fault
cell_set fault x y grid (Some value) = Ok (with_cell grid (record { x = x; y = y }) value)

-- The cells of row y from column x on, each set to what its character says. A character that says
-- nothing is this fault.
abbrev pub cells_set :
    {T : Type 0} → (ℕ → Option T) → MapFault → (x y : ℕ) → List ℕ → Grid T →
    Result (Grid T) MapFault
cells_set value_of fault x y [] grid = Ok grid
cells_set value_of fault x y (c ∷ rest) grid =
    cell_set fault x y grid (value_of c) >>= λ next. cells_set value_of fault (x + 1) y rest next

-- A row with a character for each column.
abbrev pub full_row :
    {T : Type 0} → (ℕ → Option T) → (fault : MapFault) → Place → (y : ℕ) → List ℕ → Grid T →
    Result (Grid T) MapFault
full_row value_of fault place y row grid =
    if length row == grid.width then cells_set value_of fault 0 y row grid
    else Err (BadRow place)

-- The row of terrain that a node gives: a bad row comes before an unknown terrain.
unfoldable pub tiles_taken :
    Grid Terrain → (key value : List ℕ) → Place → Trees → Result (Grid Terrain) MapFault
tiles_taken grid key value place children =
    row_of grid.height key place >>= λ y.
    full_row terrain_of (UnknownTerrain place) place y (chars value) grid

-- The row of ore that a node gives.
unfoldable pub ore_taken : Grid ℕ → (key value : List ℕ) → Place → Trees → Result (Grid ℕ) MapFault
ore_taken grid key value place children =
    row_of grid.height key place >>= λ y.
    full_row ore_of (BadRow place) place y (chars value) grid

-- A grid of one value.
abbrev pub plain_grid : {T : Type 0} → (width height : ℕ) → T → Grid T
plain_grid width height value =
    record { width = width; height = height; cells = replicate (width * height) value }

-- The terrain of a map: its field `Tiles`. A row that isn't given is clear.
unfoldable pub tiles_of : (width height : ℕ) → Trees → Result (Grid Terrain) MapFault
tiles_of width height top =
    each tiles_taken (plain_grid width height Clear) (below (field (codes "Tiles") top))

-- The ore of a map: its field `Ore`. A row that isn't given has none.
unfoldable pub ore_grid : (width height : ℕ) → Trees → Result (Grid ℕ) MapFault
ore_grid width height top =
    each ore_taken (plain_grid width height 0) (below (field (codes "Ore") top))
