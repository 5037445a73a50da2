-- The ground of a setup's map, as C reads it.
use Rattle.std.specs.Prelude.{ℕ, List, map, Result, Ok}
use Rattle.game_model.specs.Terrain.{number_of}
use Rattle.setup_files.specs.declared.making.Made.{Made}

-- The number of each cell's terrain, row by row.
abbrev pub terrain_told : Made → Result (List ℕ) ℕ
terrain_told made = Ok (map number_of made.maker.map.terrain.cells)

abbrev pub width_told : Made → Result ℕ ℕ
width_told made = Ok made.maker.map.width
