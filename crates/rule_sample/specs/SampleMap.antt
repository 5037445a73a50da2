-- The sample map as a value, over the sample rules: its kinds are 0 jeep, 1 harv, 2 fact, 3 proc.
use Rattle.std.specs.Prelude.{ℕ, List, [], ◌∷◌, ◌++◌, replicate}
use Rattle.game_model.specs.Grid.{Grid}
use Rattle.game_model.specs.declared.map.Map.{Map}
use Rattle.game_model.specs.declared.map.Start.{Start}
use Rattle.game_model.specs.declared.terrain.Terrain.{Terrain}
use Rattle.game_model.specs.declared.terrain.Terrain.TheVariants.{Clear, Rock}

-- A row with two walls of rock.
abbrev pub walled_row : List Terrain
walled_row =
    replicate 3 Clear ++ (replicate 2 Rock
    ++ (replicate 6 Clear ++ (replicate 2 Rock ++ replicate 3 Clear)))

-- The walls stand in the two rows in the middle, and all other ground is clear.
abbrev pub sample_terrain : Grid Terrain
sample_terrain =
    record {
      width = 16;
      height = 16;
      cells = replicate 112 Clear ++ (walled_row ++ (walled_row ++ replicate 112 Clear));
    }

-- A row with four cells of ore.
abbrev pub ore_row : List ℕ
ore_row = replicate 6 0 ++ (replicate 4 90 ++ replicate 6 0)

-- The ore lies in the rows 3 and 12.
abbrev pub sample_ore : Grid ℕ
sample_ore =
    record {
      width = 16;
      height = 16;
      cells =
          replicate 48 0 ++ (ore_row ++ (replicate 128 0 ++ (ore_row ++ replicate 48 0)));
    }

abbrev pub sample_start : (owner kind x y : ℕ) → Start
sample_start owner kind x y =
    record { kind = kind; owner = owner; cell = record { x = x; y = y }; facing = 0 }

-- A factory, a refinery, a harvester and a jeep of each of four clients, in their four corners.
abbrev pub sample_starts : List Start
sample_starts =
    sample_start 0 2 1 1 ∷ sample_start 0 3 3 1 ∷ sample_start 0 1 5 1 ∷ sample_start 0 0 1 3
    ∷ sample_start 1 2 14 1 ∷ sample_start 1 3 12 1 ∷ sample_start 1 1 10 1
    ∷ sample_start 1 0 14 3
    ∷ sample_start 2 2 1 14 ∷ sample_start 2 3 3 14 ∷ sample_start 2 1 5 14
    ∷ sample_start 2 0 1 12
    ∷ sample_start 3 2 14 14 ∷ sample_start 3 3 12 14 ∷ sample_start 3 1 10 14
    ∷ sample_start 3 0 14 12
    ∷ []

abbrev pub sample_map : Map
sample_map =
    record {
      width = 16;
      height = 16;
      terrain = sample_terrain;
      ore = sample_ore;
      starts = sample_starts;
      cash = 2000;
    }
