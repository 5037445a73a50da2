-- A small map on which three actors without traits stand, for tests.
use Rattle.std.specs.Prelude.{ℕ, [], ◌∷◌}
use Rattle.game_model.specs.declared.map.Map.{Map}
use Rattle.game_model.specs.declared.map.Start.{Start}
use Rattle.game_model.specs.declared.terrain.Terrain.TheVariants.{Clear}

-- An actor of the first kind and of client 0, in the first row.
abbrev pub idle_start : ℕ → Start
idle_start column =
    record { kind = 0; owner = 0; cell = record { x = column; y = 0 }; facing = 0 }

-- Three clear cells, with an actor on each.
abbrev pub idle_map : Map
idle_map =
    record {
      width = 3;
      height = 1;
      terrain = record { width = 3; height = 1; cells = Clear ∷ Clear ∷ Clear ∷ [] };
      ore = record { width = 3; height = 1; cells = 0 ∷ 0 ∷ 0 ∷ [] };
      starts = idle_start 0 ∷ idle_start 1 ∷ idle_start 2 ∷ [];
      cash = 1000;
    }
