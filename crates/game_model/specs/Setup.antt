-- What a match stands on: its rules and its map.
use Rattle.std.specs.Prelude.{List, [], ◌∷◌}
use Rattle.rule_traits.specs.declared.kind.Kind.{Kind}
use Rattle.game_model.specs.declared.ground.Ground.{Ground}
use Rattle.game_model.specs.declared.map.Map.{Map}
use Rattle.game_model.specs.declared.limits.TheConstants.{BARE_CASH}
use Rattle.game_model.specs.declared.terrain.Terrain.TheVariants.{Clear}

pub record Setup : Type 0 where
  pub rules : List Kind
  pub map : Map

-- The rules and the map of a ground.
abbrev pub setup_in : Ground → Setup
setup_in g = record { rules = g.rules.now; map = g.map.now }

-- The map of a match without one: one clear cell, no ore, no actors.
abbrev pub bare_map : Map
bare_map =
    record {
      width = 1;
      height = 1;
      terrain = record { width = 1; height = 1; cells = Clear ∷ [] };
      ore = record { width = 1; height = 1; cells = 0 ∷ [] };
      starts = [];
      cash = BARE_CASH;
    }

-- A match without files: no kinds, and the bare map.
abbrev pub bare_setup : Setup
bare_setup = record { rules = []; map = bare_map }
