-- The map that a forest describes, or its first fault.
use Rattle.std.specs.Prelude.{ℕ, List, Result, Ok}
use Rattle.base.specs.Steps.{◌>>=◌}
use Rattle.rule_traits.specs.declared.kind.Kind.{Kind}
use Rattle.yaml_lines.specs.Trees.{Trees}
use Rattle.game_model.specs.declared.map.Map.{Map}
use Rattle.map_grid.specs.declared.fault.MapFault.{MapFault}
use Rattle.map_grid.specs.Fields.{size_of, cash_of}
use Rattle.map_grid.specs.Rows.{tiles_of, ore_grid}
use Rattle.map_grid.specs.Starts.{starts_of}

-- What follows the size: cash, terrain, ore and actors, in this order.
unfoldable pub map_sized : List Kind → Trees → (width height : ℕ) → Result Map MapFault
map_sized kinds top width height =
    cash_of top >>= λ cash.
    tiles_of width height top >>= λ terrain.
    ore_grid width height top >>= λ ore.
    starts_of kinds width height top >>= λ starts.
    Ok (record {
      width = width;
      height = height;
      terrain = terrain;
      ore = ore;
      starts = starts;
      cash = cash;
    })

-- The map of a forest, whose actors are of these kinds. Its fields may stand in any order.
unfoldable pub map_of : List Kind → Trees → Result Map MapFault
map_of kinds top = size_of top >>= λ size. map_sized kinds top size.0 size.1
