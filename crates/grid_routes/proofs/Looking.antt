-- What a router finds over the ground at which it looks.
use Rattle.std.proofs.Common.{◌≡◌, ℕ, Bool, Option, subst}
use Rattle.world_units.specs.declared.cell.CPos.{CPos}
use Rattle.rule_traits.specs.declared.trait_fields.Costs.{Costs}
use Rattle.game_model.specs.declared.map.Map.{Map}
use Rattle.game_model.specs.declared.terrain.Terrain.{Terrain}
use Rattle.game_model.specs.BestDirection.{best_dir_of}
use Rattle.game_model.specs.Grid.{Grid}
use Rattle.game_model.specs.Walks.{IsBestDirection, land_of}
use Rattle.grid_routes.specs.Routing.{LooksAt, Routing}
use Rattle.grid_routes.specs.EntryCosts.{IsCheap, land_over}
use Rattle.grid_routes.proofs.Distances.{best-value}

pub seen-best :
    (r : Routing) (map : Map) (built : Grid Bool) (costs : Costs) (goal from : CPos) (answer : Option ℕ) →
    LooksAt r map built → IsBestDirection (land_over r.terrain r.built costs goal) from answer →
    IsBestDirection (land_of map built costs goal) from answer
seen-best r map built costs goal from answer looks best =
    subst (λ (t : Grid Terrain). IsBestDirection (land_over t built costs goal) from answer) looks.terrain
    (subst (λ (b : Grid Bool). IsBestDirection (land_over r.terrain b costs goal) from answer) looks.blocks best)

pub seen-value :
    (r : Routing) (map : Map) (built : Grid Bool) (costs : Costs) (goal from : CPos) (answer : Option ℕ) →
    LooksAt r map built → IsCheap costs → IsBestDirection (land_over r.terrain r.built costs goal) from answer →
    answer ≡ best_dir_of map (land_of map built costs goal) from
seen-value r map built costs goal from answer looks cheap best =
    best-value map built costs goal looks.sizes.terrain cheap from answer
    (seen-best r map built costs goal from answer looks best)
