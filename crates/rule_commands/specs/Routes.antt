-- The answer to the command `route`.
use Rattle.std.specs.Prelude.{ℕ, zero, suc, ◌*◌, ◌&&◌, Bool, true, false, List, [], ◌∷◌, ◌++◌}
use Rattle.std.specs.Prelude.{Option, None, Some, Ok, Err, if◌then◌else◌, replicate, codes}
use Rattle.std.specs.Prelude.{unwrap_or, find, option_map}
use Rattle.std.specs.Fmt.{decimal}
use Rattle.std.specs.Str.{bytes_eq}
use Rattle.base.specs.Steps.{◌>>=◌}
use Rattle.world_units.specs.declared.cell.CPos.{CPos}
use Rattle.world_units.specs.Cells.{same_cell}
use Rattle.world_units.specs.Directions.{step_of}
use Rattle.rule_traits.specs.declared.kind.Kind.{Kind}
use Rattle.rule_traits.specs.declared.trait_fields.Costs.{Costs}
use Rattle.rule_traits.specs.declared.trait_fields.Mobile.{Mobile}
use Rattle.rule_traits.specs.Rules.{kind_at}
use Rattle.game_model.specs.declared.map.Map.{Map}
use Rattle.game_model.specs.declared.map.Start.{Start}
use Rattle.game_model.specs.Grid.{Grid, is_on, with_cell}
use Rattle.game_model.specs.Buildings.{building_in}
use Rattle.game_model.specs.Walks.{Land, land_of}
use Rattle.game_model.specs.BestDirection.{best_dir_of, distance_of, enough_steps}
use Rattle.command_words.specs.RequestPlain.{RoutePlain}
use Rattle.rule_commands.specs.declared.route_fault.RouteFault.{RouteFault}
use Rattle.rule_commands.specs.declared.route_fault.RouteFault.TheVariants.{NoKind, NoMobile, OffMap}
use Rattle.command_answers.specs.Reply.{Reply, refusal}
use Rattle.command_answers.specs.Step.{Step}
use Rattle.command_answers.specs.Contents.{Contents}
use Rattle.rule_commands.specs.Maps.{typed_rules, map_step}

-- ---- what is asked for

-- The cause is printed as its variant is named.
abbrev pub cause_of : RouteFault → List ℕ
cause_of NoKind = codes "NoKind"
cause_of NoMobile = codes "NoMobile"
cause_of OffMap = codes "OffMap"

-- What is asked for is refused.
abbrev pub route_refusal : RouteFault → Reply
route_refusal fault = refusal (codes "route") 0 (cause_of fault)

abbrev pub mobile_costs : Option Mobile → Step Costs
mobile_costs None = Err (route_refusal NoMobile)
mobile_costs (Some mobile) = Ok mobile.costs

abbrev pub kind_costs : Option Kind → Step Costs
kind_costs None = Err (route_refusal NoKind)
kind_costs (Some kind) = mobile_costs kind.mobile

-- What the ground costs a kind of this name. Whether it is a building too is not asked.
abbrev pub costs_named : List Kind → List ℕ → Step Costs
costs_named kinds name = kind_costs (find (λ (kind : Kind). bytes_eq kind.name name) kinds)

-- ---- the blocks

-- The flags, set where one of these actors is a building.
abbrev pub with_buildings : List Kind → List Start → Grid Bool → Grid Bool
with_buildings kinds [] flags = flags
with_buildings kinds (start ∷ rest) flags =
    with_buildings kinds rest
    (if building_in (kind_at kinds start.kind) then with_cell flags start.cell true else flags)

-- The cells on which a building of the map stands.
abbrev pub blocks_of : List Kind → Map → Grid Bool
blocks_of kinds m =
    with_buildings kinds m.starts (record {
      width = m.width;
      height = m.height;
      cells = replicate (m.width * m.height) false;
    })

-- ---- the route

abbrev pub and_after : (CPos → List CPos) → Option CPos → List CPos
and_after rest None = []
and_after rest (Some q) = q ∷ rest q

abbrev pub by_direction : (CPos → List CPos) → CPos → Option ℕ → List CPos
by_direction rest p None = []
by_direction rest p (Some d) = and_after rest (step_of p d)

-- The cells that are entered one after the other from p on, each by the best direction, in at most
-- so many steps.
abbrev pub entered_from : Map → Land → (steps : ℕ) → CPos → List CPos
entered_from m land zero p = []
entered_from m land (suc more) p =
    by_direction (entered_from m land more) p (best_dir_of m land p)

-- The least cost of all walks, and the cells of the walk that takes the best direction at each of
-- them, from the start to the goal. There is none exactly where no walk exists or the start is the
-- goal.
unfoldable pub route_of : Map → Land → CPos → Option (ℕ × List CPos)
route_of m land from =
    if same_cell from land.goal then None
    else
    option_map (λ cost. (cost, from ∷ entered_from m land (enough_steps m) from))
    (distance_of m land from)

-- ---- what is printed

-- A cell, after a blank.
unfoldable pub cell_text : CPos → List ℕ
cell_text p = codes " " ++ decimal p.x ++ codes "," ++ decimal p.y

abbrev pub cells_text : List CPos → List ℕ
cells_text [] = []
cells_text (p ∷ rest) = cell_text p ++ cells_text rest

abbrev pub route_line : Option (ℕ × List CPos) → List ℕ
route_line None = codes "route none\n"
route_line (Some found) =
    codes "route " ++ decimal found.0 ++ cells_text found.1 ++ codes "\n"

-- Over a map, for these costs: both cells must be on it.
abbrev pub routed_step : List Kind → Map → Costs → (from to : CPos) → Step (List ℕ)
routed_step kinds m costs from to =
    if is_on m.width m.height from && is_on m.width m.height to
    then Ok (route_line (route_of m (land_of m (blocks_of kinds m) costs to) from))
    else Err (route_refusal OffMap)

-- The first fault of the rules, of the map, and of what is asked for, or the line of the route.
abbrev pub route_step : RoutePlain → Contents → Step (List ℕ)
route_step query contents = do
  made ← typed_rules query.rules contents.rules
  m ← map_step made.0 query.map_file (unwrap_or contents.map_file [])
  costs ← costs_named made.0 query.kind
  routed_step made.0 m costs query.from query.to
