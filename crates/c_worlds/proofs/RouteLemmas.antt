-- The grounds over which routes are looked for.
use Rattle.std.proofs.Common.{◌≡◌, ◌≤◌, ◌+◌, ◌*◌, ℕ, Bool, true, false, ◌&&◌, if◌then◌else◌, List, [], length, take, replicate, map, Option, Result, IfOk, None, Some, refl, sym, ap, ap₂, subst, ◌∙◌, inl, inr}
use Rattle.std.specs.Prelude.{◌==◌, slice_get}
use Rattle.std.proofs.lemmas.Bool.Decides.{eqb_tells}
use Rattle.std.proofs.lemmas.Option.{get_or_from_slice_get, slice_get_within}
use Rattle.std.proofs.lemmas.List.{take_all}
use Rattle.world_units.specs.declared.cell.CPos.{CPos}
use Rattle.rule_traits.specs.declared.kind.Kind.{Kind}
use Rattle.rule_traits.specs.declared.trait_fields.Costs.{Costs}
use Rattle.game_model.specs.declared.actor.Actor.{Actor}
use Rattle.game_model.specs.declared.map.Map.{Map}
use Rattle.game_model.specs.declared.world.World.{World}
use Rattle.game_model.specs.Buildings.{is_building}
use Rattle.game_model.specs.Grid.{Grid, HasSize, IsOn, with_cell}
use Rattle.game_model.specs.Kinds.{costs_in, kind_of}
use Rattle.game_model.specs.Setup.{Setup}
use Rattle.game_model.specs.ValidWorld.{IsValidWorld}
use Rattle.game_model.specs.Walks.{land_of}
use Rattle.game_tick.specs.Turn.{blocks_of}
use Rattle.grid_routes.specs.declared.route.Route.{Route}
use Rattle.grid_routes.specs.Routing.{Routing, AreSized, IsNew}
use Rattle.grid_routes.specs.Steps.{IsRoute}
use Rattle.tick_core.specs.Game.{GameState}
use Rattle.tick_core.specs.Preview.{IsPreview}
use Rattle.tick_core.proofs.BlocksLemmas.{marked_next, none_yet}
use Rattle.c_objects.specs.declared.code.TheConstants.{NONE}
use Rattle.c_worlds.specs.declared.routes.CCell.{CCell}
use Rattle.c_worlds.specs.declared.routes.CRoute.{CRoute}
use Rattle.c_worlds.specs.declared.routes.RouteAsk.{RouteAsk}
use Rattle.c_worlds.specs.Routes.{TellsWay, c_cell_of, c_route_of, has_ground, outs}
use Rattle.c_worlds.specs.Told.{room_code, written}

-- An actor of a valid world stands on the map.
pub stands_on : (setup : Setup) (steps : ℕ) (w : World) (i : ℕ) (a : Actor) → IsValidWorld setup steps w → slice_get w.actors i ≡ Some a →
    IsOn setup.map.width setup.map.height a.cell
stands_on setup steps w i a valid at =
    subst (λ (x : Actor). IsOn setup.map.width setup.map.height x.cell) (get_or_from_slice_get w.actors i a a at)
    (valid.actors.each i a (slice_get_within w.actors i a at)).cell

same_number : (a b : ℕ) → (a == b) ≡ true → a ≡ b
same_number a b is = elim (eqb_tells a b) [ inl same ↦ same.1 | inr other ↦ absurd cc ]

both : (a b : Bool) → (a && b) ≡ true → (a ≡ true) × (b ≡ true)
both true b is = (refl, is)
both false b is = absurd cc

-- The terrain has the size of the map.
pub ground_sized : (m : Map) → has_ground m ≡ true → HasSize m.width m.height m.terrain
ground_sized m is =
    let parts = both (m.terrain.width == m.width) (m.terrain.height == m.height) is in
    record { width = same_number m.terrain.width m.width parts.0; height = same_number m.terrain.height m.height parts.1 }

-- ---- the buildings are marked one after the other

pub marks_none : (setup : Setup) (m : Map) (blocks : Grid Bool) → m ≡ setup.map →
    blocks ≡ (record { width = m.width; height = m.height; cells = replicate (m.width * m.height) false }) →
    blocks ≡ blocks_of setup []
marks_none setup m blocks same is =
    let grid : Map → Grid Bool = λ x. record { width = x.width; height = x.height; cells = replicate (x.width * x.height) false } in
    is ∙ ap grid same ∙ none_yet setup

pub marks_more : (setup : Setup) (rules : List Kind) (actors : List Actor) (i : ℕ) (a : Actor) (blocks new : Grid Bool) → rules ≡ setup.rules →
    slice_get actors i ≡ Some a → IsOn setup.map.width setup.map.height a.cell → blocks ≡ blocks_of setup (take i actors) →
    new ≡ (if is_building rules a then with_cell blocks a.cell true else blocks) → new ≡ blocks_of setup (take (i + 1) actors)
marks_more setup rules actors i a blocks new same at on is next =
    marked_next setup actors i a blocks new at on is
    (next ∙ ap (λ (rs : List Kind). if is_building rs a then with_cell blocks a.cell true else blocks) same)

pub marks_all : (setup : Setup) (actors : List Actor) (i : ℕ) (blocks : Grid Bool) → length actors ≤ i →
    blocks ≡ blocks_of setup (take i actors) → blocks ≡ blocks_of setup actors
marks_all setup actors i blocks past is = is ∙ ap (blocks_of setup) (take_all i actors past)

-- ---- the way

pub way_sized : (setup : Setup) (actors : List Actor) (m : Map) (router : Routing) (blocks : Grid Bool) → m ≡ setup.map →
    IsNew m.width m.height router → has_ground setup.map ≡ true → blocks ≡ blocks_of setup actors → AreSized router m blocks
way_sized setup actors m router blocks same new ground is =
    record {
      wide = new.wide;
      high = new.high;
      terrain = subst (λ (x : Map). HasSize x.width x.height x.terrain) (sym same) (ground_sized setup.map ground);
      blocks = record {
        width = ap (λ (g : Grid Bool). g.width) is ∙ sym (ap (λ (x : Map). x.width) same);
        height = ap (λ (g : Grid Bool). g.height) is ∙ sym (ap (λ (x : Map). x.height) same);
      };
    }

pub way_found :
    {E : Type 0} (setup : Setup) (w : World) (m : Map) (kind : ℕ) (from goal : CPos) (costs : Costs) (blocks : Grid Bool) (found : Result (Option Route) E) →
    m ≡ setup.map → costs ≡ costs_in (kind_of setup.rules kind).mobile → blocks ≡ blocks_of setup w.actors →
    IfOk found (IsRoute (land_of m blocks costs goal) from) → IfOk found (IsPreview setup w kind from goal)
way_found setup w m kind from goal costs blocks found same cost is route =
    let P : Map → Grid Bool → Costs → Type 0 = λ x g k. IfOk found (IsRoute (land_of x g k goal) from) in
    subst (λ (x : Map). P x (blocks_of setup w.actors) (costs_in (kind_of setup.rules kind).mobile)) same
    (subst (λ (k : Costs). P m (blocks_of setup w.actors) k) cost (subst (λ (g : Grid Bool). P m g costs) is route))

-- ---- what is told

pub tells_some :
    (game : GameState) (ask : RouteAsk) (cells : List CCell) (route : CRoute) (found : Route) (code : ℕ) (after : List CCell) (made : CRoute) →
    IsPreview game.setup game.world ask.kind ask.from ask.goal (Some found) → code ≡ room_code (length cells) (length found.cells) →
    after ≡ written (map c_cell_of found.cells) cells → made ≡ c_route_of found → TellsWay game ask cells route (outs code after made)
tells_some game ask cells route found code after made way coded out is =
    record {
      found = Some found;
      way = way;
      told =
          ap₂ (λ (n : ℕ) (l : List CCell). outs n l made) coded out
          ∙ ap (outs (room_code (length cells) (length found.cells)) (written (map c_cell_of found.cells) cells)) is;
    }

pub tells_none :
    (game : GameState) (ask : RouteAsk) (cells : List CCell) (route : CRoute) →
    IsPreview game.setup game.world ask.kind ask.from ask.goal None → TellsWay game ask cells route (outs NONE cells route)
tells_none game ask cells route way = record { found = None; way = way; told = refl }

pub ruleset tells = (tells_some, tells_none)
