-- The steps of a Harvest and of a Deliver.
use Rattle.std.specs.Prelude.{ℕ, ◌+◌, ◌-◌, ◌==◌, nat_le, nat_lt, min, not, ◌&&◌, if◌then◌else◌}
use Rattle.std.specs.Prelude.{Bool, List, Option, Some, None, is_some, filter, length, slice_index}
use Rattle.std.specs.Prelude.{slice_set}
use Rattle.world_units.specs.declared.cell.CPos.{CPos}
use Rattle.world_units.specs.Cells.{apart, same_cell, dist_sq_of}
use Rattle.activities.specs.declared.activity.Activity.TheVariants.{Harvest, Deliver}
use Rattle.rule_traits.specs.declared.kind.Kind.{Kind}
use Rattle.game_model.specs.declared.actor.Actor.{Actor}
use Rattle.game_model.specs.declared.limits.TheConstants.{MAX_CASH}
use Rattle.game_model.specs.ActorChanges.{changed_at}
use Rattle.game_model.specs.Grid.{Grid, with_cell}
use Rattle.game_model.specs.OreRows.{has_ore}
use Rattle.game_model.specs.Setup.{Setup}
use Rattle.game_model.specs.Kinds.{capacity_in, load_delay_in, unload_delay_in}
use Rattle.game_model.specs.World.{is_alive}
use Rattle.game_model.specs.Kinds.{kind_of, bale_value_in}
use Rattle.game_tick.specs.Acts.{popped, with_first}
use Rattle.game_tick.specs.Moving.{gone_towards}
use Rattle.game_tick.specs.Nearest.{first_least, nearest_ore, ore_at}

-- The actors, the ore and the cash of each client after the step.
pub record Harvested : Type 0 where
  pub actors : List Actor
  pub ore : Grid ℕ
  pub cash : List ℕ

-- Only the actors have changed.
abbrev pub with_actors : Harvested → List Actor → Harvested
with_actors before actors = record before { actors = actors }

-- The actor with another load.
abbrev pub with_load : (load : ℕ) → Actor → Actor
with_load load a = record a { body = record a.body { load = load } }

-- A Harvest on the actor's own cell: one turn more, and after as many as a bale takes, a bale of
-- the cell is loaded and the count begins anew.
abbrev pub after_loading : Harvested → Actor → Kind → CPos → (timer waits : ℕ) → Harvested
after_loading before a kind cell timer waits =
    if nat_le (load_delay_in kind.harvester) (timer + 1)
    then record before {
      actors =
          changed_at before.actors a.id
          (λ (b : Actor). with_load (b.body.load + 1) (with_first (Harvest cell 0 waits) b));
      ore = with_cell before.ore cell (ore_at before.ore cell - 1);
    }
    else with_actors before
    (changed_at before.actors a.id (with_first (Harvest cell (timer + 1) waits)))

-- The named cell has no ore: the nearest one that has takes its place. Where there is none, what is
-- loaded is delivered, or the activity ends.
abbrev pub after_search : Harvested → Actor → CPos → Option CPos → Harvested
after_search before a cell (Some nearest) =
    with_actors before (changed_at before.actors a.id (with_first (Harvest nearest 0 0)))
after_search before a cell None =
    with_actors before (
    if nat_lt 0 a.body.load
    then changed_at before.actors a.id (with_first (Deliver cell 0 0))
    else changed_at before.actors a.id popped
    )

-- The step of a Harvest of a cell. The first applicable case decides: the actor is full, and is to
-- deliver; the cell has no ore; the actor isn't there, and moves there; it loads.
unfoldable pub after_harvest :
    Setup → Grid Bool → Harvested → Actor → CPos → (timer waits : ℕ) → Harvested
after_harvest setup built before a cell timer waits =
    let kind = kind_of setup.rules a.kind in
    if nat_le (capacity_in kind.harvester) a.body.load
    then with_actors before (changed_at before.actors a.id (with_first (Deliver cell 0 0)))
    else (
    if not (has_ore (ore_at before.ore cell))
    then after_search before a cell (nearest_ore before.ore a.cell)
    else (
    if same_cell a.cell cell
    then after_loading before a kind cell timer waits
    else with_actors before
    (gone_towards setup built before.actors a cell waits (Harvest cell timer))
    ))

-- The other is a living refinery of the same owner.
abbrev pub is_refinery_for : List Kind → Actor → Actor → Bool
is_refinery_for rules a other =
    not (other.id == a.id) && is_alive other && (other.body.owner == a.body.owner)
    && is_some (kind_of rules other.kind).refinery

-- The nearest such refinery. Of those that are equally near, the least id decides.
unfoldable pub nearest_refinery : List Kind → List Actor → Actor → Option Actor
nearest_refinery rules actors a =
    first_least (λ (other : Actor). dist_sq_of a.cell other.cell)
    (filter (is_refinery_for rules a) actors)

-- The cash after a payment to an owner, up to `MAX_CASH`. Who is no client gets none.
abbrev pub paid_to : List ℕ → (owner amount : ℕ) → List ℕ
paid_to cash owner amount =
    if nat_lt owner (length cash)
    then slice_set cash owner (min (slice_index cash owner + amount) MAX_CASH)
    else cash

-- The two are one cell or neighbours.
abbrev pub is_beside : CPos → CPos → Bool
is_beside p q = nat_le (apart p.x q.x) 1 && nat_le (apart p.y q.y) 1

-- A Deliver beside the refinery: one turn more, and after as many as a bale takes, a bale is
-- unloaded and paid, and the count begins anew.
abbrev pub after_unloading :
    Harvested → Actor → Kind → (value : ℕ) → CPos → (timer waits : ℕ) → Harvested
after_unloading before a kind value home timer waits =
    if nat_le (unload_delay_in kind.harvester) (timer + 1)
    then record before {
      actors =
          changed_at before.actors a.id
          (λ (b : Actor). with_load (b.body.load - 1) (with_first (Deliver home 0 waits) b));
      cash = paid_to before.cash a.body.owner value;
    }
    else with_actors before
    (changed_at before.actors a.id (with_first (Deliver home (timer + 1) waits)))

-- With a load, and the nearest refinery: the activity ends where there is none; beside it the actor
-- unloads, elsewhere it moves towards it.
abbrev pub delivered_to :
    Setup → Grid Bool → Harvested → Actor → CPos → (timer waits : ℕ) → Option Actor → Harvested
delivered_to setup built before a home timer waits None =
    with_actors before (changed_at before.actors a.id popped)
delivered_to setup built before a home timer waits (Some refinery) =
    let kind = kind_of setup.rules a.kind in
    if is_beside a.cell refinery.cell
    then after_unloading before a kind (bale_value_in (kind_of setup.rules refinery.kind).refinery)
    home timer waits
    else with_actors before
    (gone_towards setup built before.actors a refinery.cell waits (Deliver home timer))

-- The step of a Deliver. Without a load the actor is to harvest at home again.
unfoldable pub after_deliver :
    Setup → Grid Bool → Harvested → Actor → CPos → (timer waits : ℕ) → Harvested
after_deliver setup built before a home timer waits =
    if a.body.load == 0
    then with_actors before (changed_at before.actors a.id (with_first (Harvest home 0 0)))
    else delivered_to setup built before a home timer waits
    (nearest_refinery setup.rules before.actors a)
