-- Proofs of what the step of a harvester makes of each actor.
use Rattle.std.specs.Prelude.{ℕ, ◌+◌, ◌-◌, ◌==◌, nat_le, nat_lt, not, Bool, true, false}
use Rattle.std.specs.Prelude.{if◌then◌else◌, List, Option, Some, None, refl}
use Rattle.world_units.specs.declared.cell.CPos.{CPos}
use Rattle.world_units.specs.Cells.{same_cell}
use Rattle.activities.specs.declared.activity.Activity.{Activity}
use Rattle.activities.specs.declared.activity.Activity.TheVariants.{Harvest, Deliver}
use Rattle.rule_traits.specs.declared.kind.Kind.{Kind}
use Rattle.game_model.specs.declared.actor.Actor.{Actor}
use Rattle.game_model.specs.ActorChanges.{changed_at}
use Rattle.game_model.specs.Grid.{Grid, with_cell}
use Rattle.game_model.specs.OreRows.{has_ore}
use Rattle.game_model.specs.Setup.{Setup}
use Rattle.game_model.specs.ValidWorld.{IsActivityOf}
use Rattle.game_model.specs.Kinds.{capacity_in, load_delay_in, unload_delay_in, bale_value_in}
use Rattle.game_model.specs.Kinds.{kind_of}
use Rattle.game_tick.specs.Acts.{popped, with_first}
use Rattle.game_tick.specs.Harvesting.{Harvested, after_deliver, after_harvest, after_loading}
use Rattle.game_tick.specs.Harvesting.{after_search, after_unloading, delivered_to, is_beside}
use Rattle.game_tick.specs.Harvesting.{nearest_refinery, paid_to, with_actors, with_load}
use Rattle.game_tick.specs.Moving.{gone_towards}
use Rattle.game_tick.specs.Nearest.{nearest_ore, ore_at}
use Rattle.game_tick.proofs.ActorKeepsLemmas.{own_keeps, AllKeep, first_keeps, popped_keeps, CanStep}
use Rattle.game_tick.proofs.ActorMovesLemmas.{towards_keeps}
use Rattle.game_tick.proofs.ChangesLemmas.{IsOnly}
use Rattle.game_tick.proofs.HarvestingLemmas.{gathers_moves}

-- A harvester's steps.
load_keeps :
    (rules : List Kind) (actors : List Actor) (a : Actor) (load : ℕ → ℕ) (act : Activity) →
    IsOnly actors a →
    AllKeep rules a.id actors
    (changed_at actors a.id (λ (b : Actor). with_load (load b.body.load) (with_first act b)))
load_keeps rules actors a load act only =
    own_keeps rules actors a (λ (b : Actor). with_load (load b.body.load) (with_first act b))
    (with_load (load a.body.load) (with_first act a)).body only refl refl refl

loading_keeps :
    (whole : Bool) (rules : List Kind) (before : Harvested) (a : Actor) (cell : CPos)
    (timer waits : ℕ) (ore : Grid ℕ) →
    IsOnly before.actors a →
    AllKeep rules a.id before.actors (
    if whole
    then record before {
      actors =
          changed_at before.actors a.id
          (λ (b : Actor). with_load (b.body.load + 1) (with_first (Harvest cell 0 waits) b));
      ore = ore;
    }
    else with_actors before
    (changed_at before.actors a.id (with_first (Harvest cell (timer + 1) waits)))).actors
loading_keeps true rules before a cell timer waits ore only =
    load_keeps rules before.actors a (λ n. n + 1) (Harvest cell 0 waits) only
loading_keeps false rules before a cell timer waits ore only =
    first_keeps rules before.actors a (Harvest cell (timer + 1) waits) only

none_keeps :
    (loaded : Bool) (rules : List Kind) (actors : List Actor) (a : Actor) (cell : CPos) →
    IsOnly actors a →
    AllKeep rules a.id actors (
    if loaded
    then changed_at actors a.id (with_first (Deliver cell 0 0))
    else changed_at actors a.id popped)
none_keeps true rules actors a cell only = first_keeps rules actors a (Deliver cell 0 0) only
none_keeps false rules actors a cell only = popped_keeps rules actors a only

search_keeps :
    (rules : List Kind) (before : Harvested) (a : Actor) (cell : CPos) (nearest : Option CPos) →
    IsOnly before.actors a →
    AllKeep rules a.id before.actors (after_search before a cell nearest).actors
search_keeps rules before a cell (Some p) only =
    first_keeps rules before.actors a (Harvest p 0 0) only
search_keeps rules before a cell None only =
    none_keeps (nat_lt 0 a.body.load) rules before.actors a cell only

harvest_by_keeps :
    (full none there : Bool) (setup : Setup) (built : Grid Bool) (clients next_id : ℕ)
    (before : Harvested) (a : Actor) (cell : CPos) (timer waits : ℕ) →
    CanStep setup clients next_id before.actors a →
    IsActivityOf setup.map (kind_of setup.rules a.kind) (Harvest cell timer waits) →
    AllKeep setup.rules a.id before.actors (
    if full
    then with_actors before (changed_at before.actors a.id (with_first (Deliver cell 0 0)))
    else (
    if none
    then after_search before a cell (nearest_ore before.ore a.cell)
    else (
    if there
    then after_loading before a (kind_of setup.rules a.kind) cell timer waits
    else with_actors before
    (gone_towards setup built before.actors a cell waits (Harvest cell timer))
    ))).actors
harvest_by_keeps true none there setup built clients next_id before a cell timer waits can fits =
    first_keeps setup.rules before.actors a (Deliver cell 0 0) can.steps.only
harvest_by_keeps false true there setup built clients next_id before a cell timer waits can fits =
    search_keeps setup.rules before a cell (nearest_ore before.ore a.cell) can.steps.only
harvest_by_keeps false false true setup built clients next_id before a cell timer waits can fits =
    loading_keeps (nat_le (load_delay_in (kind_of setup.rules a.kind).harvester) (timer + 1))
    setup.rules before a cell timer waits
    (with_cell before.ore cell (ore_at before.ore cell - 1)) can.steps.only
harvest_by_keeps false false false setup built clients next_id before a cell timer waits can fits =
    towards_keeps setup built clients next_id before.actors a cell waits (Harvest cell timer) can
    fits.1.patience
    (gathers_moves (kind_of setup.rules a.kind) fits.0)

pub harvest_keeps :
    (setup : Setup) (built : Grid Bool) (clients next_id : ℕ) (before : Harvested) (a : Actor)
    (cell : CPos) (timer waits : ℕ) →
    CanStep setup clients next_id before.actors a →
    IsActivityOf setup.map (kind_of setup.rules a.kind) (Harvest cell timer waits) →
    AllKeep setup.rules a.id before.actors
    (after_harvest setup built before a cell timer waits).actors
unfolding after_harvest
harvest_keeps setup built clients next_id before a cell timer waits can fits =
    harvest_by_keeps (nat_le (capacity_in (kind_of setup.rules a.kind).harvester) a.body.load)
    (not (has_ore (ore_at before.ore cell))) (same_cell a.cell cell) setup built clients next_id
    before a cell timer waits can fits

unloading_keeps :
    (whole : Bool) (rules : List Kind) (before : Harvested) (a : Actor) (home : CPos)
    (timer waits : ℕ) (cash : List ℕ) →
    IsOnly before.actors a →
    AllKeep rules a.id before.actors (
    if whole
    then record before {
      actors =
          changed_at before.actors a.id
          (λ (b : Actor). with_load (b.body.load - 1) (with_first (Deliver home 0 waits) b));
      cash = cash;
    }
    else with_actors before
    (changed_at before.actors a.id (with_first (Deliver home (timer + 1) waits)))).actors
unloading_keeps true rules before a home timer waits cash only =
    load_keeps rules before.actors a (λ n. n - 1) (Deliver home 0 waits) only
unloading_keeps false rules before a home timer waits cash only =
    first_keeps rules before.actors a (Deliver home (timer + 1) waits) only

beside_keeps :
    (beside : Bool) (setup : Setup) (built : Grid Bool) (clients next_id : ℕ) (before : Harvested)
    (a refinery : Actor) (home : CPos) (timer waits : ℕ) →
    CanStep setup clients next_id before.actors a →
    IsActivityOf setup.map (kind_of setup.rules a.kind) (Deliver home timer waits) →
    AllKeep setup.rules a.id before.actors (
    if beside
    then after_unloading before a (kind_of setup.rules a.kind)
    (bale_value_in (kind_of setup.rules refinery.kind).refinery) home timer waits
    else with_actors before
    (gone_towards setup built before.actors a refinery.cell waits (Deliver home timer))).actors
beside_keeps true setup built clients next_id before a refinery home timer waits can fits =
    unloading_keeps (nat_le (unload_delay_in (kind_of setup.rules a.kind).harvester) (timer + 1))
    setup.rules before a home timer waits
    (paid_to before.cash a.body.owner (bale_value_in (kind_of setup.rules refinery.kind).refinery))
    can.steps.only
beside_keeps false setup built clients next_id before a refinery home timer waits can fits =
    towards_keeps setup built clients next_id before.actors a refinery.cell waits
    (Deliver home timer) can fits.1.patience
    (gathers_moves (kind_of setup.rules a.kind) fits.0)

delivered_keeps :
    (setup : Setup) (built : Grid Bool) (clients next_id : ℕ) (before : Harvested) (a : Actor)
    (home : CPos) (timer waits : ℕ) (found : Option Actor) →
    CanStep setup clients next_id before.actors a →
    IsActivityOf setup.map (kind_of setup.rules a.kind) (Deliver home timer waits) →
    AllKeep setup.rules a.id before.actors
    (delivered_to setup built before a home timer waits found).actors
delivered_keeps setup built clients next_id before a home timer waits None can fits =
    popped_keeps setup.rules before.actors a can.steps.only
delivered_keeps setup built clients next_id before a home timer waits (Some refinery) can fits =
    beside_keeps (is_beside a.cell refinery.cell) setup built clients next_id before a refinery home
    timer waits can fits

deliver_by_keeps :
    (empty : Bool) (setup : Setup) (built : Grid Bool) (clients next_id : ℕ) (before : Harvested)
    (a : Actor) (home : CPos) (timer waits : ℕ) →
    CanStep setup clients next_id before.actors a →
    IsActivityOf setup.map (kind_of setup.rules a.kind) (Deliver home timer waits) →
    AllKeep setup.rules a.id before.actors (
    if empty
    then with_actors before (changed_at before.actors a.id (with_first (Harvest home 0 0)))
    else delivered_to setup built before a home timer waits
    (nearest_refinery setup.rules before.actors a)).actors
deliver_by_keeps true setup built clients next_id before a home timer waits can fits =
    first_keeps setup.rules before.actors a (Harvest home 0 0) can.steps.only
deliver_by_keeps false setup built clients next_id before a home timer waits can fits =
    delivered_keeps setup built clients next_id before a home timer waits
    (nearest_refinery setup.rules before.actors a) can fits

pub deliver_keeps :
    (setup : Setup) (built : Grid Bool) (clients next_id : ℕ) (before : Harvested) (a : Actor)
    (home : CPos) (timer waits : ℕ) →
    CanStep setup clients next_id before.actors a →
    IsActivityOf setup.map (kind_of setup.rules a.kind) (Deliver home timer waits) →
    AllKeep setup.rules a.id before.actors
    (after_deliver setup built before a home timer waits).actors
unfolding after_deliver
deliver_keeps setup built clients next_id before a home timer waits can fits =
    deliver_by_keeps (a.body.load == 0) setup built clients next_id before a home timer waits can
    fits
