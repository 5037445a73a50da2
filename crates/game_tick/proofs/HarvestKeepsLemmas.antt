-- Proofs of what the step of a harvester keeps, whatever world it is of.
use Rattle.std.specs.Prelude.{ℕ, ◌+◌, ◌-◌, ◌==◌, nat_le, not, Bool, true, false, if◌then◌else◌}
use Rattle.std.specs.Prelude.{List, Option, Some, None}
use Rattle.world_units.specs.declared.cell.CPos.{CPos}
use Rattle.world_units.specs.Cells.{same_cell}
use Rattle.activities.specs.declared.activity.Activity.TheVariants.{Harvest, Deliver}
use Rattle.game_model.specs.declared.actor.Actor.{Actor}
use Rattle.game_model.specs.ActorChanges.{changed_at}
use Rattle.game_model.specs.Grid.{Grid, with_cell}
use Rattle.game_model.specs.OreRows.{has_ore}
use Rattle.game_model.specs.Setup.{Setup}
use Rattle.game_model.specs.Kinds.{capacity_in, load_delay_in, unload_delay_in, bale_value_in}
use Rattle.game_model.specs.Kinds.{kind_of}
use Rattle.game_tick.specs.Acts.{popped, with_first}
use Rattle.game_tick.specs.Harvesting.{Harvested, after_deliver, after_harvest, after_loading}
use Rattle.game_tick.specs.Harvesting.{after_search, after_unloading, delivered_to, is_beside}
use Rattle.game_tick.specs.Harvesting.{nearest_refinery, paid_to, with_actors, with_load}
use Rattle.game_tick.specs.Keeps.{KeepsCash}
use Rattle.game_tick.specs.Moving.{gone_towards}
use Rattle.game_tick.specs.Nearest.{nearest_ore, ore_at}
use Rattle.game_tick.specs.StepKeeps.{HasNoMoreOre}
use Rattle.game_tick.proofs.CashLemmas.{same_cash, paid_keeps}
use Rattle.game_tick.proofs.OreLemmas.{less_ore, same_ore}

-- What a harvester's step keeps.
pub record HarvestKeeps (before after : Harvested) : Type 0 where
  pub ore : HasNoMoreOre before.ore after.ore
  pub cash : KeepsCash before.cash after.cash

list_harvest :
    (before : Harvested) (actors : List Actor) → HarvestKeeps before (with_actors before actors)
list_harvest before actors = record { ore = same_ore before.ore; cash = same_cash before.cash }

loading_keeps :
    (whole : Bool) (before : Harvested) (a : Actor) (cell : CPos) (timer waits : ℕ) →
    HarvestKeeps before (
    if whole
    then record before {
      actors =
          changed_at before.actors a.id
          (λ (b : Actor). with_load (b.body.load + 1) (with_first (Harvest cell 0 waits) b));
      ore = with_cell before.ore cell (ore_at before.ore cell - 1);
    }
    else with_actors before
    (changed_at before.actors a.id (with_first (Harvest cell (timer + 1) waits))))
loading_keeps true before a cell timer waits =
    record { ore = less_ore before.ore cell; cash = same_cash before.cash }
loading_keeps false before a cell timer waits =
    list_harvest before
    (changed_at before.actors a.id (with_first (Harvest cell (timer + 1) waits)))

search_keeps :
    (before : Harvested) (a : Actor) (cell : CPos) (nearest : Option CPos) →
    HarvestKeeps before (after_search before a cell nearest)
search_keeps before a cell (Some p) =
    record { ore = same_ore before.ore; cash = same_cash before.cash }
search_keeps before a cell None = record { ore = same_ore before.ore; cash = same_cash before.cash }

harvest_by :
    (full none there : Bool) (setup : Setup) (built : Grid Bool) (before : Harvested) (a : Actor)
    (cell : CPos) (timer waits : ℕ) →
    HarvestKeeps before (
    if full
    then with_actors before (changed_at before.actors a.id (with_first (Deliver cell 0 0)))
    else (
    if none
    then after_search before a cell (nearest_ore before.ore a.cell)
    else (
    if there
    then after_loading before a (kind_of setup.rules a.kind) cell timer waits
    else with_actors before
    (gone_towards setup built before.actors a cell waits (Harvest cell timer))
    )))
harvest_by true none there setup built before a cell timer waits =
    record { ore = same_ore before.ore; cash = same_cash before.cash }
harvest_by false true there setup built before a cell timer waits =
    search_keeps before a cell (nearest_ore before.ore a.cell)
harvest_by false false true setup built before a cell timer waits =
    loading_keeps (nat_le (load_delay_in (kind_of setup.rules a.kind).harvester) (timer + 1)) before
    a cell timer waits
harvest_by false false false setup built before a cell timer waits =
    record { ore = same_ore before.ore; cash = same_cash before.cash }

pub harvest_keeps :
    (setup : Setup) (built : Grid Bool) (before : Harvested) (a : Actor) (cell : CPos)
    (timer waits : ℕ) →
    HarvestKeeps before (after_harvest setup built before a cell timer waits)
unfolding after_harvest
harvest_keeps setup built before a cell timer waits =
    harvest_by (nat_le (capacity_in (kind_of setup.rules a.kind).harvester) a.body.load)
    (not (has_ore (ore_at before.ore cell))) (same_cell a.cell cell) setup built before a cell timer
    waits

unloading_keeps :
    (whole : Bool) (before : Harvested) (a : Actor) (value : ℕ) (home : CPos) (timer waits : ℕ) →
    HarvestKeeps before (
    if whole
    then record before {
      actors =
          changed_at before.actors a.id
          (λ (b : Actor). with_load (b.body.load - 1) (with_first (Deliver home 0 waits) b));
      cash = paid_to before.cash a.body.owner value;
    }
    else with_actors before
    (changed_at before.actors a.id (with_first (Deliver home (timer + 1) waits))))
unloading_keeps true before a value home timer waits =
    record { ore = same_ore before.ore; cash = paid_keeps before.cash a.body.owner value }
unloading_keeps false before a value home timer waits =
    list_harvest before
    (changed_at before.actors a.id (with_first (Deliver home (timer + 1) waits)))

beside_keeps :
    (beside : Bool) (setup : Setup) (built : Grid Bool) (before : Harvested) (a refinery : Actor)
    (home : CPos) (timer waits : ℕ) →
    HarvestKeeps before (
    if beside
    then after_unloading before a (kind_of setup.rules a.kind)
    (bale_value_in (kind_of setup.rules refinery.kind).refinery) home timer waits
    else with_actors before
    (gone_towards setup built before.actors a refinery.cell waits (Deliver home timer)))
beside_keeps true setup built before a refinery home timer waits =
    unloading_keeps (nat_le (unload_delay_in (kind_of setup.rules a.kind).harvester) (timer + 1))
    before a
    (bale_value_in (kind_of setup.rules refinery.kind).refinery) home timer waits
beside_keeps false setup built before a refinery home timer waits =
    record { ore = same_ore before.ore; cash = same_cash before.cash }

delivered_keeps :
    (setup : Setup) (built : Grid Bool) (before : Harvested) (a : Actor) (home : CPos)
    (timer waits : ℕ) (found : Option Actor) →
    HarvestKeeps before (delivered_to setup built before a home timer waits found)
delivered_keeps setup built before a home timer waits None =
    list_harvest before (changed_at before.actors a.id popped)
delivered_keeps setup built before a home timer waits (Some refinery) =
    beside_keeps (is_beside a.cell refinery.cell) setup built before a refinery home timer waits

deliver_by :
    (empty : Bool) (setup : Setup) (built : Grid Bool) (before : Harvested) (a : Actor)
    (home : CPos) (timer waits : ℕ) →
    HarvestKeeps before (
    if empty
    then with_actors before (changed_at before.actors a.id (with_first (Harvest home 0 0)))
    else delivered_to setup built before a home timer waits
    (nearest_refinery setup.rules before.actors a))
deliver_by true setup built before a home timer waits =
    list_harvest before (changed_at before.actors a.id (with_first (Harvest home 0 0)))
deliver_by false setup built before a home timer waits =
    delivered_keeps setup built before a home timer waits
    (nearest_refinery setup.rules before.actors a)

pub deliver_keeps :
    (setup : Setup) (built : Grid Bool) (before : Harvested) (a : Actor) (home : CPos)
    (timer waits : ℕ) →
    HarvestKeeps before (after_deliver setup built before a home timer waits)
unfolding after_deliver
deliver_keeps setup built before a home timer waits =
    deliver_by (a.body.load == 0) setup built before a home timer waits
