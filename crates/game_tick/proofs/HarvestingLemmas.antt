-- Proofs about the steps of a Harvest and of a Deliver.
use Rattle.std.specs.Prelude.{◌≡◌, ℕ, ◌+◌, ◌-◌, ◌==◌, ◌<◌, ◌≤◌, Bool, true, false, nat_le, nat_lt}
use Rattle.std.specs.Prelude.{not, if◌then◌else◌, List, map, Option, Some, None, refl}
use Rattle.std.proofs.Common.{inl, arith}
use Rattle.std.proofs.lemmas.Bool.{leb-false, and_parts}
use Rattle.world_units.specs.declared.cell.CPos.{CPos}
use Rattle.world_units.specs.Cells.{same_cell}
use Rattle.activities.specs.declared.activity.Activity.{Activity}
use Rattle.activities.specs.declared.activity.Activity.TheVariants.{Harvest, Deliver}
use Rattle.rule_traits.specs.declared.kind.Kind.{Kind}
use Rattle.rule_traits.specs.Rules.{moves}
use Rattle.game_model.specs.declared.actor.Actor.{Actor}
use Rattle.game_model.specs.ActorChanges.{changed_at}
use Rattle.game_model.specs.Grid.{Grid, HasSize, with_cell}
use Rattle.game_model.specs.OreRows.{has_ore}
use Rattle.game_model.specs.Setup.{Setup}
use Rattle.game_model.specs.ValidMap.{IsMapFor}
use Rattle.game_model.specs.ValidWorld.{IsActivityOf}
use Rattle.game_model.specs.Kinds.{capacity_in, gathers, load_delay_in, unload_delay_in}
use Rattle.game_model.specs.Kinds.{bale_value_in, kind_of}
use Rattle.game_tick.specs.Acts.{popped, with_first}
use Rattle.game_tick.specs.Harvesting.{Harvested, with_actors, with_load, after_loading}
use Rattle.game_tick.specs.Harvesting.{after_search, after_harvest, paid_to, is_beside}
use Rattle.game_tick.specs.Harvesting.{after_unloading, delivered_to, after_deliver}
use Rattle.game_tick.specs.Harvesting.{nearest_refinery}
use Rattle.game_tick.specs.Keeps.{KeepsCash}
use Rattle.game_tick.specs.Moving.{gone_towards}
use Rattle.game_tick.specs.Nearest.{nearest_ore, ore_at}
use Rattle.game_tick.specs.StepKeeps.{HasNoMoreOre}
use Rattle.game_tick.proofs.CashLemmas.{same_cash, paid_keeps}
use Rattle.game_tick.proofs.ChangesLemmas.{changed}
use Rattle.game_tick.proofs.MovingLemmas.{towards_sound}
use Rattle.game_tick.proofs.OreLemmas.{less_ore, nearest_on, same_ore}
use Rattle.game_tick.proofs.SoundLemmas.{AreSound, IsHurt, Steps, all_sound, body_of, first_sound}
use Rattle.game_tick.proofs.SoundLemmas.{popped_sound, sound_body, sound_first}

-- What a step of a harvester leaves.
pub record IsHarvested
    (setup : Setup) (clients next_id : ℕ) (before after : Harvested) : Type 0 where
  pub sound : AreSound setup clients next_id after.actors
  pub ore : HasNoMoreOre before.ore after.ore
  pub cash : KeepsCash before.cash after.cash

-- Only actors have changed.
only_actors :
    (setup : Setup) (clients next_id : ℕ) (before : Harvested) (actors : List Actor) →
    AreSound setup clients next_id actors →
    IsHarvested setup clients next_id before (with_actors before actors)
only_actors setup clients next_id before actors sound =
    record { sound = sound; ore = same_ore before.ore; cash = same_cash before.cash }

-- Another load and another first activity.
load_sound :
    (setup : Setup) (clients next_id : ℕ) (actors : List Actor) (a : Actor) (load : ℕ → ℕ)
    (act : Activity) →
    Steps setup clients next_id actors a →
    load a.body.load ≤ capacity_in (kind_of setup.rules a.kind).harvester →
    IsActivityOf setup.map (kind_of setup.rules a.kind) act →
    AreSound setup clients next_id
    (changed_at actors a.id (λ (b : Actor). with_load (load b.body.load) (with_first act b)))
load_sound setup clients next_id actors a load act steps least fits =
    let change : Actor → Actor = λ b. with_load (load b.body.load) (with_first act b) in
    let first = sound_first setup clients next_id a act steps.sound fits in
    let is = body_of setup clients next_id (with_first act a) first in
    all_sound setup clients next_id (changed_at actors a.id change) (change a)
    (changed setup clients next_id (IsHurt setup.rules) actors a change steps refl (inl refl)
    (sound_body setup clients next_id (with_first act a) (change a).body first refl
    steps.sound.facing
    (record {
      leg = is.leg;
      load = least;
      reload = is.reload;
      act_count = is.act_count;
      acts = is.acts;
      build_count = is.build_count;
      builds = is.builds;
    }))
    steps.fine)

loading_by :
    (whole : Bool) (setup : Setup) (clients next_id : ℕ) (before : Harvested) (a : Actor)
    (cell : CPos) (timer waits : ℕ) →
    nat_le (load_delay_in (kind_of setup.rules a.kind).harvester) (timer + 1) ≡ whole →
    a.body.load < capacity_in (kind_of setup.rules a.kind).harvester →
    Steps setup clients next_id before.actors a →
    IsActivityOf setup.map (kind_of setup.rules a.kind) (Harvest cell timer waits) →
    IsHarvested setup clients next_id before (
    if whole
    then record before {
      actors =
          changed_at before.actors a.id
          (λ (b : Actor). with_load (b.body.load + 1) (with_first (Harvest cell 0 waits) b));
      ore = with_cell before.ore cell (ore_at before.ore cell - 1);
    }
    else with_actors before
    (changed_at before.actors a.id (with_first (Harvest cell (timer + 1) waits))))
loading_by true setup clients next_id before a cell timer waits is room steps fits =
    record {
      sound =
          load_sound setup clients next_id before.actors a (λ n. n + 1) (Harvest cell 0 waits) steps
          (omega arith)
          (fits.0, fits.1, omega arith);
      ore = less_ore before.ore cell;
      cash = same_cash before.cash;
    }
loading_by false setup clients next_id before a cell timer waits is room steps fits =
    let below : timer + 1 < load_delay_in (kind_of setup.rules a.kind).harvester =
    leb-false _ (timer + 1) is in
    only_actors setup clients next_id before
    (changed_at before.actors a.id (with_first (Harvest cell (timer + 1) waits)))
    (first_sound setup clients next_id before.actors a (Harvest cell (timer + 1) waits) steps
    (fits.0, fits.1, omega arith))

deliver_fits :
    (setup : Setup) (kind : Kind) (cell : CPos) (timer waits : ℕ) →
    IsActivityOf setup.map kind (Harvest cell timer waits) →
    IsActivityOf setup.map kind (Deliver cell 0 0)
deliver_fits setup kind cell timer waits fits =
    (fits.0, record { on_map = fits.1.on_map; patience = omega arith }, omega arith)

none_by :
    (loaded : Bool) (setup : Setup) (clients next_id : ℕ) (before : Harvested) (a : Actor)
    (cell : CPos) (timer waits : ℕ) →
    Steps setup clients next_id before.actors a →
    IsActivityOf setup.map (kind_of setup.rules a.kind) (Harvest cell timer waits) →
    AreSound setup clients next_id (
    if loaded
    then changed_at before.actors a.id (with_first (Deliver cell 0 0))
    else changed_at before.actors a.id popped)
none_by true setup clients next_id before a cell timer waits steps fits =
    first_sound setup clients next_id before.actors a (Deliver cell 0 0) steps
    (deliver_fits setup (kind_of setup.rules a.kind) cell timer waits fits)
none_by false setup clients next_id before a cell timer waits steps fits =
    popped_sound setup clients next_id before.actors a steps

search_by :
    (setup : Setup) (clients next_id : ℕ) (before : Harvested) (a : Actor) (cell : CPos)
    (timer waits : ℕ) (nearest : Option CPos) →
    nearest_ore before.ore a.cell ≡ nearest → HasSize setup.map.width setup.map.height before.ore →
    Steps setup clients next_id before.actors a →
    IsActivityOf setup.map (kind_of setup.rules a.kind) (Harvest cell timer waits) →
    IsHarvested setup clients next_id before (after_search before a cell nearest)
search_by setup clients next_id before a cell timer waits (Some p) found size steps fits =
    let on = nearest_on before.ore a.cell p found in
    only_actors setup clients next_id before
    (changed_at before.actors a.id (with_first (Harvest p 0 0)))
    (first_sound setup clients next_id before.actors a (Harvest p 0 0) steps (
      fits.0,
      record {
        on_map =
            record {
              column = omega (arith, on.column, size.width);
              row = omega (arith, on.row, size.height);
            };
        patience = omega arith;
      },
      omega arith,
    ))
search_by setup clients next_id before a cell timer waits None found size steps fits =
    only_actors setup clients next_id before _
    (none_by (nat_lt 0 a.body.load) setup clients next_id before a cell timer waits steps fits)

pub gathers_moves : (kind : Kind) → gathers kind ≡ true → moves kind ≡ true
gathers_moves kind is = (and_parts (moves kind) _ is).0

harvest_by :
    (full none there : Bool) (setup : Setup) (built : Grid Bool) (clients next_id : ℕ)
    (before : Harvested) (a : Actor) (cell : CPos) (timer waits : ℕ) →
    nat_le (capacity_in (kind_of setup.rules a.kind).harvester) a.body.load ≡ full →
    IsMapFor setup.rules setup.map → HasSize setup.map.width setup.map.height before.ore →
    Steps setup clients next_id before.actors a →
    IsActivityOf setup.map (kind_of setup.rules a.kind) (Harvest cell timer waits) →
    IsHarvested setup clients next_id before (
    if full
    then with_actors before (changed_at before.actors a.id (with_first (Deliver cell 0 0)))
    else (
    if none
    then after_search before a cell (nearest_ore before.ore a.cell)
    else (
    if there
    then after_loading before a (kind_of setup.rules a.kind) cell timer waits
    else with_actors before
    (gone_towards setup built before.actors a cell waits (Harvest cell timer))
    )))
harvest_by true none there setup built clients next_id before a cell timer waits is map size
    steps fits =
    only_actors setup clients next_id before _
    (first_sound setup clients next_id before.actors a (Deliver cell 0 0) steps
    (deliver_fits setup (kind_of setup.rules a.kind) cell timer waits fits))
harvest_by false true there setup built clients next_id before a cell timer waits is map size
    steps fits =
    search_by setup clients next_id before a cell timer waits (nearest_ore before.ore a.cell) refl
    size steps fits
harvest_by false false true setup built clients next_id before a cell timer waits is map size
    steps fits =
    let kind : Kind = kind_of setup.rules a.kind in
    loading_by (nat_le (load_delay_in kind.harvester) (timer + 1)) setup clients next_id before a
    cell timer waits refl
    (leb-false (capacity_in kind.harvester) a.body.load is) steps fits
harvest_by false false false setup built clients next_id before a cell timer waits is map size
    steps fits =
    only_actors setup clients next_id before _
    (towards_sound setup built clients next_id before.actors a cell waits (Harvest cell timer) map
    fits.1.patience steps
    (gathers_moves (kind_of setup.rules a.kind) fits.0)
    (λ more few. (fits.0, record { on_map = fits.1.on_map; patience = few }, fits.2)))

-- The step of a Harvest.
pub harvest_is :
    (setup : Setup) (built : Grid Bool) (clients next_id : ℕ) (before : Harvested) (a : Actor)
    (cell : CPos) (timer waits : ℕ) →
    IsMapFor setup.rules setup.map → HasSize setup.map.width setup.map.height before.ore →
    Steps setup clients next_id before.actors a →
    IsActivityOf setup.map (kind_of setup.rules a.kind) (Harvest cell timer waits) →
    IsHarvested setup clients next_id before (after_harvest setup built before a cell timer waits)
unfolding after_harvest
harvest_is setup built clients next_id before a cell timer waits map size steps fits =
    harvest_by (nat_le (capacity_in (kind_of setup.rules a.kind).harvester) a.body.load)
    (not (has_ore (ore_at before.ore cell))) (same_cell a.cell cell) setup built clients next_id
    before a cell timer waits refl map size steps fits

unloading_by :
    (whole : Bool) (setup : Setup) (clients next_id : ℕ) (before : Harvested) (a : Actor)
    (value : ℕ) (home : CPos) (timer waits : ℕ) →
    nat_le (unload_delay_in (kind_of setup.rules a.kind).harvester) (timer + 1) ≡ whole →
    Steps setup clients next_id before.actors a →
    IsActivityOf setup.map (kind_of setup.rules a.kind) (Deliver home timer waits) →
    IsHarvested setup clients next_id before (
    if whole
    then record before {
      actors =
          changed_at before.actors a.id
          (λ (b : Actor). with_load (b.body.load - 1) (with_first (Deliver home 0 waits) b));
      cash = paid_to before.cash a.body.owner value;
    }
    else with_actors before
    (changed_at before.actors a.id (with_first (Deliver home (timer + 1) waits))))
unloading_by true setup clients next_id before a value home timer waits is steps fits =
    let held = (body_of setup clients next_id a steps.sound).load in
    record {
      sound =
          load_sound setup clients next_id before.actors a (λ n. n - 1) (Deliver home 0 waits) steps
          (omega arith)
          (fits.0, fits.1, omega arith);
      ore = same_ore before.ore;
      cash = paid_keeps before.cash a.body.owner value;
    }
unloading_by false setup clients next_id before a value home timer waits is steps fits =
    let below : timer + 1 < unload_delay_in (kind_of setup.rules a.kind).harvester =
    leb-false _ (timer + 1) is in
    only_actors setup clients next_id before
    (changed_at before.actors a.id (with_first (Deliver home (timer + 1) waits)))
    (first_sound setup clients next_id before.actors a (Deliver home (timer + 1) waits) steps
    (fits.0, fits.1, omega arith))

beside_by :
    (beside : Bool) (setup : Setup) (built : Grid Bool) (clients next_id : ℕ) (before : Harvested)
    (a refinery : Actor) (home : CPos) (timer waits : ℕ) →
    IsMapFor setup.rules setup.map → Steps setup clients next_id before.actors a →
    IsActivityOf setup.map (kind_of setup.rules a.kind) (Deliver home timer waits) →
    IsHarvested setup clients next_id before (
    if beside
    then after_unloading before a (kind_of setup.rules a.kind)
    (bale_value_in (kind_of setup.rules refinery.kind).refinery) home timer waits
    else with_actors before
    (gone_towards setup built before.actors a refinery.cell waits (Deliver home timer)))
beside_by true setup built clients next_id before a refinery home timer waits map steps fits =
    unloading_by (nat_le (unload_delay_in (kind_of setup.rules a.kind).harvester) (timer + 1)) setup
    clients next_id before a
    (bale_value_in (kind_of setup.rules refinery.kind).refinery) home timer waits refl steps fits
beside_by false setup built clients next_id before a refinery home timer waits map steps fits =
    only_actors setup clients next_id before _
    (towards_sound setup built clients next_id before.actors a refinery.cell waits
    (Deliver home timer) map fits.1.patience steps
    (gathers_moves (kind_of setup.rules a.kind) fits.0)
    (λ more few. (fits.0, record { on_map = fits.1.on_map; patience = few }, fits.2)))

delivered_by :
    (setup : Setup) (built : Grid Bool) (clients next_id : ℕ) (before : Harvested) (a : Actor)
    (home : CPos) (timer waits : ℕ) (found : Option Actor) →
    IsMapFor setup.rules setup.map → Steps setup clients next_id before.actors a →
    IsActivityOf setup.map (kind_of setup.rules a.kind) (Deliver home timer waits) →
    IsHarvested setup clients next_id before
    (delivered_to setup built before a home timer waits found)
delivered_by setup built clients next_id before a home timer waits None map steps fits =
    only_actors setup clients next_id before _
    (popped_sound setup clients next_id before.actors a steps)
delivered_by setup built clients next_id before a home timer waits (Some refinery) map steps fits =
    beside_by (is_beside a.cell refinery.cell) setup built clients next_id before a refinery home
    timer waits map steps fits

deliver_by :
    (empty : Bool) (setup : Setup) (built : Grid Bool) (clients next_id : ℕ) (before : Harvested)
    (a : Actor) (home : CPos) (timer waits : ℕ) →
    IsMapFor setup.rules setup.map → Steps setup clients next_id before.actors a →
    IsActivityOf setup.map (kind_of setup.rules a.kind) (Deliver home timer waits) →
    IsHarvested setup clients next_id before (
    if empty
    then with_actors before (changed_at before.actors a.id (with_first (Harvest home 0 0)))
    else delivered_to setup built before a home timer waits
    (nearest_refinery setup.rules before.actors a))
deliver_by true setup built clients next_id before a home timer waits map steps fits =
    only_actors setup clients next_id before _
    (first_sound setup clients next_id before.actors a (Harvest home 0 0) steps
    (fits.0, record { on_map = fits.1.on_map; patience = omega arith }, omega arith))
deliver_by false setup built clients next_id before a home timer waits map steps fits =
    delivered_by setup built clients next_id before a home timer waits
    (nearest_refinery setup.rules before.actors a) map steps fits

-- The step of a Deliver.
pub deliver_is :
    (setup : Setup) (built : Grid Bool) (clients next_id : ℕ) (before : Harvested) (a : Actor)
    (home : CPos) (timer waits : ℕ) →
    IsMapFor setup.rules setup.map → Steps setup clients next_id before.actors a →
    IsActivityOf setup.map (kind_of setup.rules a.kind) (Deliver home timer waits) →
    IsHarvested setup clients next_id before (after_deliver setup built before a home timer waits)
unfolding after_deliver
deliver_is setup built clients next_id before a home timer waits map steps fits =
    deliver_by (a.body.load == 0) setup built clients next_id before a home timer waits map steps
    fits
