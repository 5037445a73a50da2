-- The cases of the step of a harvester.
use Rattle.std.proofs.Common.{◌≡◌, ◌≢◌, ℕ, ◌+◌, ◌-◌, Bool, true, false, List, Some, None, inl, inr, refl, sym, ap, ◌∙◌}
use Rattle.std.specs.Prelude.{nat_le, nat_lt}
use Rattle.std.specs.List.{filter}
use Rattle.std.proofs.lemmas.Bool.Decides.{eqb_tells}
use Rattle.std.proofs.lemmas.List.Elements.{All-filter}
use Rattle.world_units.specs.declared.cell.CPos.{CPos}
use Rattle.world_units.specs.Cells.{dist_sq_of, same_cell}
use Rattle.activities.specs.declared.activity.Activity.{Activity}
use Rattle.activities.specs.declared.activity.Activity.TheVariants.{Harvest, Deliver}
use Rattle.rule_traits.specs.declared.kind.Kind.{Kind}
use Rattle.game_model.specs.declared.actor.Actor.{Actor}
use Rattle.game_model.specs.ActorChanges.{changed_at}
use Rattle.game_model.specs.Grid.{Grid, IsOn, with_cell}
use Rattle.game_model.specs.OreRows.{has_ore}
use Rattle.game_model.specs.Setup.{Setup}
use Rattle.game_model.specs.Kinds.{capacity_in, load_delay_in, unload_delay_in}
use Rattle.game_model.specs.World.{actor_of}
use Rattle.game_model.specs.Kinds.{bale_value_in, kind_of}
use Rattle.game_tick.specs.Acts.{popped, with_first}
use Rattle.game_tick.specs.Harvesting.{after_deliver, after_harvest, after_loading, after_search, after_unloading, is_beside, is_refinery_for, nearest_refinery, paid_to, with_load}
use Rattle.game_tick.proofs.OreLemmas.{least_holds}
use Rattle.game_tick.specs.Nearest.{nearest_ore, ore_at}
use Rattle.game_model.proofs.FoundLemmas.{changed_as, changed_twice, found_id}
use Rattle.actor_table.specs.Table.{Table, IsTable}
use Rattle.motion.specs.Steps.{gone_by_id}
use Rattle.harvest.specs.Steps.{IsHarvested}

-- The nearest refinery stands on the map of the table.
pub refinery_on : (rules : List Kind) (t : Table) (a refinery : Actor) → IsTable t → Some refinery ≡ nearest_refinery rules t.actors a → IsOn t.width t.height refinery.cell
unfolding nearest_refinery
refinery_on rules t a refinery valid nearest =
    least_holds (λ (x : Actor). IsOn t.width t.height x.cell) (λ (other : Actor). dist_sq_of a.cell other.cell) (filter (is_refinery_for rules a) t.actors) refinery
    (All-filter (is_refinery_for rules a) (λ (x : Actor). IsOn t.width t.height x.cell) t.actors valid.on_map) (sym nearest)

-- Another first activity, and then another load.
pub carried : (t mid new : Table) (id load : ℕ) (act : Activity) → mid ≡ record t { actors = changed_at t.actors id (with_first act) } → new ≡ record mid { actors = changed_at mid.actors id (with_load load) } → new ≡ record t { actors = changed_at t.actors id (λ (b : Actor). with_load load (with_first act b)) }
carried t mid new id load act first second =
    second ∙ ap (λ (x : Table). record { width = x.width; height = x.height; actors = changed_at x.actors id (with_load load) }) first
    ∙ ap (λ xs. record { width = t.width; height = t.height; actors = xs }) (changed_twice t.actors id (with_first act) (with_load load) (λ x. refl))

-- A load that is told of the actor that is found, as one that is told of each.
told : (t new : Table) (id : ℕ) (a : Actor) (act : Activity) (count : ℕ → ℕ) → IsTable t → actor_of t.actors id ≡ Some a → new ≡ record t { actors = changed_at t.actors id (λ (b : Actor). with_load (count a.body.load) (with_first act b)) } → new ≡ record t { actors = changed_at t.actors id (λ (b : Actor). with_load (count b.body.load) (with_first act b)) }
told t new id a act count valid found given =
    given ∙ ap (λ xs. record { width = t.width; height = t.height; actors = xs })
    (changed_as t.actors id a (λ (b : Actor). with_load (count a.body.load) (with_first act b)) (λ (b : Actor). with_load (count b.body.load) (with_first act b)) valid.rise found refl)

module _ (t new : Table) (ore : Grid ℕ) (cash : List ℕ) (id : ℕ) (a : Actor) (found : actor_of t.actors id ≡ Some a) where
  -- There is other ore.
  pub search_turns : (cell nearest : CPos) → Some nearest ≡ nearest_ore ore a.cell → new ≡ record t { actors = changed_at t.actors id (with_first (Harvest nearest 0 0)) } → IsHarvested t new ore cash (after_search (record { actors = t.actors; ore = ore; cash = cash }) a cell (nearest_ore ore a.cell))
  search_turns cell nearest is given =
      rw (← is) (rw (found_id t.actors id a found) (record { actors = given; ore = refl; cash = refl }))

  -- There is none, and something is loaded.
  pub search_delivers : (cell : CPos) → None ≡ nearest_ore ore a.cell → nat_lt 0 a.body.load ≡ true → new ≡ record t { actors = changed_at t.actors id (with_first (Deliver cell 0 0)) } → IsHarvested t new ore cash (after_search (record { actors = t.actors; ore = ore; cash = cash }) a cell (nearest_ore ore a.cell))
  search_delivers cell is some given =
      rw (← is) (rw some (rw (found_id t.actors id a found) (record { actors = given; ore = refl; cash = refl })))

  -- There is none, and nothing is loaded.
  pub search_ends : (cell : CPos) → None ≡ nearest_ore ore a.cell → nat_lt 0 a.body.load ≡ false → new ≡ record t { actors = changed_at t.actors id popped } → IsHarvested t new ore cash (after_search (record { actors = t.actors; ore = ore; cash = cash }) a cell (nearest_ore ore a.cell))
  search_ends cell is none given =
      rw (← is) (rw none (rw (found_id t.actors id a found) (record { actors = given; ore = refl; cash = refl })))

  -- A bale is loaded.
  pub loads : (kind : Kind) (cell : CPos) (timer waits : ℕ) (left : Grid ℕ) → IsTable t → nat_le (load_delay_in kind.harvester) (timer + 1) ≡ true → left ≡ with_cell ore cell (ore_at ore cell - 1) → new ≡ record t { actors = changed_at t.actors id (λ (b : Actor). with_load (a.body.load + 1) (with_first (Harvest cell 0 waits) b)) } → IsHarvested t new left cash (after_loading (record { actors = t.actors; ore = ore; cash = cash }) a kind cell timer waits)
  loads kind cell timer waits left valid over taken given =
      rw over (rw (found_id t.actors id a found) (record { actors = told t new id a (Harvest cell 0 waits) (λ n. n + 1) valid found given; ore = taken; cash = refl }))

  -- A bale takes more turns.
  pub load_waits : (kind : Kind) (cell : CPos) (timer waits : ℕ) → nat_le (load_delay_in kind.harvester) (timer + 1) ≡ false → new ≡ record t { actors = changed_at t.actors id (with_first (Harvest cell (timer + 1) waits)) } → IsHarvested t new ore cash (after_loading (record { actors = t.actors; ore = ore; cash = cash }) a kind cell timer waits)
  load_waits kind cell timer waits more given =
      rw more (rw (found_id t.actors id a found) (record { actors = given; ore = refl; cash = refl }))

  -- A bale is unloaded.
  pub unloads : (kind : Kind) (value : ℕ) (home : CPos) (timer waits : ℕ) (paid : List ℕ) → IsTable t → nat_le (unload_delay_in kind.harvester) (timer + 1) ≡ true → paid ≡ paid_to cash a.body.owner value → new ≡ record t { actors = changed_at t.actors id (λ (b : Actor). with_load (a.body.load - 1) (with_first (Deliver home 0 waits) b)) } → IsHarvested t new ore paid (after_unloading (record { actors = t.actors; ore = ore; cash = cash }) a kind value home timer waits)
  unloads kind value home timer waits paid valid over got given =
      rw over (rw (found_id t.actors id a found) (record { actors = told t new id a (Deliver home 0 waits) (λ n. n - 1) valid found given; ore = refl; cash = got }))

  -- A bale takes more turns.
  pub unload_waits : (kind : Kind) (value : ℕ) (home : CPos) (timer waits : ℕ) → nat_le (unload_delay_in kind.harvester) (timer + 1) ≡ false → new ≡ record t { actors = changed_at t.actors id (with_first (Deliver home (timer + 1) waits)) } → IsHarvested t new ore cash (after_unloading (record { actors = t.actors; ore = ore; cash = cash }) a kind value home timer waits)
  unload_waits kind value home timer waits more given =
      rw more (rw (found_id t.actors id a found) (record { actors = given; ore = refl; cash = refl }))

  module _ (setup : Setup) (built : Grid Bool) (cell : CPos) (timer waits : ℕ) where
    -- The actor is full.
    pub harvest_full : nat_le (capacity_in (kind_of setup.rules a.kind).harvester) a.body.load ≡ true → new ≡ record t { actors = changed_at t.actors id (with_first (Deliver cell 0 0)) } → IsHarvested t new ore cash (after_harvest setup built (record { actors = t.actors; ore = ore; cash = cash }) a cell timer waits)
    unfolding after_harvest
    harvest_full full given =
        rw full (rw (found_id t.actors id a found) (record { actors = given; ore = refl; cash = refl }))

    -- The cell has no ore.
    pub harvest_turns : nat_le (capacity_in (kind_of setup.rules a.kind).harvester) a.body.load ≡ false → has_ore (ore_at ore cell) ≡ false → IsHarvested t new ore cash (after_search (record { actors = t.actors; ore = ore; cash = cash }) a cell (nearest_ore ore a.cell)) → IsHarvested t new ore cash (after_harvest setup built (record { actors = t.actors; ore = ore; cash = cash }) a cell timer waits)
    unfolding after_harvest
    harvest_turns room none done = rw room (rw none done)

    -- The actor is on the cell.
    pub harvest_loads : (left : Grid ℕ) → nat_le (capacity_in (kind_of setup.rules a.kind).harvester) a.body.load ≡ false → has_ore (ore_at ore cell) ≡ true → same_cell a.cell cell ≡ true → IsHarvested t new left cash (after_loading (record { actors = t.actors; ore = ore; cash = cash }) a (kind_of setup.rules a.kind) cell timer waits) → IsHarvested t new left cash (after_harvest setup built (record { actors = t.actors; ore = ore; cash = cash }) a cell timer waits)
    unfolding after_harvest
    harvest_loads left room some there done = rw room (rw some (rw there done))

    -- The actor is elsewhere.
    pub harvest_goes : nat_le (capacity_in (kind_of setup.rules a.kind).harvester) a.body.load ≡ false → has_ore (ore_at ore cell) ≡ true → same_cell a.cell cell ≡ false → new ≡ record t { actors = gone_by_id setup built t.actors cell (Harvest cell timer waits) (actor_of t.actors id) } → IsHarvested t new ore cash (after_harvest setup built (record { actors = t.actors; ore = ore; cash = cash }) a cell timer waits)
    unfolding after_harvest
    harvest_goes room some elsewhere given =
        let gone = rw found at given in
        rw room (rw some (rw elsewhere (record { actors = gone; ore = refl; cash = refl })))

    -- Nothing is loaded.
    pub deliver_empty : a.body.load ≡ 0 → new ≡ record t { actors = changed_at t.actors id (with_first (Harvest cell 0 0)) } → IsHarvested t new ore cash (after_deliver setup built (record { actors = t.actors; ore = ore; cash = cash }) a cell timer waits)
    unfolding after_deliver
    deliver_empty empty given = elim (eqb_tells a.body.load 0) [
      | inl hit ↦ rw hit.0 (rw (found_id t.actors id a found) (record { actors = given; ore = refl; cash = refl }))
      | inr miss ↦ absurd (miss.1 empty)
    ]

    -- There is no refinery.
    pub deliver_ends : a.body.load ≢ 0 → None ≡ nearest_refinery setup.rules t.actors a → new ≡ record t { actors = changed_at t.actors id popped } → IsHarvested t new ore cash (after_deliver setup built (record { actors = t.actors; ore = ore; cash = cash }) a cell timer waits)
    unfolding after_deliver
    deliver_ends some none given = elim (eqb_tells a.body.load 0) [
      | inl hit ↦ absurd (some hit.1)
      | inr miss ↦ rw miss.0 (rw (← none) (rw (found_id t.actors id a found) (record { actors = given; ore = refl; cash = refl })))
    ]

    module _ (refinery : Actor) (nearest : Some refinery ≡ nearest_refinery setup.rules t.actors a) (some : a.body.load ≢ 0) where
      -- The actor is beside it.
      pub deliver_unloads : (paid : List ℕ) → is_beside a.cell refinery.cell ≡ true → IsHarvested t new ore paid (after_unloading (record { actors = t.actors; ore = ore; cash = cash }) a (kind_of setup.rules a.kind) (bale_value_in (kind_of setup.rules refinery.kind).refinery) cell timer waits) → IsHarvested t new ore paid (after_deliver setup built (record { actors = t.actors; ore = ore; cash = cash }) a cell timer waits)
      unfolding after_deliver
      deliver_unloads paid beside done = elim (eqb_tells a.body.load 0) [
        | inl hit ↦ absurd (some hit.1)
        | inr miss ↦ rw miss.0 (rw (← nearest) (rw beside done))
      ]

      -- The actor is farther away.
      pub deliver_goes : is_beside a.cell refinery.cell ≡ false → new ≡ record t { actors = gone_by_id setup built t.actors refinery.cell (Deliver cell timer waits) (actor_of t.actors id) } → IsHarvested t new ore cash (after_deliver setup built (record { actors = t.actors; ore = ore; cash = cash }) a cell timer waits)
      unfolding after_deliver
      deliver_goes far given = elim (eqb_tells a.body.load 0) [
        | inl hit ↦ absurd (some hit.1)
        | inr miss ↦
            let gone = rw found at given in
            rw miss.0 (rw (← nearest) (rw far (record { actors = gone; ore = refl; cash = refl })))
      ]
