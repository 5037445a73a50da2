-- The cases of a step towards a cell.
use Rattle.std.proofs.Common.{◌≡◌, ◌≢◌, ℕ, ◌<◌, ◌*◌, Bool, true, false, ◌&&◌, cond, List, Option, Some, None, inl, inr, refl, sym, ap, ◌∙◌, arith}
use Rattle.std.proofs.lemmas.Bool.Decides.{eqb_tells, nat_tests}
use Rattle.world_units.specs.declared.cell.CPos.{CPos}
use Rattle.activities.specs.declared.activity.Activity.{Activity}
use Rattle.activities.specs.declared.activity.Activity.TheVariants.{Move}
use Rattle.world_units.specs.Cells.{same_cell}
use Rattle.world_units.specs.Angles.{dir_angle_of}
use Rattle.world_units.specs.Directions.{step_of}
use Rattle.world_units.specs.Turning.{turn_of}
use Rattle.rule_traits.specs.declared.kind.Kind.{Kind}
use Rattle.rule_traits.specs.declared.trait_fields.Costs.{Costs}
use Rattle.game_model.specs.declared.actor.Actor.{Actor}
use Rattle.game_model.specs.ActorChanges.{changed_at, with_body}
use Rattle.game_model.specs.BestDirection.{best_dir_of}
use Rattle.game_model.specs.Grid.{Grid, IsOn, is_on}
use Rattle.game_model.specs.Setup.{Setup}
use Rattle.game_model.specs.Walks.{land_of, entry_cost_of, step_cost_of, IsBestDirection}
use Rattle.game_model.specs.World.{actor_of}
use Rattle.game_model.specs.declared.map.Map.{Map}
use Rattle.game_model.specs.Kinds.{kind_of, turning_in, costs_in}
use Rattle.game_tick.specs.declared.moving.Moving.{Moving}
use Rattle.game_tick.specs.declared.moving.Moving.TheVariants.{Going, GivenUp}
use Rattle.game_tick.specs.Moving.{Moved, after_move, gone_on, moved_by_id, moved_in, moved_into, moved_towards}
use Rattle.game_tick.specs.Acts.{popped}
use Rattle.game_model.proofs.FoundLemmas.{changed_none, found_id}
use Rattle.actor_table.specs.Table.{Table}
use Rattle.grid_routes.specs.Routing.{Routing}
use Rattle.grid_routes.specs.EntryCosts.{land_over}
use Rattle.motion.specs.Ground.{SeesMap}
use Rattle.motion.specs.Steps.{IsMoved, waits_of, with_waits, gone_by_id, after_move_by_id}

-- The step of the actor that is found, by its best direction.
pub stepped : (setup : Setup) (built : Grid Bool) (actors : List Actor) (id : ℕ) (goal : CPos) (waits : ℕ) (a : Actor) (costs : Costs) (best : Option ℕ) → Some a ≡ actor_of actors id → costs ≡ costs_in (kind_of setup.rules a.kind).mobile → best ≡ best_dir_of setup.map (land_of setup.map built costs goal) a.cell → moved_by_id setup built actors goal waits (actor_of actors id) ≡ moved_in (kind_of setup.rules a.kind) actors a waits best
unfolding moved_towards
stepped setup built actors id goal waits a costs best found same is = rw (← found) (rw is (rw same refl))

-- It turns.
pub turns : (t new : Table) (kind : Kind) (a : Actor) (waits d : ℕ) → a.body.facing ≢ dir_angle_of d → new ≡ record t { actors = with_body t.actors a.id (record a.body { facing = turn_of a.body.facing (dir_angle_of d) (turning_in kind.mobile) }) } → IsMoved t new (Going waits) (moved_in kind t.actors a waits (Some d))
turns t new kind a waits d differs given = elim (eqb_tells a.body.facing (dir_angle_of d)) [
  | inl hit ↦ absurd (differs hit.1)
  | inr miss ↦ rw miss.0 (record { actors = given; answer = refl })
]

-- It faces the next cell.
pub faces : (t new : Table) (kind : Kind) (a : Actor) (id waits d : ℕ) (next : CPos) (ended : Moving) → a.body.facing ≡ dir_angle_of d → Some next ≡ step_of a.cell d → a.id ≡ id → IsMoved t new ended (moved_into kind t.actors id waits d (Some next)) → IsMoved t new ended (moved_in kind t.actors a waits (Some d))
faces t new kind a id waits d next ended same enters named moved = elim (eqb_tells a.body.facing (dir_angle_of d)) [
  | inl hit ↦ rw hit.0 (rw (← enters) (rw named moved))
  | inr miss ↦ absurd (miss.1 same)
]

-- The best step enters a cell of the map.
step_cost_on : (even free on : Bool) (entry_cost : ℕ) → 0 < cond even (5 * cond on entry_cost 0) (cond free (7 * cond on entry_cost 0) 0) → on ≡ true
step_cost_on true free true entry_cost some = refl
step_cost_on true free false entry_cost some = absurd (omega arith)
step_cost_on false free true entry_cost some = refl
step_cost_on false true false entry_cost some = absurd (omega arith)
step_cost_on false false false entry_cost some = absurd (omega arith)

and_first : (x y : Bool) → (x && y) ≡ true → x ≡ true
and_first true y both = refl
and_first false y both = absurd (cc)

on_map : (w h : ℕ) (p : CPos) → is_on w h p ≡ true → IsOn w h p
on_map w h p on = record { column = grind (arith, nat_tests); row = grind (arith, nat_tests) }

entered_on : (map : Map) (built : Grid Bool) (costs : Costs) (goal from next : CPos) (d : ℕ) → IsBestDirection (land_of map built costs goal) from (Some d) → Some next ≡ step_of from d → IsOn map.terrain.width map.terrain.height next
unfolding step_cost_of entry_cost_of
entered_on map built costs goal from next d best enters =
    let step = best.leads.step in
    let same : Some best.leads.entered ≡ Some next = sym step.enters ∙ sym enters in
    let is : best.leads.entered ≡ next = cc in
    let some : 0 < step_cost_of (entry_cost_of map.terrain built costs goal) from d best.leads.entered = rw step.cost step.allowed in
    let on = and_first (is_on map.terrain.width map.terrain.height best.leads.entered) _ (step_cost_on _ _ _ _ some) in
    rw (← is) (on_map map.terrain.width map.terrain.height best.leads.entered on)

pub entered_on_table : (map : Map) (built : Grid Bool) (t : Table) (r : Routing) (costs : Costs) (goal from next : CPos) (d : ℕ) → SeesMap map built t r → IsBestDirection (land_over r.terrain r.built costs goal) from (Some d) → Some next ≡ step_of from d → IsOn t.width t.height next
entered_on_table map built t r costs goal from next d fits best enters =
    let here : IsBestDirection (land_of map built costs goal) from (Some d) =
    rw (← fits.routes.terrain, ← fits.routes.blocks) best in
    let on = entered_on map built costs goal from next d here enters in
    let wide : t.width ≡ map.terrain.width = fits.wide ∙ sym fits.routes.sizes.terrain.width in
    let high : t.height ≡ map.terrain.height = fits.high ∙ sym fits.routes.sizes.terrain.height in
    rw (wide, high) on

-- After the step the activity goes on, or is dropped.
gone_from : (t mid new : Table) (id : ℕ) (activity : ℕ → Activity) (ended : Moving) (moved : Moved) → IsMoved t mid ended moved → new ≡ record mid { actors = gone_on mid.actors id activity ended } → new ≡ record t { actors = gone_on moved.actors id activity moved.answer }
gone_from t mid new id activity ended moved is given =
    given
    ∙ ap (λ (x : Table). record { width = x.width; height = x.height; actors = gone_on x.actors id activity ended }) is.actors
    ∙ ap (λ (e : Moving). record { width = t.width; height = t.height; actors = gone_on moved.actors id activity e }) is.answer

pub gone_either : (setup : Setup) (built : Grid Bool) (t mid new : Table) (id : ℕ) (goal : CPos) (activity : Activity) (ended : Moving) (found : Option Actor) → actor_of t.actors id ≡ found → IsMoved t mid ended (moved_by_id setup built t.actors goal (waits_of activity) found) → new ≡ record mid { actors = gone_on mid.actors id (with_waits activity) ended } → new ≡ record t { actors = gone_by_id setup built t.actors goal activity found }
gone_either setup built t mid new id goal activity ended None found is given =
    gone_from t mid new id (with_waits activity) ended (record { actors = t.actors; answer = GivenUp }) is given
    ∙ ap (λ xs. record { width = t.width; height = t.height; actors = xs }) (changed_none t.actors id popped found)
gone_either setup built t mid new id goal activity ended (Some a) found is given =
    let moved = moved_towards setup built t.actors a goal (waits_of activity) in
    gone_from t mid new id (with_waits activity) ended moved is given
    ∙ ap (λ n. record { width = t.width; height = t.height; actors = gone_on moved.actors n (with_waits activity) moved.answer }) (sym (found_id t.actors id a found))

-- A Move ends at its goal, and leads there from elsewhere.
pub move_ends : (setup : Setup) (built : Grid Bool) (t new : Table) (id : ℕ) (goal : CPos) (waits : ℕ) (a : Actor) → Some a ≡ actor_of t.actors id → same_cell a.cell goal ≡ true → new ≡ record t { actors = changed_at t.actors id popped } → new ≡ record t { actors = after_move_by_id setup built t.actors goal waits (actor_of t.actors id) }
unfolding after_move
move_ends setup built t new id goal waits a found there given =
    rw (← found) (rw there (rw (found_id t.actors id a (sym found)) given))

pub move_goes : (setup : Setup) (built : Grid Bool) (t new : Table) (id : ℕ) (goal : CPos) (waits : ℕ) (a : Actor) → Some a ≡ actor_of t.actors id → same_cell a.cell goal ≡ false → new ≡ record t { actors = gone_by_id setup built t.actors goal (Move goal waits) (actor_of t.actors id) } → new ≡ record t { actors = after_move_by_id setup built t.actors goal waits (actor_of t.actors id) }
unfolding after_move
move_goes setup built t new id goal waits a found elsewhere given =
    let gone = rw (← found) at given in
    rw (← found) (rw elsewhere gone)
