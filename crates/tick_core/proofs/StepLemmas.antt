-- A step leaves all actors as they are but the one that makes it, the one that it hits, and the one
-- that comes out.
use Rattle.std.proofs.Common.{◌≡◌, ◌≢◌, ℕ, ◌+◌, Bool, true, List, [], ◌∷◌, ◌++◌, Option, Some, None, refl, sym, subst, ◌∙◌, arith}
use Rattle.std.specs.Prelude.{◌-◌, ◌==◌, ◌&&◌, if◌then◌else◌, nat_le, nat_lt, not}
use Rattle.twister.specs.Place.{Place}
use Rattle.world_units.specs.declared.cell.CPos.{CPos}
use Rattle.world_units.specs.Angles.{dir_angle_of}
use Rattle.world_units.specs.Cells.{same_cell}
use Rattle.world_units.specs.Directions.{step_of}
use Rattle.activities.specs.declared.activity.Activity.{Activity}
use Rattle.activities.specs.declared.activity.Activity.TheVariants.{Move, Attack, Harvest, Deliver}
use Rattle.rule_traits.specs.declared.kind.Kind.{Kind}
use Rattle.rule_traits.specs.Rules.{moves}
use Rattle.game_model.specs.declared.actor.Actor.{Actor}
use Rattle.game_model.specs.declared.actor.Leg.{Leg}
use Rattle.game_model.specs.declared.builds.Build.{Build}
use Rattle.game_model.specs.declared.world.World.{World}
use Rattle.game_model.specs.ActorChanges.{changed_at}
use Rattle.game_model.specs.BestDirection.{best_dir_of}
use Rattle.game_model.specs.Buildings.{neighbour_of}
use Rattle.game_model.specs.Grid.{Grid}
use Rattle.game_model.specs.OreRows.{has_ore}
use Rattle.game_model.specs.Setup.{Setup}
use Rattle.game_model.specs.Kinds.{capacity_in, load_delay_in, unload_delay_in, kind_of, costs_in}
use Rattle.game_model.specs.Walks.{land_of}
use Rattle.game_model.specs.World.{is_occupied, living_of}
use Rattle.game_tick.specs.declared.moving.Moving.{Moving}
use Rattle.game_tick.specs.declared.moving.Moving.TheVariants.{Going, GivenUp}
use Rattle.game_tick.specs.Acts.{popped, with_first}
use Rattle.game_tick.specs.Attacking.{Fought, after_attack, fought_with, hit_by, is_in_range, points_of, reloading}
use Rattle.game_tick.specs.Building.{Built, after_build, built_first, came_out, exit_of, finished, has_room}
use Rattle.game_tick.proofs.ChangesLemmas.{id_of_living}
use Rattle.game_tick.specs.Harvesting.{Harvested, after_deliver, after_harvest, after_loading, after_search, after_unloading, delivered_to, is_beside, nearest_refinery}
use Rattle.game_tick.specs.Moving.{Moved, after_move, gone_on, gone_towards, moved_in, moved_into, moved_towards, set_out}
use Rattle.game_tick.specs.Nearest.{nearest_ore, ore_at}
use Rattle.game_tick.specs.Turn.{after_first, after_step, after_way, blocks_of, dice_of, harvest_of, reloaded, step_if, with_build, with_reload, with_way}
use Rattle.tick_core.specs.Scene.{prepared, prepared_if}
use Rattle.tick_core.specs.Telling.{target_in, target_of}
use Rattle.tick_core.specs.Touched.{GrowsBut, SameBut, is_among}
use Rattle.tick_core.proofs.ChoiceLemmas.{by_if}
use Rattle.tick_core.proofs.TouchedLemmas.{same_all, same_changed, same_grows, same_pushed, same_then, same_then_grows}

module _ (ids : List ℕ) (actors : List Actor) (a : Actor) (among : is_among ids a.id ≡ true) where
  abbrev MovedSame : Moved → Type 0
  MovedSame m = SameBut ids actors m.actors

  into_same :
      (kind : Kind) (waits d : ℕ) (to : Option CPos) → MovedSame (moved_into kind actors a.id waits d to)
  into_same kind waits d None = same_all ids actors
  into_same kind waits d (Some next) =
      by_if MovedSame (is_occupied actors next) _ _ (same_all ids actors)
      (same_changed ids actors a.id (set_out kind d next) among (λ x. refl))

  in_same :
      (kind : Kind) (waits : ℕ) (best : Option ℕ) → MovedSame (moved_in kind actors a waits best)
  in_same kind waits None = same_all ids actors
  in_same kind waits (Some d) =
      by_if MovedSame (a.body.facing == dir_angle_of d) _ _ (into_same kind waits d (step_of a.cell d))
      (same_changed ids actors a.id _ among (λ x. refl))

  moved_same :
      (setup : Setup) (built : Grid Bool) (goal : CPos) (waits : ℕ) →
      MovedSame (moved_towards setup built actors a goal waits)
  unfolding moved_towards
  moved_same setup built goal waits =
      in_same (kind_of setup.rules a.kind) waits
      (best_dir_of setup.map (land_of setup.map built (costs_in (kind_of setup.rules a.kind).mobile) goal) a.cell)

gone_same :
    (ids : List ℕ) (actors : List Actor) (id : ℕ) (activity : ℕ → Activity) (answer : Moving) →
    is_among ids id ≡ true → SameBut ids actors (gone_on actors id activity answer)
gone_same ids actors id activity (Going waits) among =
    same_changed ids actors id (with_first (activity waits)) among (λ x. refl)
gone_same ids actors id activity GivenUp among = same_changed ids actors id popped among (λ x. refl)

module _ (ids : List ℕ) (actors : List Actor) (a : Actor) (among : is_among ids a.id ≡ true) where
  towards_same :
      (setup : Setup) (built : Grid Bool) (goal : CPos) (waits : ℕ) (activity : ℕ → Activity) →
      SameBut ids actors (gone_towards setup built actors a goal waits activity)
  towards_same setup built goal waits activity =
      let moved : Moved = moved_towards setup built actors a goal waits in
      same_then ids actors moved.actors (gone_on moved.actors a.id activity moved.answer)
      (moved_same ids actors a among setup built goal waits)
      (gone_same ids moved.actors a.id activity moved.answer among)

  abbrev ListSame : List Actor → Type 0
  ListSame l = SameBut ids actors l

  move_same :
      (setup : Setup) (built : Grid Bool) (goal : CPos) (waits : ℕ) →
      ListSame (after_move setup built actors a goal waits)
  unfolding after_move
  move_same setup built goal waits =
      by_if ListSame (same_cell a.cell goal) _ _ (same_changed ids actors a.id popped among (λ x. refl))
      (towards_same setup built goal waits (Move goal))

  -- Who shoots draws a word, and hits the target.
  abbrev FoughtSame : Place → ℕ → Fought → Type 0
  FoughtSame dice target f =
      (f.dice.drawn ≢ dice.drawn → is_among ids target ≡ true) → SameBut ids actors f.actors

  fought_same :
      (setup : Setup) (built : Grid Bool) (dice : Place) (kind : Kind) (target waits : ℕ) (found : Option Actor) →
      living_of actors target ≡ found → FoughtSame dice target (fought_with setup built dice actors a kind waits found)
  fought_same setup built dice kind target waits None found = λ hits.
      same_changed ids actors a.id popped among (λ x. refl)
  fought_same setup built dice kind target waits (Some t) found =
      by_if (FoughtSame dice target) (is_in_range kind a t) _ _
      (by_if (FoughtSame dice target) (a.body.reload == 0) _ _
      (λ hits.
      same_then ids actors (changed_at actors t.id (hit_by (points_of kind dice))) _
      (same_changed ids actors t.id (hit_by (points_of kind dice)) (subst (λ n. is_among ids n ≡ true) (sym (id_of_living actors target t found)) (hits (λ is. omega (arith, is)))) (λ x. refl))
      (same_changed ids (changed_at actors t.id (hit_by (points_of kind dice))) a.id (reloading kind) among (λ x. refl)))
      (λ hits. same_all ids actors))
      (by_if (FoughtSame dice target) (moves kind) _ _
      (λ hits. towards_same setup built t.cell waits (Attack t.id))
      (λ hits. same_changed ids actors a.id popped among (λ x. refl)))

  attack_same :
      (setup : Setup) (built : Grid Bool) (dice : Place) (target waits : ℕ) →
      FoughtSame dice target (after_attack setup built dice actors a target waits)
  unfolding after_attack
  attack_same setup built dice target waits =
      fought_same setup built dice (kind_of setup.rules a.kind) target waits (living_of actors target) refl

module _ (ids : List ℕ) (before : Harvested) (a : Actor) (among : is_among ids a.id ≡ true) where
  abbrev BalesSame : Harvested → Type 0
  BalesSame h = SameBut ids before.actors h.actors

  loading_same :
      (kind : Kind) (cell : CPos) (timer waits : ℕ) → BalesSame (after_loading before a kind cell timer waits)
  loading_same kind cell timer waits =
      by_if BalesSame (nat_le (load_delay_in kind.harvester) (timer + 1)) _ _
      (same_changed ids before.actors a.id _ among (λ x. refl))
      (same_changed ids before.actors a.id _ among (λ x. refl))

  search_same : (cell : CPos) (found : Option CPos) → BalesSame (after_search before a cell found)
  search_same cell None =
      by_if (λ (l : List Actor). SameBut ids before.actors l) (nat_lt 0 a.body.load) _ _
      (same_changed ids before.actors a.id (with_first (Deliver cell 0 0)) among (λ x. refl))
      (same_changed ids before.actors a.id popped among (λ x. refl))
  search_same cell (Some nearest) =
      same_changed ids before.actors a.id (with_first (Harvest nearest 0 0)) among (λ x. refl)

  harvest_same :
      (setup : Setup) (built : Grid Bool) (cell : CPos) (timer waits : ℕ) →
      BalesSame (after_harvest setup built before a cell timer waits)
  unfolding after_harvest
  harvest_same setup built cell timer waits =
      by_if BalesSame (nat_le (capacity_in (kind_of setup.rules a.kind).harvester) a.body.load) _ _
      (same_changed ids before.actors a.id (with_first (Deliver cell 0 0)) among (λ x. refl))
      (by_if BalesSame (not (has_ore (ore_at before.ore cell))) _ _
      (search_same cell (nearest_ore before.ore a.cell))
      (by_if BalesSame (same_cell a.cell cell) _ _
      (loading_same (kind_of setup.rules a.kind) cell timer waits)
      (towards_same ids before.actors a among setup built cell waits (Harvest cell timer))))

  unloading_same :
      (kind : Kind) (value : ℕ) (home : CPos) (timer waits : ℕ) →
      BalesSame (after_unloading before a kind value home timer waits)
  unloading_same kind value home timer waits =
      by_if BalesSame (nat_le (unload_delay_in kind.harvester) (timer + 1)) _ _
      (same_changed ids before.actors a.id _ among (λ x. refl))
      (same_changed ids before.actors a.id _ among (λ x. refl))

  delivered_same :
      (setup : Setup) (built : Grid Bool) (home : CPos) (timer waits : ℕ) (found : Option Actor) →
      BalesSame (delivered_to setup built before a home timer waits found)
  delivered_same setup built home timer waits None =
      same_changed ids before.actors a.id popped among (λ x. refl)
  delivered_same setup built home timer waits (Some refinery) =
      by_if BalesSame (is_beside a.cell refinery.cell) _ _
      (unloading_same (kind_of setup.rules a.kind) _ home timer waits)
      (towards_same ids before.actors a among setup built refinery.cell waits (Deliver home timer))

  deliver_same :
      (setup : Setup) (built : Grid Bool) (home : CPos) (timer waits : ℕ) →
      BalesSame (after_deliver setup built before a home timer waits)
  unfolding after_deliver
  deliver_same setup built home timer waits =
      by_if BalesSame (a.body.load == 0) _ _
      (same_changed ids before.actors a.id (with_first (Harvest home 0 0)) among (λ x. refl))
      (delivered_same setup built home timer waits (nearest_refinery setup.rules before.actors a))

-- Who may be hit is among these where a word was drawn.
abbrev pub HitsAmong : List ℕ → (old new : World) → Option ℕ → Type 0
HitsAmong ids old new target =
    (t : ℕ) → target ≡ Some t → new.drawn ≢ old.drawn → is_among ids t ≡ true

module _ (ids : List ℕ) (setup : Setup) (w : World) (a : Actor) (among : is_among ids a.id ≡ true) where
  first_same :
      (acts : List Activity) → HitsAmong ids w (after_first setup w a acts) (target_in acts) →
      SameBut ids w.actors (after_first setup w a acts).actors
  first_same [] hits = same_all ids w.actors
  first_same (Move goal waits ∷ later) hits = move_same ids w.actors a among setup (blocks_of setup w.actors) goal waits
  first_same (Attack target waits ∷ later) hits =
      attack_same ids w.actors a among setup (blocks_of setup w.actors) (dice_of w) target waits (λ drawn. hits target refl drawn)
  first_same (Harvest cell timer waits ∷ later) hits =
      harvest_same ids (harvest_of w) a among setup (blocks_of setup w.actors) cell timer waits
  first_same (Deliver home timer waits ∷ later) hits =
      deliver_same ids (harvest_of w) a among setup (blocks_of setup w.actors) home timer waits

  leg_same :
      (leg : Option Leg) → HitsAmong ids w (after_way setup w a leg) (target_in a.body.acts) →
      SameBut ids w.actors (after_way setup w a leg).actors
  leg_same None hits = first_same a.body.acts hits
  leg_same (Some leg) hits = same_changed ids w.actors a.id _ among (λ x. refl)

pub way_same :
    (ids : List ℕ) (setup : Setup) (w : World) (id : ℕ) (found : Option Actor) → living_of w.actors id ≡ found →
    is_among ids id ≡ true → HitsAmong ids w (with_way setup w found) (target_of found) →
    SameBut ids w.actors (with_way setup w found).actors
way_same ids setup w id None found among hits = same_all ids w.actors
way_same ids setup w id (Some a) found among hits =
    leg_same ids setup w a (subst (λ n. is_among ids n ≡ true) (sym (id_of_living w.actors id a found)) among) a.body.leg hits

-- The unit that comes out has the next id.
module _ (ids : List ℕ) (setup : Setup) (actors : List Actor) (next_id : ℕ) (a : Actor) (among : is_among ids a.id ≡ true) where
  abbrev BuiltSame : Built → Type 0
  BuiltSame b = (b.next_id ≢ next_id → is_among ids next_id ≡ true) → GrowsBut ids actors b.actors

  out_same :
      (build : Build) (rest : List Build) (d : ℕ) (to : Option CPos) →
      BuiltSame (came_out setup actors next_id a build rest d to)
  out_same build rest d None = λ added. same_grows ids actors actors (same_all ids actors)
  out_same build rest d (Some p) = λ added.
      same_pushed ids actors (changed_at actors a.id _) _ (same_changed ids actors a.id _ among (λ x. refl))
      (added (λ is. omega (arith, is)))

  finished_same :
      (build : Build) (rest : List Build) (exit : Option ℕ) →
      BuiltSame (finished setup actors next_id a build rest exit)
  finished_same build rest None = λ added.
      same_grows ids actors _ (same_changed ids actors a.id _ among (λ x. refl))
  finished_same build rest (Some d) =
      out_same build rest d (neighbour_of setup.map.width setup.map.height a.cell d)

  built_same : (builds : List Build) → BuiltSame (built_first setup actors next_id a builds)
  built_same [] = λ added. same_grows ids actors actors (same_all ids actors)
  built_same (build ∷ rest) =
      by_if BuiltSame ((build.left - 1 == 0) && has_room actors next_id) _ _
      (finished_same build rest (exit_of setup actors (kind_of setup.rules build.kind) a.cell))
      (λ added. same_grows ids actors _ (same_changed ids actors a.id _ among (λ x. refl)))

  build_same : BuiltSame (after_build setup actors next_id a)
  unfolding after_build
  build_same = built_same a.body.builds

-- The next id is among these where it rose.
abbrev pub NewAmong : List ℕ → (old new : World) → Type 0
NewAmong ids old new = new.next_id ≢ old.next_id → is_among ids old.next_id ≡ true

with_build_same :
    (ids : List ℕ) (setup : Setup) (w : World) (id : ℕ) (found : Option Actor) → living_of w.actors id ≡ found →
    is_among ids id ≡ true → NewAmong ids w (with_build setup w found) →
    GrowsBut ids w.actors (with_build setup w found).actors
with_build_same ids setup w id None found among added = same_grows ids w.actors w.actors (same_all ids w.actors)
with_build_same ids setup w id (Some a) found among added =
    build_same ids setup w.actors w.next_id a (subst (λ n. is_among ids n ≡ true) (sym (id_of_living w.actors id a found)) among) added

prepared_by :
    (ids : List ℕ) (setup : Setup) (w : World) (id : ℕ) (found : Option Actor) → is_among ids id ≡ true →
    NewAmong ids w (prepared_if setup w id found) → GrowsBut ids w.actors (prepared_if setup w id found).actors
prepared_by ids setup w id None among added = same_grows ids w.actors w.actors (same_all ids w.actors)
prepared_by ids setup w id (Some a) among added =
    let reload : World = with_reload w id in
    same_then_grows ids w.actors reload.actors (with_build setup reload (living_of reload.actors id)).actors
    (same_changed ids w.actors id reloaded among (λ x. refl))
    (with_build_same ids setup reload id (living_of reload.actors id) refl among added)

pub prepared_same :
    (ids : List ℕ) (setup : Setup) (w : World) (id : ℕ) → is_among ids id ≡ true →
    NewAmong ids w (prepared setup w id) → GrowsBut ids w.actors (prepared setup w id).actors
prepared_same ids setup w id among added = prepared_by ids setup w id (living_of w.actors id) among added

-- The step is its parts, one after the other.
step_by :
    (setup : Setup) (w : World) (id : ℕ) (found : Option Actor) → living_of w.actors id ≡ found →
    with_way setup (prepared_if setup w id found) (living_of (prepared_if setup w id found).actors id)
    ≡ step_if setup w id found
step_by setup w id None found = rw found refl
step_by setup w id (Some a) found = refl

pub step_is :
    (setup : Setup) (w : World) (id : ℕ) →
    with_way setup (prepared setup w id) (living_of (prepared setup w id).actors id) ≡ after_step setup w id
unfolding after_step
step_is setup w id = step_by setup w id (living_of w.actors id) refl
