-- Proofs that steps of actors and turns keep a world valid.
use Rattle.std.specs.Prelude.{◌≡◌, ℕ, zero, suc, ◌+◌, ◌*◌, ◌≤◌, true}
use Rattle.std.specs.Prelude.{List, [], ◌∷◌, length, Option, Some, None, refl, get_or}
use Rattle.std.specs.List.{All, filter}
use Rattle.std.proofs.Common.{sym, ◌∙◌, ap, subst, inl, arith}
use Rattle.std.proofs.lemmas.Bool.{ltb-true}
use Rattle.std.proofs.lemmas.List.Elements.{All-filter, All-from_get_or, All-head, filter_passes}
use Rattle.activities.specs.declared.activity.Activity.{Activity}
use Rattle.activities.specs.declared.activity.Activity.TheVariants.{Move, Attack, Harvest, Deliver}
use Rattle.rule_traits.specs.declared.kind.Kind.{Kind}
use Rattle.rule_traits.specs.Rules.{hp_of, kind_at}
use Rattle.game_model.specs.declared.actor.Actor.{Actor}
use Rattle.game_model.specs.declared.actor.Leg.{Leg}
use Rattle.game_model.specs.declared.limits.TheConstants.{MAX_ACTORS, MAX_CASH}
use Rattle.game_model.specs.declared.world.World.{World}
use Rattle.game_model.specs.ActorChanges.{changed_at}
use Rattle.game_model.specs.Setup.{Setup}
use Rattle.game_model.specs.ValidMap.{IsMapFor}
use Rattle.game_tick.proofs.ValidWorldLemmas.{filter_ready, wider}
use Rattle.game_model.specs.ValidWorld.{IsActivityOf, IsHealthOf, IsHealthy, IsWorldWithin}
use Rattle.game_model.specs.World.{clients_of, ids_of, is_alive, living_of}
use Rattle.game_model.specs.Kinds.{kind_of}
use Rattle.game_tick.specs.Attacking.{after_attack}
use Rattle.game_tick.specs.Building.{after_build}
use Rattle.game_tick.specs.Harvesting.{Harvested, after_deliver, after_harvest}
use Rattle.game_tick.specs.MidTurn.{IsMidTurn}
use Rattle.game_tick.specs.Moving.{after_move}
use Rattle.game_tick.specs.Tick.{after_turns}
use Rattle.game_tick.specs.Turn.{after_activity, after_first, after_step, after_steps, after_turn}
use Rattle.game_tick.specs.Turn.{after_way, blocks_of, buried}
use Rattle.game_tick.specs.Turn.{dice_of, harvest_of, reloaded, step_if, with_build, with_harvested}
use Rattle.game_tick.specs.Turn.{with_reload, with_way}
use Rattle.game_tick.proofs.ChangesLemmas.{changed, id_of_living, living_stands}
use Rattle.game_tick.proofs.AttackingLemmas.{attack_fought}
use Rattle.game_tick.proofs.BuildingLemmas.{build_sound}
use Rattle.game_tick.proofs.HarvestingLemmas.{IsHarvested, deliver_is, harvest_is}
use Rattle.game_tick.proofs.OreLemmas.{ore_kept}
use Rattle.game_tick.proofs.MovingLemmas.{leg_sound, move_sound}
use Rattle.game_tick.proofs.SoundLemmas.{AreSound, IsHurt, Steps, all_sound, body_of, some_weaker}
use Rattle.game_tick.proofs.SoundLemmas.{sound_body}

-- More draws.
pub more_draws :
    (setup : Setup) (least most draws : ℕ) (w : World) → IsMidTurn setup least most draws w →
    IsMidTurn setup least most (draws + 1) w
more_draws setup least most draws w mid =
    record {
      ore = mid.ore;
      least_tick = mid.least_tick;
      most_tick = mid.most_tick;
      drawn = omega (arith, mid.drawn);
      pace = mid.pace;
      clients = mid.clients;
      cash = mid.cash;
      actors = mid.actors;
    }

-- Other actors, other numbers of draws, and another next id.
mid_with :
    (setup : Setup) (least most draws drawn next_id : ℕ) (w : World) (actors : List Actor) →
    IsMidTurn setup least most draws w → drawn ≤ draws + 1 →
    AreSound setup (clients_of w) next_id actors →
    IsMidTurn setup least most (draws + 1)
    (record w { actors = actors; drawn = drawn; next_id = next_id })
mid_with setup least most draws drawn next_id w actors mid few sound =
    record {
      ore = mid.ore;
      least_tick = mid.least_tick;
      most_tick = mid.most_tick;
      drawn = few;
      pace = mid.pace;
      clients = mid.clients;
      cash = mid.cash;
      actors = sound;
    }

mid_of :
    (setup : Setup) (least most draws next_id : ℕ) (w : World) (actors : List Actor) →
    IsMidTurn setup least most draws w → AreSound setup (clients_of w) next_id actors →
    IsMidTurn setup least most draws (record w { actors = actors; next_id = next_id })
mid_of setup least most draws next_id w actors mid sound =
    record {
      ore = mid.ore;
      least_tick = mid.least_tick;
      most_tick = mid.most_tick;
      drawn = mid.drawn;
      pace = mid.pace;
      clients = mid.clients;
      cash = mid.cash;
      actors = sound;
    }

-- The living actor of an id in a world in mid-turn.
pub living_steps :
    (setup : Setup) (least most draws : ℕ) (w : World) (id : ℕ) (a : Actor) →
    IsMidTurn setup least most draws w → living_of w.actors id ≡ Some a →
    Steps setup (clients_of w) w.next_id w.actors a
living_steps setup least most draws w id a mid found =
    living_stands setup (clients_of w) w.next_id (IsHurt setup.rules) w.actors id a mid.actors.ready
    mid.actors.hurt found

pub reload_mid :
    (setup : Setup) (least most draws : ℕ) (w : World) (id : ℕ) (a : Actor) →
    IsMidTurn setup least most draws w → living_of w.actors id ≡ Some a →
    IsMidTurn setup least most draws (with_reload w id)
reload_mid setup least most draws w id a mid found =
    let steps = living_steps setup least most draws w id a mid found in
    let is = body_of setup (clients_of w) w.next_id a steps.sound in
    let sound =
    all_sound setup (clients_of w) w.next_id (changed_at w.actors a.id reloaded) (reloaded a)
    (changed setup (clients_of w) w.next_id (IsHurt setup.rules) w.actors a reloaded steps refl
    (inl refl)
    (sound_body setup (clients_of w) w.next_id a (reloaded a).body steps.sound refl
    steps.sound.facing
    (record {
      leg = is.leg;
      load = is.load;
      reload = omega (arith, is.reload);
      act_count = is.act_count;
      acts = is.acts;
      build_count = is.build_count;
      builds = is.builds;
    }))
    steps.fine) in
    mid_of setup least most draws w.next_id w (changed_at w.actors id reloaded) mid
    (subst (λ i. AreSound setup (clients_of w) w.next_id (changed_at w.actors i reloaded))
    (id_of_living w.actors id a found) sound)

pub build_mid :
    (setup : Setup) (least most draws : ℕ) (w : World) (id : ℕ) (found : Option Actor) →
    living_of w.actors id ≡ found → IsMidTurn setup least most draws w →
    IsMidTurn setup least most draws (with_build setup w found)
build_mid setup least most draws w id None found mid = mid
build_mid setup least most draws w id (Some a) found mid =
    let living : living_of w.actors a.id ≡ Some a =
    subst (λ i. living_of w.actors i ≡ Some a) (sym (id_of_living w.actors id a found)) found in
    mid_of setup least most draws (after_build setup w.actors w.next_id a).next_id w
    (after_build setup w.actors w.next_id a).actors mid
    (build_sound setup (clients_of w) w.next_id w.actors a
    (living_steps setup least most draws w id a mid found) living)

harvested_mid :
    (setup : Setup) (least most draws : ℕ) (w : World) (after : Harvested) →
    IsMidTurn setup least most draws w →
    IsHarvested setup (clients_of w) w.next_id (harvest_of w) after →
    IsMidTurn setup least most draws (with_harvested w after)
harvested_mid setup least most draws w after mid is =
    record {
      ore = ore_kept setup.map.width setup.map.height w.ore after.ore is.ore mid.ore;
      least_tick = mid.least_tick;
      most_tick = mid.most_tick;
      drawn = mid.drawn;
      pace = mid.pace;
      clients =
          record {
            least = omega (arith, mid.clients.least, is.cash.clients);
            most = omega (arith, mid.clients.most, is.cash.clients);
            flags = mid.clients.flags ∙ sym is.cash.clients;
          };
      cash =
          All-from_get_or (λ c. c ≤ MAX_CASH) after.cash 0
          (λ k within.
          omega (arith, is.cash.most k, mid.cash k 0 (omega (arith, within, is.cash.clients))));
      actors =
          subst (λ c. AreSound setup c w.next_id after.actors) (sym is.cash.clients) is.sound;
    }

activity_mid :
    (setup : Setup) (least most draws : ℕ) (w : World) (a : Actor) (activity : Activity) →
    IsMapFor setup.rules setup.map → IsMidTurn setup least most draws w →
    Steps setup (clients_of w) w.next_id w.actors a →
    IsActivityOf setup.map (kind_of setup.rules a.kind) activity →
    IsMidTurn setup least most (draws + 1) (after_activity setup w a activity)
activity_mid setup least most draws w a (Move goal waits) map mid steps fits =
    mid_with setup least most draws w.drawn w.next_id w
    (after_move setup (blocks_of setup w.actors) w.actors a goal waits) mid
    (omega (arith, mid.drawn))
    (move_sound setup (blocks_of setup w.actors) (clients_of w) w.next_id w.actors a goal waits map
    steps fits)
activity_mid setup least most draws w a (Attack target waits) map mid steps fits =
    let is =
    attack_fought setup (blocks_of setup w.actors) (clients_of w) w.next_id (dice_of w) w.actors a
    target waits map steps fits in
    let after = after_attack setup (blocks_of setup w.actors) (dice_of w) w.actors a target waits in
    mid_with setup least most draws after.dice.drawn w.next_id w after.actors mid
    (omega (arith, mid.drawn, is.drawn)) is.sound
activity_mid setup least most draws w a (Harvest cell timer waits) map mid steps fits =
    more_draws setup least most draws _
    (harvested_mid setup least most draws w
    (after_harvest setup (blocks_of setup w.actors) (harvest_of w) a cell timer waits) mid
    (harvest_is setup (blocks_of setup w.actors) (clients_of w) w.next_id (harvest_of w) a cell
    timer waits map mid.ore.size steps fits))
activity_mid setup least most draws w a (Deliver home timer waits) map mid steps fits =
    more_draws setup least most draws _
    (harvested_mid setup least most draws w
    (after_deliver setup (blocks_of setup w.actors) (harvest_of w) a home timer waits) mid
    (deliver_is setup (blocks_of setup w.actors) (clients_of w) w.next_id (harvest_of w) a home
    timer waits map steps fits))

first_mid :
    (setup : Setup) (least most draws : ℕ) (w : World) (a : Actor) (acts : List Activity) →
    a.body.acts ≡ acts → IsMapFor setup.rules setup.map → IsMidTurn setup least most draws w →
    Steps setup (clients_of w) w.next_id w.actors a →
    IsMidTurn setup least most (draws + 1) (after_first setup w a acts)
first_mid setup least most draws w a [] has map mid steps = more_draws setup least most draws w mid
first_mid setup least most draws w a (activity ∷ later) has map mid steps =
    let P : Activity → Type 0 = IsActivityOf setup.map (kind_of setup.rules a.kind) in
    let is = body_of setup (clients_of w) w.next_id a steps.sound in
    activity_mid setup least most draws w a activity map mid steps
    (All-head P activity later (subst (All P) has is.acts))

leg_or_first :
    (setup : Setup) (least most draws : ℕ) (w : World) (a : Actor) (leg : Option Leg) →
    IsMapFor setup.rules setup.map → IsMidTurn setup least most draws w →
    Steps setup (clients_of w) w.next_id w.actors a →
    IsMidTurn setup least most (draws + 1) (after_way setup w a leg)
leg_or_first setup least most draws w a (Some leg) map mid steps =
    mid_with setup least most draws w.drawn w.next_id w _ mid (omega (arith, mid.drawn))
    (leg_sound setup (clients_of w) w.next_id w.actors a steps)
leg_or_first setup least most draws w a None map mid steps =
    first_mid setup least most draws w a a.body.acts refl map mid steps

pub way_mid :
    (setup : Setup) (least most draws : ℕ) (w : World) (id : ℕ) (found : Option Actor) →
    living_of w.actors id ≡ found → IsMapFor setup.rules setup.map →
    IsMidTurn setup least most draws w →
    IsMidTurn setup least most (draws + 1) (with_way setup w found)
way_mid setup least most draws w id None found map mid = more_draws setup least most draws w mid
way_mid setup least most draws w id (Some a) found map mid =
    leg_or_first setup least most draws w a a.body.leg map mid
    (living_steps setup least most draws w id a mid found)

step_if_mid :
    (setup : Setup) (least most draws : ℕ) (w : World) (id : ℕ) (found : Option Actor) →
    living_of w.actors id ≡ found → IsMapFor setup.rules setup.map →
    IsMidTurn setup least most draws w →
    IsMidTurn setup least most (draws + 1) (step_if setup w id found)
step_if_mid setup least most draws w id None found map mid = more_draws setup least most draws w mid
step_if_mid setup least most draws w id (Some a) found map mid =
    let reloaded : World = with_reload w id in
    let built : World = with_build setup reloaded (living_of reloaded.actors id) in
    way_mid setup least most draws built id (living_of built.actors id) refl map
    (build_mid setup least most draws reloaded id (living_of reloaded.actors id) refl
    (reload_mid setup least most draws w id a mid found))

-- A step keeps what a world in mid-turn is, and draws at most once.
pub step_mid :
    (setup : Setup) (least most draws : ℕ) (w : World) (id : ℕ) → IsMapFor setup.rules setup.map →
    IsMidTurn setup least most draws w →
    IsMidTurn setup least most (draws + 1) (after_step setup w id)
unfolding after_step
step_mid setup least most draws w id map mid =
    step_if_mid setup least most draws w id (living_of w.actors id) refl map mid

pub steps_mid :
    (setup : Setup) (least most draws all : ℕ) (w : World) (ids : List ℕ) →
    IsMapFor setup.rules setup.map →
    IsMidTurn setup least most draws w → draws + length ids ≡ all →
    IsMidTurn setup least most all (after_steps setup w ids)
steps_mid setup least most draws all w [] map mid sum =
    subst (λ d. IsMidTurn setup least most d w) (omega arith) mid
steps_mid setup least most draws all w (id ∷ ids) map mid sum =
    steps_mid setup least most (draws + 1) all (after_step setup w id) ids map
    (step_mid setup least most draws w id map mid) (omega arith)

pub length-ids_of : (actors : List Actor) → length (ids_of actors) ≡ length actors
length-ids_of [] = refl
length-ids_of (a ∷ actors) = ap suc (length-ids_of actors)

-- The valid world is in mid-turn.
pub mid_from_valid :
    (setup : Setup) (least most draws : ℕ) (w : World) → IsWorldWithin setup least most draws w →
    IsMidTurn setup least most draws w
mid_from_valid setup least most draws w valid =
    record {
      ore = valid.ore;
      least_tick = valid.least_tick;
      most_tick = valid.most_tick;
      drawn = valid.drawn;
      pace = valid.pace;
      clients = valid.clients;
      cash = valid.cash;
      actors =
          record {
            ready = valid.actors;
            hurt =
                λ k d within.
                some_weaker (kind_at setup.rules _) (IsHealthOf _) (λ kind. _ ≤ hp_of kind)
                (λ kind is. is.most) (valid.health k d within);
          };
    }

healthy_by :
    (rules : List Kind) (a : Actor) → IsHurt rules a → is_alive a ≡ true → IsHealthy rules a
healthy_by rules a hurt alive =
    some_weaker (kind_at rules a.kind) (λ kind. a.body.health ≤ hp_of kind)
    (IsHealthOf a.body.health)
    (λ kind most. record { least = ltb-true 0 a.body.health alive; most = most }) hurt

-- After the burial all have health.
healthy_after :
    (rules : List Kind) (actors : List Actor) → All (IsHurt rules) actors →
    All (IsHealthy rules) (filter is_alive actors)
healthy_after rules actors hurt = λ k d within.
    healthy_by rules (get_or (filter is_alive actors) k d)
    (All-filter is_alive (IsHurt rules) actors hurt k d within)
    (filter_passes is_alive actors k d within)

buried_valid :
    (setup : Setup) (least most draws : ℕ) (w : World) → IsMidTurn setup least most draws w →
    IsWorldWithin setup (least + 1) (most + 1) draws (record (buried w) { tick = w.tick + 1 })
buried_valid setup least most draws w mid =
    record {
      ore = mid.ore;
      least_tick = omega (arith, mid.least_tick);
      most_tick = omega (arith, mid.most_tick);
      drawn = mid.drawn;
      pace = mid.pace;
      clients = mid.clients;
      cash = mid.cash;
      actors = filter_ready setup (clients_of w) w.next_id is_alive w.actors mid.actors.ready;
      health = healthy_after setup.rules w.actors mid.actors.hurt;
    }

-- A turn counts one tick, and draws at most once for each actor.
pub turn_valid :
    (setup : Setup) (least most draws : ℕ) (w : World) → IsMapFor setup.rules setup.map →
    IsWorldWithin setup least most draws w →
    IsWorldWithin setup (least + 1) (most + 1) (draws + MAX_ACTORS) (after_turn setup w)
unfolding after_turn
turn_valid setup least most draws w map valid =
    let stepped : World = after_steps setup w (ids_of w.actors) in
    let mid =
    steps_mid setup least most draws (draws + length w.actors) w (ids_of w.actors) map
    (mid_from_valid setup least most draws w valid) (ap (λ n. draws + n) (length-ids_of w.actors))
    in
    let count = valid.actors.count in
    wider setup (least + 1) (most + 1) (draws + length w.actors) (least + 1) (most + 1)
    (draws + MAX_ACTORS) (record (buried stepped) { tick = stepped.tick + 1 })
    (buried_valid setup least most (draws + length w.actors) stepped mid) (omega arith)
    (omega arith) (omega arith)

pub turns_valid :
    (setup : Setup) (turns least most draws : ℕ) (w : World) → IsMapFor setup.rules setup.map →
    IsWorldWithin setup least most draws w →
    IsWorldWithin setup (least + turns) (most + turns) (draws + MAX_ACTORS * turns)
    (after_turns setup turns w)
turns_valid setup zero least most draws w map valid =
    wider setup least most draws (least + 0) (most + 0) (draws + MAX_ACTORS * 0) w valid
    (omega arith) (omega arith) (omega arith)
turns_valid setup (suc more) least most draws w map valid =
    wider setup (least + 1 + more) (most + 1 + more) (draws + MAX_ACTORS + MAX_ACTORS * more)
    (least + suc more) (most + suc more) (draws + MAX_ACTORS * suc more)
    (after_turns setup more (after_turn setup w))
    (turns_valid setup more (least + 1) (most + 1) (draws + MAX_ACTORS) (after_turn setup w) map
    (turn_valid setup least most draws w map valid))
    (omega arith) (omega arith) (omega arith)
