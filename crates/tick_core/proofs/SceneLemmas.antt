-- The parts of a step keep what holds of the parts of a world.
use Rattle.std.proofs.Common.{◌≡◌, ℕ, ◌+◌, ◌<◌, ◌≤◌, Bool, true, false, List, [], ◌∷◌, Option, Some, None, refl, sym, ap, ap₂, subst, ◌∙◌, arith}
use Rattle.std.specs.Prelude.{slice_get, IsSomeAnd, IsSome, IfSome, ◌==◌, if◌then◌else◌}
use Rattle.std.specs.List.{All, AllPairs, filter}
use Rattle.std.proofs.lemmas.List.Elements.{All-filter, All-head}
use Rattle.twister.specs.Place.{Place}
use Rattle.world_units.specs.declared.cell.CPos.{CPos}
use Rattle.world_units.specs.declared.direction.TheConstants.{DIRECTIONS}
use Rattle.rule_traits.specs.declared.kind.Kind.{Kind}
use Rattle.rule_traits.specs.Rules.{moves}
use Rattle.activities.specs.declared.activity.Activity.{Activity}
use Rattle.activities.specs.declared.activity.Activity.TheVariants.{Move, Attack, Harvest, Deliver}
use Rattle.game_model.specs.declared.actor.Actor.{Actor}
use Rattle.game_model.specs.declared.actor.Leg.{Leg}
use Rattle.game_model.specs.declared.world.World.{World}
use Rattle.game_model.specs.Grid.{Grid, IsOn}
use Rattle.game_model.specs.Setup.{Setup}
use Rattle.game_tick.proofs.ValidWorldLemmas.{filter_ready}
use Rattle.game_model.specs.ValidWorld.{IsActivityOf, IsLegOf}
use Rattle.game_model.specs.World.{actor_of, clients_of, is_alive, living_of}
use Rattle.game_model.specs.Kinds.{kind_of}
use Rattle.game_tick.proofs.BlocksLemmas.{build_blocks, reload_blocks, way_blocks}
use Rattle.game_tick.specs.Attacking.{Fought, after_attack, fought_with, is_in_range}
use Rattle.game_tick.specs.Building.{Built, after_build}
use Rattle.game_tick.proofs.ChangesLemmas.{id_of_living}
use Rattle.game_tick.specs.Harvesting.{Harvested}
use Rattle.game_tick.specs.MidTurn.{IsHurt, IsMidTurn}
use Rattle.game_tick.specs.Moving.{after_leg}
use Rattle.game_tick.proofs.SoundLemmas.{body_of}
use Rattle.game_tick.specs.Turn.{after_activity, after_first, after_way, blocks_of, buried, dice_of, harvest_of, with_build, with_harvested, with_reload, with_way}
use Rattle.game_tick.proofs.TurnLemmas.{build_mid, living_steps, reload_mid, way_mid}
use Rattle.game_model.proofs.LivingLemmas.{living_actor}
use Rattle.actor_table.specs.Table.{Table}
use Rattle.grid_routes.specs.Routing.{AreSized, IsSameSight, LooksAt, Routing}
use Rattle.combat.specs.Attacks as combat
use Rattle.combat.specs.Attacks.{IsFought, fought_by_id}
use Rattle.harvest.specs.Steps as gathering
use Rattle.harvest.specs.Steps.{HasWay, IsHarvested, LeadsOnMap, harvested_by_id}
use Rattle.motion.specs.Ground.{HasDirection}
use Rattle.motion.specs.Steps.{after_move_by_id}
use Rattle.production.specs.Steps.{built_by_id}
use Rattle.tick_core.specs.Scene.{DoesFirst, IsActing, IsGathering, IsScene}
use Rattle.tick_core.proofs.ChoiceLemmas.{by_if}

-- A world in mid-turn acts.
pub tight :
    (setup : Setup) (least most draws : ℕ) (w : World) → IsMidTurn setup least most draws w → IsActing setup w
tight setup least most draws w mid =
    record {
      ore = mid.ore;
      least_tick = omega arith;
      most_tick = omega arith;
      drawn = omega arith;
      pace = mid.pace;
      clients = mid.clients;
      cash = mid.cash;
      actors = mid.actors;
    }

-- Other parts of the same size, and the same blocks.
pub scene_with :
    (setup : Setup) (least most draws : ℕ) (w new : World) (table after : Table) (built : Grid Bool) (router routed : Routing) (dice rolled : Place) →
    IsScene setup w table built router dice → IsMidTurn setup least most draws new →
    after.width ≡ table.width → after.height ≡ table.height → IsSameSight router routed →
    blocks_of setup new.actors ≡ blocks_of setup w.actors → rolled ≡ dice_of new →
    IsScene setup new after built routed rolled
scene_with setup least most draws w new table after built router routed dice rolled is mid wide high same same_blocks rolled_is =
    record {
      stands = is.stands;
      acting = tight setup least most draws new mid;
      fits =
          record {
            wide = wide ∙ is.fits.wide;
            high = high ∙ is.fits.high;
            routes =
                record {
                  sizes =
                      record {
                        wide = same.size.wide ∙ is.fits.routes.sizes.wide;
                        high = same.size.high ∙ is.fits.routes.sizes.high;
                        terrain = is.fits.routes.sizes.terrain;
                        blocks = is.fits.routes.sizes.blocks;
                      };
                  terrain = same.terrain ∙ is.fits.routes.terrain;
                  blocks = same.built ∙ is.fits.routes.blocks;
                };
          };
      blocks = is.blocks ∙ sym same_blocks;
      thrown = rolled_is;
    }

pub same_sight : (router : Routing) → IsSameSight router router
same_sight router = record { size = record { wide = refl; high = refl }; terrain = refl; built = refl }

-- The actor reloads.
pub reload_scene :
    (setup : Setup) (w new : World) (table after : Table) (built : Grid Bool) (router : Routing) (dice : Place) (id : ℕ) (found : Option Actor) →
    living_of w.actors id ≡ found → IsSome found → IsScene setup w table built router dice →
    new ≡ with_reload w id → after.width ≡ table.width → after.height ≡ table.height →
    IsScene setup new after built router dice
reload_scene setup w new table after built router dice id None found lives is same wide high =
    absurd (let no : false ≡ true = lives in cc)
reload_scene setup w new table after built router dice id (Some a) found lives is same wide high =
    subst (λ n. IsScene setup n after built router dice) (sym same)
    (scene_with setup 0 w.tick w.drawn w (with_reload w id) table after built router router dice dice is
    (reload_mid setup 0 w.tick w.drawn w id a is.acting found) wide high (same_sight router)
    (reload_blocks setup 0 w.tick w.drawn w id a found is.acting) is.thrown)

-- The build goes on.
built_dice :
    (setup : Setup) (w : World) (found : Option Actor) → dice_of (with_build setup w found) ≡ dice_of w
built_dice setup w None = refl
built_dice setup w (Some a) = refl

pub build_scene :
    (setup : Setup) (w new : World) (table after : Table) (built : Grid Bool) (router : Routing) (dice : Place) (id : ℕ) →
    IsScene setup w table built router dice → new ≡ with_build setup w (living_of w.actors id) →
    after.width ≡ table.width → after.height ≡ table.height → IsScene setup new after built router dice
build_scene setup w new table after built router dice id is same wide high =
    let found : Option Actor = living_of w.actors id in
    subst (λ n. IsScene setup n after built router dice) (sym same)
    (scene_with setup 0 w.tick w.drawn w (with_build setup w found) table after built router router dice dice is
    (build_mid setup 0 w.tick w.drawn w id found refl is.acting) wide high (same_sight router)
    (build_blocks setup 0 w.tick w.drawn w id found refl is.acting) (is.thrown ∙ sym (built_dice setup w found)))

abbrev with_new : World → List Actor → ℕ → World
with_new w actors next_id = record w { actors = actors; next_id = next_id }

pub build_is :
    (setup : Setup) (w : World) (table after : Table) (next id : ℕ) (a : Actor) →
    Some a ≡ living_of w.actors id → Some a ≡ actor_of w.actors id → table.actors ≡ w.actors →
    after ≡ record table { actors = (built_by_id setup table.actors w.next_id (actor_of table.actors id)).actors } →
    next ≡ (built_by_id setup table.actors w.next_id (actor_of table.actors id)).next_id →
    with_new w after.actors next ≡ with_build setup w (living_of w.actors id)
build_is setup w table after next id a lives found here is next_is =
    let at : built_by_id setup table.actors w.next_id (actor_of table.actors id) ≡ after_build setup w.actors w.next_id a =
    rw (here, ← found) refl in
    ap₂ (λ (t : Table) (n : ℕ). with_new w t.actors n) is next_is
    ∙ ap (λ (b : Built). with_new w b.actors b.next_id) at
    ∙ ap (with_build setup w) lives

-- The actor goes on its way.
pub way_scene :
    (setup : Setup) (w new : World) (table after : Table) (built : Grid Bool) (router routed : Routing) (dice rolled : Place) (id : ℕ) →
    IsScene setup w table built router dice → new ≡ with_way setup w (living_of w.actors id) →
    after.width ≡ table.width → after.height ≡ table.height → IsSameSight router routed →
    rolled ≡ dice_of new → IsScene setup new after built routed rolled
way_scene setup w new table after built router routed dice rolled id is same wide high sized thrown =
    let found : Option Actor = living_of w.actors id in
    let way : World = with_way setup w found in
    subst (λ n. IsScene setup n after built routed rolled) (sym same)
    (scene_with setup 0 w.tick (w.drawn + 1) w way table after built router routed dice rolled is
    (way_mid setup 0 w.tick w.drawn w id found refl is.stands.map is.acting) wide high sized
    (way_blocks setup 0 w.tick w.drawn w id found refl is.stands.map is.acting) (thrown ∙ ap dice_of same))

-- The first activity, where the actor is on no leg.
first_is :
    (setup : Setup) (w : World) (a : Actor) (acts : List Activity) (act : Activity) →
    slice_get acts 0 ≡ Some act → after_first setup w a acts ≡ after_activity setup w a act
first_is setup w a [] act at = absurd cc
first_is setup w a (b ∷ later) act at = let same : b ≡ act = cc in ap (after_activity setup w a) same

way_first :
    (setup : Setup) (w : World) (a : Actor) (act : Activity) → DoesFirst act a →
    with_way setup w (Some a) ≡ after_activity setup w a act
way_first setup w a act does =
    ap (after_way setup w a) does.0 ∙ first_is setup w a a.body.acts act does.1

-- The first activity of a sound actor is sound.
sound_head :
    (P : Activity → Type 0) (acts : List Activity) (act : Activity) → All P acts →
    slice_get acts 0 ≡ Some act → P act
sound_head P [] act all at = absurd cc
sound_head P (b ∷ later) act all at = let same : b ≡ act = cc in subst P same (All-head P b later all)

pub first_sound :
    (setup : Setup) (w : World) (id : ℕ) (a : Actor) (act : Activity) → IsActing setup w →
    living_of w.actors id ≡ Some a → slice_get a.body.acts 0 ≡ Some act →
    IsActivityOf setup.map (kind_of setup.rules a.kind) act
first_sound setup w id a act acting found at =
    let steps = living_steps setup 0 w.tick w.drawn w id a acting found in
    sound_head (IsActivityOf setup.map (kind_of setup.rules a.kind)) a.body.acts act
    (body_of setup (clients_of w) w.next_id a steps.sound).acts at

-- A Move.
abbrev pub with_list : World → List Actor → World
with_list w actors = record w { actors = actors }

walk_by :
    (setup : Setup) (w : World) (table after : Table) (built : Grid Bool) (id : ℕ) (goal : CPos) (waits : ℕ) (found : Option Actor) →
    living_of w.actors id ≡ found → AllPairs (λ (a b : Actor). a.id < b.id) w.actors →
    IsSomeAnd found (DoesFirst (Move goal waits)) → table.actors ≡ w.actors → built ≡ blocks_of setup w.actors →
    after ≡ record table { actors = after_move_by_id setup built table.actors goal waits (actor_of table.actors id) } →
    with_list w after.actors ≡ with_way setup w found
walk_by setup w table after built id goal waits None found rise does here same is = absurd does
walk_by setup w table after built id goal waits (Some a) found rise does here same is =
    let at : actor_of w.actors id ≡ Some a = living_actor w.actors id a rise found in
    rw (is, here, at, same) (sym (way_first setup w a (Move goal waits) does))

pub walk_is :
    (setup : Setup) (w : World) (table after : Table) (built : Grid Bool) (router : Routing) (dice : Place) (id : ℕ) (goal : CPos) (waits : ℕ) →
    IsScene setup w table built router dice → IsSomeAnd (living_of w.actors id) (DoesFirst (Move goal waits)) →
    table.actors ≡ w.actors →
    after ≡ record table { actors = after_move_by_id setup built table.actors goal waits (actor_of table.actors id) } →
    with_list w after.actors ≡ with_way setup w (living_of w.actors id)
walk_is setup w table after built router dice id goal waits scene does here is =
    walk_by setup w table after built id goal waits (living_of w.actors id) refl scene.acting.actors.ready.rise does here scene.blocks is

goal_by :
    (setup : Setup) (w : World) (id : ℕ) (goal : CPos) (waits : ℕ) (found : Option Actor) →
    living_of w.actors id ≡ found → IsActing setup w → IsSomeAnd found (DoesFirst (Move goal waits)) →
    IsOn setup.map.width setup.map.height goal
goal_by setup w id goal waits None found acting does = absurd does
goal_by setup w id goal waits (Some a) found acting does =
    (first_sound setup w id a (Move goal waits) acting found does.1).1.on_map

pub goal_on :
    (setup : Setup) (w : World) (id : ℕ) (goal : CPos) (waits : ℕ) → IsActing setup w →
    IsSomeAnd (living_of w.actors id) (DoesFirst (Move goal waits)) → IsOn setup.map.width setup.map.height goal
goal_on setup w id goal waits acting does =
    goal_by setup w id goal waits (living_of w.actors id) refl acting does

-- A leg.
leg_by :
    (setup : Setup) (w : World) (id : ℕ) (found : Option Actor) → living_of w.actors id ≡ found →
    IsActing setup w → IsSomeAnd found (λ a. IsSome a.body.leg) → IfSome (actor_of w.actors id) HasDirection
leg_by setup w id None found acting does = absurd does
leg_by setup w id (Some a) found acting does =
    let steps = living_steps setup 0 w.tick w.drawn w id a acting found in
    rw (living_actor w.actors id a acting.actors.ready.rise found)
    (directed (kind_of setup.rules a.kind) a.body.leg (body_of setup (clients_of w) w.next_id a steps.sound).leg) where
      directed :
          (kind : Kind) (leg : Option Leg) → IfSome leg (IsLegOf kind) → IfSome leg (λ (l : Leg). l.dir < DIRECTIONS)
      directed kind None is = is
      directed kind (Some leg) is = is.direction

pub leg_on :
    (setup : Setup) (w : World) (id : ℕ) → IsActing setup w →
    IsSomeAnd (living_of w.actors id) (λ a. IsSome a.body.leg) → IfSome (actor_of w.actors id) HasDirection
leg_on setup w id acting does = leg_by setup w id (living_of w.actors id) refl acting does

advance_by :
    (setup : Setup) (w : World) (table after : Table) (id : ℕ) (found : Option Actor) →
    living_of w.actors id ≡ found → IsSomeAnd found (λ a. IsSome a.body.leg) → table.actors ≡ w.actors →
    after ≡ record table { actors = after_leg setup.rules table.actors id } →
    with_list w after.actors ≡ with_way setup w found
advance_by setup w table after id None found does here is = absurd does
advance_by setup w table after id (Some a) found does here is =
    ap (λ (t : Table). with_list w t.actors) is
    ∙ ap (λ l. with_list w (after_leg setup.rules l id)) here
    ∙ ap (λ i. with_list w (after_leg setup.rules w.actors i)) (sym (id_of_living w.actors id a found))
    ∙ legged a.body.leg does where
      legged :
          (leg : Option Leg) → IsSome leg →
          with_list w (after_leg setup.rules w.actors a.id) ≡ after_way setup w a leg
      legged None some = absurd (let no : false ≡ true = some in cc)
      legged (Some leg) some = refl

pub advance_is :
    (setup : Setup) (w : World) (table after : Table) (id : ℕ) →
    IsSomeAnd (living_of w.actors id) (λ a. IsSome a.body.leg) → table.actors ≡ w.actors →
    after ≡ record table { actors = after_leg setup.rules table.actors id } →
    with_list w after.actors ≡ with_way setup w (living_of w.actors id)
advance_is setup w table after id does here is = advance_by setup w table after id (living_of w.actors id) refl does here is

-- An Attack.
abbrev with_shot : World → List Actor → ℕ → World
with_shot w actors drawn = record w { actors = actors; drawn = drawn }

first_head :
    (setup : Setup) (built : Grid Bool) (dice : Place) (actors : List Actor) (a : Actor) (found : Option Activity) (target waits : ℕ) →
    found ≡ Some (Attack target waits) →
    combat.after_first setup built dice actors a found ≡ after_attack setup built dice actors a target waits
first_head setup built dice actors a found target waits is = rw is refl

fight_by :
    (setup : Setup) (w : World) (table after : Table) (built : Grid Bool) (dice rolled : Place) (id target waits : ℕ) (found : Option Actor) →
    living_of w.actors id ≡ found → AllPairs (λ (a b : Actor). a.id < b.id) w.actors →
    IsSomeAnd found (DoesFirst (Attack target waits)) → table.actors ≡ w.actors → built ≡ blocks_of setup w.actors →
    dice ≡ dice_of w →
    IsFought table after rolled (fought_by_id setup built dice table.actors (actor_of table.actors id)) →
    with_shot w after.actors rolled.drawn ≡ with_way setup w found
fight_by setup w table after built dice rolled id target waits None found rise does here same thrown is = absurd does
fight_by setup w table after built dice rolled id target waits (Some a) found rise does here same thrown is =
    let at : actor_of w.actors id ≡ Some a = living_actor w.actors id a rise found in
    let fought : fought_by_id setup built dice table.actors (actor_of table.actors id) ≡ after_attack setup (blocks_of setup w.actors) (dice_of w) w.actors a target waits =
    rw (here, at, same, thrown) (first_head setup (blocks_of setup w.actors) (dice_of w) w.actors a (slice_get a.body.acts 0) target waits does.1) in
    ap₂ (λ (t : Table) (p : Place). with_shot w t.actors p.drawn) is.actors is.dice
    ∙ ap (λ (f : Fought). with_shot w f.actors f.dice.drawn) fought
    ∙ sym (way_first setup w a (Attack target waits) does)

pub fight_is :
    (setup : Setup) (w : World) (table after : Table) (built : Grid Bool) (router : Routing) (dice rolled : Place) (id target waits : ℕ) →
    IsScene setup w table built router dice → IsSomeAnd (living_of w.actors id) (DoesFirst (Attack target waits)) →
    table.actors ≡ w.actors →
    IsFought table after rolled (fought_by_id setup built dice table.actors (actor_of table.actors id)) →
    with_shot w after.actors rolled.drawn ≡ with_way setup w (living_of w.actors id)
fight_is setup w table after built router dice rolled id target waits scene does here is =
    fight_by setup w table after built dice rolled id target waits (living_of w.actors id) refl scene.acting.actors.ready.rise does here scene.blocks scene.thrown is

-- A Harvest or a Deliver.
abbrev with_bales : World → List Actor → Grid ℕ → List ℕ → World
with_bales w actors ore cash = record w { actors = actors; ore = ore; cash = cash }

gather_first :
    (setup : Setup) (w : World) (a : Actor) (first : Activity) (found : Option Activity) → IsGathering first →
    found ≡ Some first →
    with_harvested w (gathering.after_first setup (blocks_of setup w.actors) (harvest_of w) a found)
    ≡ after_activity setup w a first
gather_first setup w a (Move goal waits) found gathers is = absurd gathers
gather_first setup w a (Attack target waits) found gathers is = absurd gathers
gather_first setup w a (Harvest cell timer waits) found gathers is = rw is refl
gather_first setup w a (Deliver home timer waits) found gathers is = rw is refl

gather_by :
    (setup : Setup) (w : World) (table after : Table) (built : Grid Bool) (ore : Grid ℕ) (cash : List ℕ) (id : ℕ) (first : Activity) (found : Option Actor) →
    living_of w.actors id ≡ found → AllPairs (λ (a b : Actor). a.id < b.id) w.actors →
    IsSomeAnd found (DoesFirst first) → IsGathering first → table.actors ≡ w.actors → built ≡ blocks_of setup w.actors →
    IsHarvested table after ore cash (harvested_by_id setup built (record { actors = table.actors; ore = w.ore; cash = w.cash }) (actor_of table.actors id)) →
    with_bales w after.actors ore cash ≡ with_way setup w found
gather_by setup w table after built ore cash id first None found rise does gathers here same is = absurd does
gather_by setup w table after built ore cash id first (Some a) found rise does gathers here same is =
    let at : actor_of w.actors id ≡ Some a = living_actor w.actors id a rise found in
    let all : Harvested = harvested_by_id setup built (record { actors = table.actors; ore = w.ore; cash = w.cash }) (actor_of table.actors id) in
    let done : all ≡ gathering.after_first setup (blocks_of setup w.actors) (harvest_of w) a (slice_get a.body.acts 0) = rw (here, at, same) refl in
    ap₂ (λ (t : Table) (o : Grid ℕ). with_bales w t.actors o cash) is.actors is.ore
    ∙ ap (λ c. with_bales w all.actors all.ore c) is.cash
    ∙ ap (with_harvested w) done
    ∙ gather_first setup w a first (slice_get a.body.acts 0) gathers does.1
    ∙ sym (way_first setup w a first does)

pub gather_is :
    (setup : Setup) (w : World) (table after : Table) (built : Grid Bool) (router : Routing) (dice : Place) (ore : Grid ℕ) (cash : List ℕ) (id : ℕ) (first : Activity) →
    IsScene setup w table built router dice → IsSomeAnd (living_of w.actors id) (DoesFirst first) → IsGathering first →
    table.actors ≡ w.actors →
    IsHarvested table after ore cash (harvested_by_id setup built (record { actors = table.actors; ore = w.ore; cash = w.cash }) (actor_of table.actors id)) →
    with_bales w after.actors ore cash ≡ with_way setup w (living_of w.actors id)
gather_is setup w table after built router dice ore cash id first scene does gathers here is =
    gather_by setup w table after built ore cash id first (living_of w.actors id) refl scene.acting.actors.ready.rise does gathers here scene.blocks is

leads :
    (setup : Setup) (kind : Kind) (first : Activity) → IsActivityOf setup.map kind first → LeadsOnMap setup.map first
leads setup kind (Move goal waits) is = tt
leads setup kind (Attack target waits) is = tt
leads setup kind (Harvest cell timer waits) is = is.1.on_map
leads setup kind (Deliver home timer waits) is = tt

has_way :
    (setup : Setup) (a : Actor) (first : Activity) (found : Option Activity) → found ≡ Some first →
    LeadsOnMap setup.map first → IfSome found (LeadsOnMap setup.map)
has_way setup a first found is lead = rw is lead

way_by :
    (setup : Setup) (w : World) (id : ℕ) (first : Activity) (found : Option Actor) → living_of w.actors id ≡ found →
    IsActing setup w → IsSomeAnd found (DoesFirst first) → IfSome (actor_of w.actors id) (HasWay setup.map)
way_by setup w id first None found acting does = absurd does
way_by setup w id first (Some a) found acting does =
    rw (living_actor w.actors id a acting.actors.ready.rise found)
    (has_way setup a first (slice_get a.body.acts 0) does.1
    (leads setup (kind_of setup.rules a.kind) first (first_sound setup w id a first acting found does.1)))

pub way_on :
    (setup : Setup) (w : World) (id : ℕ) (first : Activity) → IsActing setup w →
    IsSomeAnd (living_of w.actors id) (DoesFirst first) → IfSome (actor_of w.actors id) (HasWay setup.map)
way_on setup w id first acting does = way_by setup w id first (living_of w.actors id) refl acting does

-- An attack leaves the seed.
abbrev SeedStays : ℕ → Fought → Type 0
SeedStays seed f = f.dice.seed ≡ seed

seed_with :
    (setup : Setup) (built : Grid Bool) (dice : Place) (actors : List Actor) (a : Actor) (kind : Kind) (waits : ℕ) (found : Option Actor) →
    SeedStays dice.seed (fought_with setup built dice actors a kind waits found)
seed_with setup built dice actors a kind waits None = refl
seed_with setup built dice actors a kind waits (Some target) =
    by_if (SeedStays dice.seed) (is_in_range kind a target) _ _
    (by_if (SeedStays dice.seed) (a.body.reload == 0) _ _ refl refl)
    (by_if (SeedStays dice.seed) (moves kind) _ _ refl refl)

attack_seed :
    (setup : Setup) (built : Grid Bool) (dice : Place) (actors : List Actor) (a : Actor) (target waits : ℕ) →
    SeedStays dice.seed (after_attack setup built dice actors a target waits)
unfolding after_attack
attack_seed setup built dice actors a target waits =
    seed_with setup built dice actors a (kind_of setup.rules a.kind) waits (living_of actors target)

first_seed :
    (setup : Setup) (built : Grid Bool) (dice : Place) (actors : List Actor) (a : Actor) (found : Option Activity) →
    SeedStays dice.seed (combat.after_first setup built dice actors a found)
first_seed setup built dice actors a None = refl
first_seed setup built dice actors a (Some (Move goal waits)) = refl
first_seed setup built dice actors a (Some (Attack target waits)) = attack_seed setup built dice actors a target waits
first_seed setup built dice actors a (Some (Harvest cell timer waits)) = refl
first_seed setup built dice actors a (Some (Deliver home timer waits)) = refl

fought_seed :
    (setup : Setup) (built : Grid Bool) (dice : Place) (actors : List Actor) (found : Option Actor) →
    SeedStays dice.seed (fought_by_id setup built dice actors found)
fought_seed setup built dice actors None = refl
fought_seed setup built dice actors (Some a) = first_seed setup built dice actors a (slice_get a.body.acts 0)

pub fight_dice :
    (setup : Setup) (w : World) (table after : Table) (built : Grid Bool) (dice rolled : Place) (id : ℕ) →
    dice ≡ dice_of w →
    IsFought table after rolled (fought_by_id setup built dice table.actors (actor_of table.actors id)) →
    rolled ≡ record { seed = w.seed; drawn = rolled.drawn }
fight_dice setup w table after built dice rolled id thrown is =
    let seed : rolled.seed ≡ w.seed =
    ap (λ (p : Place). p.seed) is.dice ∙ fought_seed setup built dice table.actors (actor_of table.actors id)
    ∙ ap (λ (p : Place). p.seed) thrown in
    ap (λ n. record { seed = n; drawn = rolled.drawn }) seed

-- The burial, where the blocks of the dead are cleared, and the router looks at what is left.
pub sized_left :
    (setup : Setup) (w : World) (table : Table) (built left : Grid Bool) (router : Routing) (dice : Place) →
    IsScene setup w table built router dice → left ≡ blocks_of setup (filter is_alive w.actors) →
    AreSized router setup.map left
sized_left setup w table built left router dice is cleared = record {
  wide = is.fits.routes.sizes.wide;
  high = is.fits.routes.sizes.high;
  terrain = is.fits.routes.sizes.terrain;
  blocks =
      record {
        width = ap (λ (g : Grid Bool). g.width) cleared;
        height = ap (λ (g : Grid Bool). g.height) cleared;
      };
}

bury_by :
    (setup : Setup) (w : World) (table after : Table) (built left : Grid Bool) (router routed : Routing) (dice : Place) →
    IsScene setup w table built router dice → after.width ≡ table.width → after.height ≡ table.height →
    left ≡ blocks_of setup (filter is_alive w.actors) →
    LooksAt routed setup.map left →
    IsScene setup (buried w) after left routed dice
bury_by setup w table after built left router routed dice is wide high cleared looks =
    let mid = is.acting in
    record {
      stands = is.stands;
      acting =
          record {
            ore = mid.ore;
            least_tick = mid.least_tick;
            most_tick = mid.most_tick;
            drawn = mid.drawn;
            pace = mid.pace;
            clients = mid.clients;
            cash = mid.cash;
            actors =
                record {
                  ready = filter_ready setup (clients_of w) w.next_id is_alive w.actors mid.actors.ready;
                  hurt = All-filter is_alive (IsHurt setup.rules) w.actors mid.actors.hurt;
                };
          };
      fits =
          record {
            wide = wide ∙ is.fits.wide;
            high = high ∙ is.fits.high;
            routes = looks;
          };
      blocks = cleared;
      thrown = is.thrown;
    }

pub bury_scene :
    (setup : Setup) (w new : World) (table after : Table) (built left : Grid Bool) (router routed : Routing) (dice : Place) →
    IsScene setup w table built router dice → new ≡ buried w → after.width ≡ table.width →
    after.height ≡ table.height → left ≡ blocks_of setup (filter is_alive w.actors) →
    LooksAt routed setup.map left →
    IsScene setup new after left routed dice
bury_scene setup w new table after built left router routed dice is same wide high cleared looks =
    subst (λ n. IsScene setup n after left routed dice) (sym same)
    (bury_by setup w table after built left router routed dice is wide high cleared looks)
